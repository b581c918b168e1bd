use Rattle.std.proofs.Common.{◌≡◌, ℕ, List, length, take}
use Rattle.hash.specs.Blocks.{words}
use Rattle.hash.proofs.word.begin.Given as goal

abbrev pub invariant-loop-t : goal.invariant-loop-t
invariant-loop-t g l = (length l.w ≡ g.row.N) × ((next : List ℕ → ℕ → ℕ) → take l.t l.w ≡ words next l.block l.t)
