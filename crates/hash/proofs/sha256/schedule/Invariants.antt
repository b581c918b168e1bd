use Rattle.std.proofs.Common.{◌≡◌, length, take}
use Rattle.hash.specs.Blocks.{words}
use Rattle.hash.specs.Sha256.{next}
use Rattle.hash.proofs.sha256.schedule.Given as goal

abbrev pub invariant-loop-t : goal.invariant-loop-t
invariant-loop-t l = (length l.w ≡ 64) × (take l.t l.w ≡ words next l.block l.t)
