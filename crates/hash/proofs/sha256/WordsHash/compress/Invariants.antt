use Rattle.std.proofs.Common.{◌≡◌, ◌*◌}
use Rattle.hash.specs.Blocks.{turns}
use Rattle.hash.specs.Sha256.{turn}
use Rattle.hash.proofs.sha256.WordsHash.compress.Given as goal

abbrev pub invariant-loop-row : goal.invariant-loop-row
invariant-loop-row l = l.s ≡ turns turn l.w l.self (4 * l.row)

abbrev pub invariant-loop-t : goal.invariant-loop-t
invariant-loop-t l = l.s ≡ turns turn l.w l.self l.t
