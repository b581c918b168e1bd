use Prim.Native.Nat.{◌-◌}
use lib.ListN.{length}
use Rattle.editor_walk.proofs.SeenLaws.{Scanning}
use Rattle.editor_walk.proofs.seen.seen_in_raw.Given as goal

abbrev pub invariant-loop-at : goal.invariant-loop-at
invariant-loop-at l = Scanning l.raw l.name l.at

abbrev pub decreases-loop-at : goal.decreases-loop-at
decreases-loop-at l = length l.raw - l.at
