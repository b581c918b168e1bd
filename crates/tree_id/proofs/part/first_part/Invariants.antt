use Prim.Native.Nat.{◌-◌}
use lib.ListN.{length}
use Rattle.tree_id.proofs.PartLaws.{Parting}
use Rattle.tree_id.proofs.part.first_part.Given as goal

abbrev pub invariant-loop-at : goal.invariant-loop-at
invariant-loop-at l = Parting l.width l.bytes l.at l.size

abbrev pub decreases-loop-at : goal.decreases-loop-at
decreases-loop-at l = length l.bytes - l.at
