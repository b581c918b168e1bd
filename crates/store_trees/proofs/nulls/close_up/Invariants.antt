use Prim.Native.Nat.{◌-◌}
use lib.ListN.{length}
use Rattle.store_trees.proofs.NullLaws.{Closing}
use Rattle.store_trees.proofs.nulls.close_up.Given as goal

abbrev pub invariant-loop-at : goal.invariant-loop-at
invariant-loop-at l = Closing l.width l.initial.run l.run l.at l.used l.gone

abbrev pub decreases-loop-at : goal.decreases-loop-at
decreases-loop-at l = length l.run - l.at
