use Prim.Native.Nat.{◌-◌}
use lib.ListN.{length}
use Rattle.store_check.specs.Parents.{Starts}
use Rattle.store_check.proofs.parents.Parent.entry_after.Given as goal

abbrev pub invariant-loop-a : goal.invariant-loop-a
invariant-loop-a l = Starts l.self.tree.width l.tree l.a

abbrev pub decreases-loop-a : goal.decreases-loop-a
decreases-loop-a l = length l.tree - l.a
