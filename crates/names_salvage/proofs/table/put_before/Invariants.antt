use Prim.Native.Nat.{◌≤◌}
use Rattle.names_salvage.proofs.TableLaws.{Moving}
use Rattle.names_salvage.proofs.table.put_before.Given as goal

abbrev pub invariant-loop-k : goal.invariant-loop-k
invariant-loop-k l = Moving l.initial.slots l.slots l.n l.k × (l.i ≤ l.k)

abbrev pub decreases-loop-k : goal.decreases-loop-k
decreases-loop-k l = l.k
