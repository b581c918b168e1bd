use Rattle.store_check.proofs.ChildLaws.{Beginning}
use Rattle.store_check.proofs.parents.starts.Given as goal

abbrev pub invariant-loop-i : goal.invariant-loop-i
invariant-loop-i l = Beginning l.lens l.i l.sum l.begins
