use Rattle.names.proofs.WriteLaws.{Putting}
use Rattle.names.proofs.write.put.Given as goal

abbrev pub invariant-loop-i : goal.invariant-loop-i
invariant-loop-i l = Putting l.initial.out l.out l.at l.s l.i
