use Rattle.names.proofs.StandingLaws.{Alike}
use Rattle.names.proofs.order.shared_from.Given as goal

abbrev pub invariant-loop-i : goal.invariant-loop-i
invariant-loop-i l = Alike l.a l.b l.n l.i
