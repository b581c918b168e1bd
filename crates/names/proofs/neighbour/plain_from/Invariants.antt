use Rattle.names.proofs.StandingLaws.{Plain}
use Rattle.names.proofs.neighbour.plain_from.Given as goal

abbrev pub invariant-loop-i : goal.invariant-loop-i
invariant-loop-i l = Plain l.name l.from l.i
