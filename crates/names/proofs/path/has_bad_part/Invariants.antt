use Rattle.names.proofs.ValidLaws.{Parting}
use Rattle.names.proofs.path.has_bad_part.Given as goal

abbrev pub invariant-loop-i : goal.invariant-loop-i
invariant-loop-i l = Parting l.path l.start l.i
