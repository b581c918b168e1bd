use Rattle.names.proofs.ModeLaws.{Reading}
use Rattle.names.proofs.mode.Mode.from_octal.Given as goal

abbrev pub invariant-loop-d : goal.invariant-loop-d
invariant-loop-d l = Reading l.s l.bits l.d-index
