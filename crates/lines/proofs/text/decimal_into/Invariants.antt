use Rattle.lines.proofs.TextLaws.{Digits}
use Rattle.lines.proofs.text.decimal_into.Given as goal

abbrev pub invariant-loop-i : goal.invariant-loop-i
invariant-loop-i l = Digits l.n l.digits l.i l.m
