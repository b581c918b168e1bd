use Rattle.lines.proofs.NumberLaws.{Numbering}
use Rattle.lines.proofs.number.digits_say.Given as goal

abbrev pub invariant-loop-b : goal.invariant-loop-b
invariant-loop-b l = Numbering l.text l.b-index l.n
