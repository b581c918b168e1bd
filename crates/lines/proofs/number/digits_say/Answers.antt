-- `lines::number::digits_say` meets its contract: the digits passed have said the number so far, so what is left decides. Assumes nothing.
use mathlib.Core.Path.{ap, ◌∙◌}
use Rattle.lines.specs.Answers.{number_read}
use Rattle.lines.proofs.NumberLaws.{numbering_end, numbering_stop, numbering_more}
use Rattle.lines.proofs.number.digits_say.Goals as goal

pub returns-in_err-n : goal.returns-in_err-n
returns-in_err-n c = ap number_read c.from_residual.ensures ∙ numbering_stop c.loop-b.invariant c.loop-b-test.true c.in_err-n.ensures

pub loop-b-preserved : goal.loop-b-preserved
loop-b-preserved c = numbering_more c.loop-b.invariant c.loop-b-test.true c.in_ok-n.ensures

pub returns : goal.returns
returns c = numbering_end c.loop-b.invariant c.loop-b-test.false
