-- `small_records::record::op_at` meets its contract: the line is there with its key, and then the value decides. Assumes nothing.
use mathlib.Core.Path.{ap, ◌∙◌}
use Rattle.lines.specs.Answers.{part}
use Rattle.small_records.specs.Answers.{op_line}
use Rattle.small_records.proofs.PlaceLaws.{op_is, no_op}
use Rattle.small_records.proofs.record.op_at.Goals as goal

pub returns-in_err-value : goal.returns-in_err-value
returns-in_err-value c = ap op_line c.from_residual.ensures ∙ no_op _ _ c.in_err-value.ensures.value

pub returns-in_err-what : goal.returns-in_err-what
returns-in_err-what c = ap op_line c.from_residual-in_err-what.ensures ∙ op_is _ _ (part c.in_ok-value.value) c.text.ensures c.in_ok-value.ensures.value c.in_err-what.ensures

pub returns : goal.returns
returns c = rw c.past-next.ensures (op_is _ _ (part c.in_ok-value.value) c.text.ensures c.in_ok-value.ensures.value c.in_ok-what.ensures)
