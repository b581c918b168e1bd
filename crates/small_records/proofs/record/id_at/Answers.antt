-- `small_records::record::id_at` meets its contract: the line is there with its key, and then the value decides. Assumes nothing.
use mathlib.Core.Path.{ap, ◌∙◌}
use Rattle.lines.specs.Answers.{part, value_read}
use Rattle.small_records.specs.Answers.{as_op}
use Rattle.small_records.proofs.PlaceLaws.{value_if, id_is, no_id}
use Rattle.small_records.proofs.record.id_at.Goals as goal

pub returns-in_err-value : goal.returns-in_err-value
returns-in_err-value c = ap value_read c.from_residual.ensures ∙ no_id _ _ c.args.width (as_op c.args.op) c.in_err-value.ensures.value

pub returns : goal.returns
returns c =
    let v = c.in_ok-value.value in
    ap value_read c.then_some.ensures ∙ value_if c.id_ok.result v ∙ id_is _ _ (part v) c.text.ensures c.args.width (as_op c.args.op) c.in_ok-value.ensures.value c.id_ok.ensures
