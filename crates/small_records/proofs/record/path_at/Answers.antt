-- `small_records::record::path_at` meets its contract: the line is there with its key, and then the value decides. Assumes nothing.
use mathlib.Core.Path.{ap, ◌∙◌}
use Rattle.lines.specs.Answers.{part, value_read}
use Rattle.small_records.proofs.PlaceLaws.{value_if, path_is, no_path}
use Rattle.small_records.proofs.record.path_at.Goals as goal

pub returns-in_err-value : goal.returns-in_err-value
returns-in_err-value c = ap value_read c.from_residual.ensures ∙ no_path _ _ c.in_err-value.ensures.value

pub returns : goal.returns
returns c =
    let v = c.in_ok-value.value in
    ap value_read c.then_some.ensures ∙ value_if c.is_hex.result v ∙ path_is _ _ (part v) c.text.ensures c.in_ok-value.ensures.value c.is_hex.ensures
