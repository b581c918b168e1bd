-- `small_records::record::kind_at` meets its contract: the line is there with its key, and then the value decides. Assumes nothing.
use mathlib.Core.Path.{ap, ◌∙◌}
use Rattle.lines.specs.Answers.{part}
use Rattle.small_records.specs.Answers.{as_verb, kind_line}
use Rattle.small_records.proofs.PlaceLaws.{kind_is, no_kind}
use Rattle.small_records.proofs.record.kind_at.Goals as goal

pub returns-in_err-value : goal.returns-in_err-value
returns-in_err-value c = ap kind_line c.from_residual.ensures ∙ no_kind _ _ (as_verb c.args.verb) c.in_err-value.ensures.value

pub returns-in_err-what : goal.returns-in_err-what
returns-in_err-what c = ap kind_line c.from_residual-in_err-what.ensures ∙ kind_is _ _ (part c.in_ok-value.value) c.text.ensures (as_verb c.args.verb) c.in_ok-value.ensures.value c.in_err-what.ensures

pub returns : goal.returns
returns c = rw c.past-next.ensures (kind_is _ _ (part c.in_ok-value.value) c.text.ensures (as_verb c.args.verb) c.in_ok-value.ensures.value c.in_ok-what.ensures)
