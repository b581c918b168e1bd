-- `lines::line::value_at` meets its contract: a line ends at the first newline, and its value stands behind the key where it begins with that. Assumes nothing.
use mathlib.Core.Path.{ap, ◌∙◌}
use Rattle.lines.specs.Answers.{value_read}
use Rattle.lines.proofs.PlaceLaws.{no_newline, other_key, has_key}
use Rattle.lines.proofs.line.value_at.Goals as goal

pub returns-in_err-n-clause-value : goal.returns-in_err-n-clause-value
returns-in_err-n-clause-value c = ap value_read c.from_residual.ensures ∙ no_newline _ _ _ c.after-rest.ensures c.in_err-n.ensures

pub returns-in_err-value-clause-value : goal.returns-in_err-value-clause-value
returns-in_err-value-clause-value c = ap value_read c.from_residual-in_err-value.ensures ∙ other_key _ _ _ c.after-rest.ensures c.in_ok-n.ensures c.in_err-value.ensures.cases

pub returns-clause-value : goal.returns-clause-value
returns-clause-value c = has_key _ _ _ c.after-rest.ensures c.in_ok-n.ensures c.in_ok-value.ensures.cases
