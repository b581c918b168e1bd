-- `small_records::record::op_of` meets its contract: an upsert has a mode, and a removal none. Assumes nothing.
use mathlib.Core.Path.{ap, ◌∙◌}
use Rattle.small_records.proofs.PlaceLaws.{op_if, kind_of_upsert, kind_of_removal}
use Rattle.small_records.specs.Answers.{as_verb, op_read}
use Rattle.small_records.proofs.record.op_of.Goals as goal

pub returns-in_err-from_octal-in-Upsert : goal.returns-in_err-from_octal-in-Upsert
returns-in_err-from_octal-in-Upsert c = ap op_read c.from_residual.ensures ∙ kind_of_upsert _ (ap as_verb c.in-Upsert.is) c.in_err-from_octal-in-Upsert.ensures

pub returns-in_ok-from_octal-in-Upsert : goal.returns-in_ok-from_octal-in-Upsert
returns-in_ok-from_octal-in-Upsert c = kind_of_upsert _ (ap as_verb c.in-Upsert.is) c.in_ok-from_octal-in-Upsert.ensures

pub returns-in-Remove : goal.returns-in-Remove
returns-in-Remove c = ap op_read c.then_some.ensures ∙ op_if _ _ ∙ kind_of_removal _ (ap as_verb c.in-Remove.is) c.is_empty.ensures

pub returns-in-Leaf : goal.returns-in-Leaf
returns-in-Leaf c = ap op_read c.then_some-in-Leaf.ensures ∙ op_if _ _ ∙ kind_of_removal _ (ap as_verb c.in-Leaf.is) c.is_empty-in-Leaf.ensures
