-- `editor_terms::edit::remove_turn` meets its contract: nothing seen stops it, and else the last component and the entry's mode decide. Assumes nothing.
use mathlib.Core.Path.{sym, ◌∙◌}
use Rattle.editor_terms.proofs.EditLaws.{removes_nothing, removes_below, removes_no_further}
use Rattle.editor_terms.proofs.edit.remove_turn.Goals as goal

pub returns-in-Some-2 : goal.returns-in-Some-2
returns-in-Some-2 c = rw (c.in-Some-2.is, c.if-last.false) (removes_below _ _ (sym c.is_tree.ensures ∙ c.if-is_tree.true))

pub returns-in_default : goal.returns-in_default
returns-in_default c = rw (c.in-Some-2.is, c.if-last.false) (removes_no_further _ _ (sym c.is_tree.ensures ∙ c.if-is_tree.false))

pub returns-in_default-2 : goal.returns-in_default-2
returns-in_default-2 c = rw c.in_default.is (removes_nothing _ _)
