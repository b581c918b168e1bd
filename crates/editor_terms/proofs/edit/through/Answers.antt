-- `editor_terms::edit::through` meets its contract: a tree is gone into, and anything else becomes one with a null id. Assumes nothing.
use mathlib.Core.Path.{sym, ◌∙◌}
use Rattle.model.specs.Tree.{null}
use Rattle.editor_terms.proofs.EditLaws.{upserts_new, upserts_below, upserts_over}
use Rattle.editor_terms.proofs.edit.through.Goals as goal

pub returns-in-Some : goal.returns-in-Some
returns-in-Some c kind id = rw c.in-Some.is (upserts_below _ kind id (sym c.is_tree.ensures ∙ c.if-is_tree.true))

pub returns-in_default : goal.returns-in_default
unfolding null
returns-in_default c kind id = rw c.in-Some.is (upserts_over _ kind id (sym c.is_tree.ensures ∙ c.if-is_tree.false))

pub returns-in_default-2 : goal.returns-in_default-2
unfolding null
returns-in_default-2 c kind id = rw c.in_default.is (upserts_new kind id)
