-- `editor_terms::edit::remove_last` meets its contract: the kind of removal and whether the entry is a tree decide, as in the definition. Assumes nothing.
use mathlib.Core.Path.{sym, ◌∙◌}
use Rattle.editor_terms.proofs.EditLaws.{refuses_tree, cuts, cuts_any, is_leaf, is_any}
use Rattle.editor_terms.proofs.edit.remove_last.Goals as goal
use Rattle.editor_terms.proofs.edit.remove_last.Goals.{else-eq-via-then-eq+else-is_tree, else-eq-via-else-eq}

pub returns-then-is_tree : goal.returns-then-is_tree
returns-then-is_tree c = rw (is_leaf _ (sym c.eq.ensures ∙ c.if-eq.true)) (refuses_tree _ (sym c.is_tree.ensures ∙ c.if-is_tree.true))

pub returns-else-eq : goal.returns-else-eq
returns-else-eq c =
    elim c.else-eq.branch [
      | else-eq-via-then-eq+else-is_tree w ↦ cuts c.args.kind _ (sym w.is_tree.ensures ∙ w.if-is_tree.false)
      | else-eq-via-else-eq w ↦ rw (is_any _ (sym c.eq.ensures ∙ w.if-eq.false)) (cuts_any _)
    ]
