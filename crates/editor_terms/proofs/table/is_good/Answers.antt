-- `editor_terms::table::is_good` meets its contract: there are as many ids as offsets exactly if 20 divides their bytes and the quotient is that number. Assumes nothing.
use mathlib.Core.Path.{sym, ◌∙◌}
use borrow.Author.Tests.{eqb-true, eqb-false}
use Rattle.editor_terms.proofs.TableLaws.{not_each, not_whole, good_each}
use Rattle.editor_terms.proofs.table.is_good.Goals as goal
use Rattle.editor_terms.proofs.table.is_good.Goals.{then-ids-ends, else-ids-ends}

pub returns-then-ids-eq0 : goal.returns-then-ids-eq0
returns-then-ids-eq0 c =
    elim c.if-ids-ends.branch [
      | then-ids-ends w ↦ c.ends_ok.ensures ∙ good_each _ _ _ w.if-ids-ends.true (eqb-true _ 0 (sym w.value-is ∙ c.if-ids-eq0.true))
      | else-ids-ends w ↦ absurd (w.if-ids-ends.false (eqb-true _ _ (sym w.value-is ∙ c.if-ids-eq0.true)))
    ]

pub returns-else-ids-eq0 : goal.returns-else-ids-eq0
returns-else-ids-eq0 c =
    elim c.if-ids-ends.branch [
      | then-ids-ends w ↦ c.if-ids-eq0.false ∙ not_whole _ _ _ (eqb-false _ 0 (sym w.value-is ∙ c.if-ids-eq0.false))
      | else-ids-ends w ↦ c.if-ids-eq0.false ∙ not_each _ _ _ w.if-ids-ends.false
    ]
