-- `names_salvage::piece::good_name` meets its contract: a name with some bytes and not too many is good exactly if it is plain. Assumes nothing.
use mathlib.Core.Path.{sym, ap, ◌∙◌}
use mathlib.Core.Bool.{not, true≢false}
use mathlib.Core.Logic.{inl, inr}
use borrow.Author.Tests.{eqb-true, eqb-false, lt-leb}
use Rattle.names.proofs.NameLaws.{name_empty, name_long}
use Rattle.names.proofs.StandingLaws.{good_is}
use Rattle.names_salvage.proofs.piece.good_name.Goals as goal
use Rattle.names_salvage.proofs.piece.good_name.Goals.{then-not-is_empty, else-not-is_empty}

pub returns-then-name-le255 : goal.returns-then-name-le255
returns-then-name-le255 c = c.plain_name.ensures ∙ sym (good_is _ (eqb-false _ _ (sym c.is_empty.ensures ∙ c.if-name-le255.true.0)) c.if-name-le255.true.1)

pub returns-else-name-le255 : goal.returns-else-name-le255
returns-else-name-le255 c =
    elim c.if-not-is_empty.branch [
      | then-not-is_empty w ↦ w.t-3-is
          ∙ elim c.if-name-le255.either [
            | inl p ↦ lt-leb _ _ p.1 ∙ name_long _ p.1
            | inr q ↦ absurd (true≢false (sym q ∙ w.if-not-is_empty.true))
          ]
      | else-not-is_empty w ↦ w.t-3-is ∙ ap not w.if-not-is_empty.false ∙ name_empty _ (eqb-true _ _ (sym (w.if-not-is_empty.ensures)))
    ]
