-- `store_check::open_write::mark` meets its contract: a slot is set exactly if it is one of the 64 and was not set before. Assumes nothing.
use mathlib.Core.Path.{sym, ◌∙◌}
use borrow.Author.Tests.{eqb-true, eqb-false}
use Rattle.store_runs.proofs.DigitLaws.{digit_zero}
use Rattle.store_check.proofs.MarkLaws.{marks_out, marks_set, marks_one}
use Rattle.store_check.proofs.open_write.mark.Goals as goal
use Rattle.store_check.proofs.open_write.mark.Goals.{then-k-ge-SLOTS-via-then-k-ge-SLOTS, then-k-ge-SLOTS-via-else-k-ge-SLOTS+then-is_set}

pub returns-then-k-ge-SLOTS : goal.returns-then-k-ge-SLOTS
returns-then-k-ge-SLOTS c =
    elim c.then-k-ge-SLOTS.branch [
      | then-k-ge-SLOTS-via-then-k-ge-SLOTS w ↦ marks_out c.args.map c.args.slot w.if-k-ge-SLOTS.true
      | then-k-ge-SLOTS-via-else-k-ge-SLOTS+then-is_set w ↦ marks_set c.args.map c.args.slot (eqb-true _ _ (sym w.is_set.ensures ∙ w.if-is_set.true))
    ]

pub returns : goal.returns
returns c =
    marks_one c.args.map c.args.slot c.set.result c.if-k-ge-SLOTS.false
    (digit_zero 64 c.args.map c.args.slot c.if-k-ge-SLOTS.false (eqb-false _ _ (sym c.is_set.ensures ∙ c.if-is_set.false))) c.set.ensures.0
