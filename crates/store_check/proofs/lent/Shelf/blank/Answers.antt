-- `store_check::lent::Shelf::blank` meets its contract: it tests the lengths of a free slot alone. Assumes nothing.
use mathlib.Core.Path.{sym, ◌∙◌}
use borrow.Author.Tests.{eqb-false}
use Rattle.store_runs.proofs.DigitLaws.{digit_zero}
use Rattle.store_check.proofs.Deciding.{accepts}
use Rattle.store_check.proofs.lent.Shelf.blank.Goals as goal

pub returns-then-not-is_set : goal.returns-then-not-is_set
returns-then-not-is_set c = rw c.if-not-is_set.true (accepts (λ u. absurd (u (digit_zero 64 c.args.self.record.free c.args.k c.requires (eqb-false _ _ (sym c.is_set.ensures ∙ c.if-not-is_set.true))))))
