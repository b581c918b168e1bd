-- `store_check::runs::Runs::apart` meets its contract: each slot among those that came again is tested. Assumes nothing.
use mathlib.Core.Path.{ap, ◌∙◌}
use Prim.Native.Nat.{ℕ}
use borrow.Author.Tests.{eq-eqb}
use lib.ListN.{get_or}
use Rattle.store_runs.specs.Digits.{digits}
use Rattle.store_check.proofs.Deciding.{accepts, instead}
use Rattle.store_check.proofs.SeenLaws.{none_again, again_or_not}
use Rattle.store_check.proofs.runs.Runs.apart.Goals as goal

pub returns-then-again-eq0 : goal.returns-then-again-eq0
returns-then-again-eq0 c =
    rw (eq-eqb c.repeated-again.result 0 c.if-again-eq0.true) (accepts (λ k h. c.repeated-again.ensures k h (ap (λ (x : ℕ). get_or (digits 64 x) k 0) c.if-again-eq0.true ∙ none_again 64 k)))

pub returns-else-again-eq0 : goal.returns-else-again-eq0
returns-else-again-eq0 c = instead c.all_first.ensures (λ f k h. again_or_not c.repeated-again.result k h (c.repeated-again.ensures k h) (f k h).first) (λ f k h. record { first = λ o. f k h })
