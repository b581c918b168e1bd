-- `store_runs::bits::set` meets its contract: a slot that is set stays so, and adding a power of two to a word whose digit there is 0 sets that digit alone. Assumes nothing.
use mathlib.Core.Path.{◌≡◌, ◌∙◌, sym, ap}
use Prim.Native.Nat.{ℕ, ◌+◌}
use native.Mathlib.Omega.{arith}
use borrow.Author.Tests.{eqb-false}
use lib.ListN.{get_or}
use Rattle.store_runs.specs.Digits.{digits}
use Rattle.store_runs.proofs.DigitLaws.{digit_zero, digit_room, digit_add, bit}
use Rattle.store_runs.proofs.bits.set.Goals as goal

-- a slot that is not set has the digit 0
none : (c : goal.Else-is_set) → get_or (digits 64 c.args.map) c.args.slot 0 ≡ 0
none c = digit_zero 64 c.args.map c.args.slot c.requires (eqb-false _ _ (sym c.is_set.ensures ∙ c.if-is_set.false))

pub overflow_add-result : goal.overflow_add-result
overflow_add-result c = omega (arith, bit c.args.slot c.requires, digit_room 64 c.args.map c.args.slot c.requires c.ranges.map.fits (none c))

pub returns-else-is_set : goal.returns-else-is_set
returns-else-is_set c =
    let e = bit c.args.slot c.requires in
    (ap (λ (x : ℕ). digits 64 (c.args.map + x)) e ∙ digit_add 64 c.args.map c.args.slot c.requires (none c), λ z. ap (λ (x : ℕ). c.args.map + x) e)
