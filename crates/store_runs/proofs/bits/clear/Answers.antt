-- `store_runs::bits::clear` meets its contract: taking away a power of two from a word whose digit there is 1 clears that digit alone. Assumes nothing.
use mathlib.Core.Path.{ap, ◌∙◌}
use Prim.Native.Nat.{ℕ, ◌-◌}
use native.Mathlib.Omega.{arith}
use Rattle.store_runs.specs.Digits.{digits}
use Rattle.store_runs.proofs.DigitLaws.{digit_le, digit_sub, bit}
use Rattle.store_runs.proofs.bits.clear.Goals as goal

pub overflow_sub-result : goal.overflow_sub-result
overflow_sub-result c = omega (arith, bit c.args.slot c.requires.0, digit_le 64 c.args.map c.args.slot c.requires.1)

pub returns : goal.returns
returns c =
    ap (λ (x : ℕ). digits 64 (c.args.map - x)) (bit c.args.slot c.requires.0)
    ∙ digit_sub 64 c.args.map c.args.slot c.requires.0 c.requires.1
