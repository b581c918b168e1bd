-- `lines::number::number_of` meets its contract: a text of no bytes and one with a zero before more digits say none, and any other says what its digits do. Assumes nothing.
use Prim.Native.Nat.{◌<◌}
use borrow.Author.Tests.{eqb-true, eqb-false}
use lib.ListN.{length}
use mathlib.Core.Path.{◌≡◌, sym, ap, ◌∙◌}
use native.Mathlib.Omega.{arith}
use Rattle.lines.specs.Numbers.{says_after, number_of, held}
use Rattle.lines.proofs.NumberLaws.{number_none, number_padded, number_short, number_plain}
use Rattle.lines.proofs.number.number_of.Goals.{else-text-eq48-via-then-text-eq48+else-text-gt1, else-text-eq48-via-else-text-eq48}
use Rattle.lines.proofs.number.number_of.Goals as goal

pub returns-then-is_empty : goal.returns-then-is_empty
returns-then-is_empty c = number_none _ (eqb-true _ 0 (sym c.if-is_empty.ensures))

pub returns-then-text-gt1 : goal.returns-then-text-gt1
returns-then-text-gt1 c = number_padded _ c.if-text-eq48.true c.if-text-gt1.true

pub returns : goal.returns
returns c =
    let s = c.args.text.now in
    let full : 0 < length s = let h = eqb-false (length s) 0 (sym c.if-is_empty.ensures) in omega (arith, h) in
    let same : says_after 0 s ≡ number_of s =
    elim c.else-text-eq48.branch [
      | else-text-eq48-via-then-text-eq48+else-text-gt1 w ↦ number_short s full w.if-text-gt1.false
      | else-text-eq48-via-else-text-eq48 w ↦ number_plain s full w.if-text-eq48.false
    ] in
    c.digits_say.ensures ∙ ap held same
