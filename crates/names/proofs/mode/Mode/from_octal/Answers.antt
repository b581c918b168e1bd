-- `names::mode::Mode::from_octal` meets its contract: the digits so far are a number that is within the largest mode; a text without a leading zero is one of the five exactly if its number is. Assumes nothing.
use borrow.Author.Rules.{rules}
use mathlib.Core.Path.{◌∙◌}
use native.Mathlib.Omega.{arith}
use Rattle.names.proofs.ModeLaws.{empty, zero_first, start, ends, low, high, large, more}
use Rattle.names.proofs.mode.Mode.from_octal.Goals as goal
use Rattle.names.proofs.mode.Mode.from_octal.Goals.{then-d-lt48-via-then-d-lt48, then-d-lt48-via-else-d-lt48+then-d-gt55}

pub returns-then-is_empty : goal.returns-then-is_empty
returns-then-is_empty c = empty _ (search rules)

pub returns-then-s-eq48 : goal.returns-then-s-eq48
returns-then-s-eq48 c = zero_first _ c.if-s-eq48.true

pub loop-d-init : goal.loop-d-init
loop-d-init c = start _ (search rules) c.if-s-eq48.false

pub returns-then-d-lt48 : goal.returns-then-d-lt48
returns-then-d-lt48 c = elim c.then-d-lt48.branch [
  | then-d-lt48-via-then-d-lt48 w ↦ low c.loop-d.invariant c.loop-d-test.true w.if-d-lt48.true
  | then-d-lt48-via-else-d-lt48+then-d-gt55 w ↦ high c.loop-d.invariant c.loop-d-test.true w.if-d-lt48.false w.if-d-gt55.true
]

pub returns-then-bits-gt57344 : goal.returns-then-bits-gt57344
returns-then-bits-gt57344 c = large c.loop-d.invariant c.loop-d-test.true c.if-d-lt48.false c.if-d-gt55.false (omega (arith, c.from.ensures, c.if-bits-gt57344.true))

pub loop-d-preserved : goal.loop-d-preserved
loop-d-preserved c = rw c.from.ensures (more c.loop-d.invariant c.loop-d-test.true c.if-d-lt48.false c.if-d-gt55.false (omega (arith, c.from.ensures, c.if-bits-gt57344.false)))

pub returns : goal.returns
returns c = c.kind.ensures ∙ ends c.loop-d.invariant (omega arith)
