-- `lines::text::decimal_into` meets its contract: the digits so far are those of the number's low end, and what is left of it has the others; twenty are enough for every word. Assumes nothing.
use native.Mathlib.Omega.{arith}
use Rattle.lines.proofs.TextLaws.{digits_begin, digits_end, digits_last, digits_more}
use Rattle.lines.proofs.text.decimal_into.Goals as goal

pub loop-i-init : goal.loop-i-init
loop-i-init c = digits_begin _ _ (omega arith) c.told-digits

pub returns-then-m-eq0-clause-digits_after : goal.returns-then-m-eq0-clause-digits_after
returns-then-m-eq0-clause-digits_after c = digits_last _ _ c.loop-i-test.true c.loop-i.invariant c.if-m-eq0.true

pub loop-i-preserved : goal.loop-i-preserved
loop-i-preserved c = digits_more _ _ c.loop-i-test.true c.loop-i.invariant c.if-m-eq0.false

pub returns-clause-digits_after : goal.returns-clause-digits_after
returns-clause-digits_after c = digits_end (omega arith) c.loop-i.invariant
