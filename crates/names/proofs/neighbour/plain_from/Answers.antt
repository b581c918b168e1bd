-- `names::neighbour::plain_from` meets its contract: the bytes passed are neither slash nor NUL, so those that are left decide. Assumes nothing.
use native.Mathlib.Omega.{arith}
use Rattle.names.proofs.StandingLaws.{plain_begin, plain_end, plain_slash, plain_nul, plain_more}
use Rattle.names.proofs.neighbour.plain_from.Goals as goal

pub loop-i-init : goal.loop-i-init
loop-i-init c = plain_begin _ _

pub returns-then-name-i-eq47 : goal.returns-then-name-i-eq47
returns-then-name-i-eq47 c = plain_slash c.loop-i.invariant (omega arith) c.if-name-i-eq47.true

pub returns-then-name-i-eq0 : goal.returns-then-name-i-eq0
returns-then-name-i-eq0 c = plain_nul c.loop-i.invariant (omega arith) c.if-name-i-eq0.true

pub loop-i-preserved : goal.loop-i-preserved
loop-i-preserved c = plain_more c.loop-i.invariant (omega arith) c.if-name-i-eq47.false c.if-name-i-eq0.false

pub returns : goal.returns
returns c = plain_end c.loop-i.invariant (omega arith)
