-- `names::eight::same_name` meets its contract: two blocks of eight bytes cover names of at most sixteen. Assumes nothing.
use native.Mathlib.Omega.{arith}
use Rattle.names.proofs.OrderLaws.{other_length}
use Rattle.names.proofs.EightLaws.{blocks_tell}
use Rattle.names.proofs.eight.same_name.Goals as goal

pub returns-then-a-b : goal.returns-then-a-b
returns-then-a-b c = other_length c.args.a.now c.args.b.now c.if-a-b.true

pub returns-then-low_at : goal.returns-then-low_at
returns-then-low_at c =
    let e = c.if-a-b.false in
    let k = c.if-a-lt8.false in
    let n = c.if-a-gt16.false in
    blocks_tell c.low_at.ensures c.low_at-2.ensures c.low_at-then-low_at.ensures c.low_at-then-low_at-2.ensures (omega arith) (omega arith) (omega arith) c.if-low_at.true
