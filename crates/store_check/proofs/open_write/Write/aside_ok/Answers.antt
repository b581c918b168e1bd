-- `store_check::open_write::Write::aside_ok` meets its contract: the first i trees set aside decide. Assumes nothing.
use Prim.Native.Nat.{◌-◌}
use native.Mathlib.Omega.{arith}
use Rattle.store_check.proofs.ChainLaws.{linking_all, linking_bad, linking_more, linking_done}
use Rattle.store_check.proofs.ParentLaws.{aside_low}
use Rattle.store_check.proofs.open_write.Write.aside_ok.Goals as goal

pub loop-i-init : goal.loop-i-init
loop-i-init c =
    let s = c.args.self.store in
    linking_all s.width s.plens.now s.paths.now s.tlens.now s.trees.now c.args.self.order.now s.record.aside c.requires

pub has_parent-requires : goal.has_parent-requires
has_parent-requires c =
    let T = c.args.self.taken in
    let t = c.loop-i-test.true in
    (omega (arith, c.loop-i.invariant.high), aside_low T.opened (c.loop-i.i - 1) (omega (arith, t, c.loop-i.invariant.high)) T.order_64)

pub returns-then-not-has_parent : goal.returns-then-not-has_parent
returns-then-not-has_parent c =
    let s = c.args.self.store in
    let t = c.loop-i-test.true in
    linking_bad s.width s.plens.now s.paths.now s.tlens.now s.trees.now c.args.self.order.now s.record.aside c.loop-i.i c.loop-i.invariant (omega (arith, c.args.self.taken.order_64, c.args.self.taken.opened.room))
    (c.loop-i.i - 1) (omega (arith, t)) (omega (arith, t)) c.has_parent.result c.has_parent.ensures c.if-not-has_parent.true

pub loop-i-preserved : goal.loop-i-preserved
loop-i-preserved c =
    let s = c.args.self.store in
    let t = c.loop-i-test.true in
    linking_more s.width s.plens.now s.paths.now s.tlens.now s.trees.now c.args.self.order.now s.record.aside c.loop-i.i c.loop-i.invariant (omega (arith, c.args.self.taken.order_64, c.args.self.taken.opened.room))
    (c.loop-i.i - 1) (omega (arith, t)) (omega (arith, t)) c.has_parent.result c.has_parent.ensures c.if-not-has_parent.false

pub returns : goal.returns
returns c =
    let s = c.args.self.store in
    linking_done s.width s.plens.now s.paths.now s.tlens.now s.trees.now c.args.self.order.now s.record.aside c.loop-i.i c.loop-i.invariant (omega (arith, c.args.self.taken.order_64, c.args.self.taken.opened.room)) c.loop-i-test.false
