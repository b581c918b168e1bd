-- `store_check::open_write::Write::stacked_ok` meets its contract: those from i on lie below one that was set aside. Assumes nothing.
use mathlib.Core.Path.{sym, ◌∙◌}
use Prim.Native.Nat.{◌-◌}
use native.Mathlib.Omega.{arith}
use Rattle.store_check.specs.Lending.{aside_in}
use Rattle.store_check.proofs.ChainLaws.{stack_all, stack_bad}
use Rattle.store_check.proofs.ChildLaws.{parented_one}
use Rattle.store_check.proofs.ParentLaws.{stacked_low}
use Rattle.store_check.proofs.open_write.Write.stacked_ok.Goals as goal

pub loop-i-init : goal.loop-i-init
loop-i-init c = c.requires

pub has_parent-requires : goal.has_parent-requires
has_parent-requires c =
    let T = c.args.self.taken in
    let t = c.loop-i-test.true in
    (omega arith, stacked_low T.opened (c.loop-i.i - 1) (omega (arith, t)) (omega (arith, t, c.loop-i.invariant.high)) T.order_64)

pub returns-then-not-has_parent : goal.returns-then-not-has_parent
returns-then-not-has_parent c =
    let s = c.args.self.store in
    let t = c.loop-i-test.true in
    sym
    (stack_bad s.width s.plens.now s.paths.now s.tlens.now s.trees.now c.args.self.order.now (aside_in s c.args.self.order.now) (64 - s.record.stacked) (c.loop-i.i - 1) c.args.self.taken.order_64
    (omega (arith, t)) (omega (arith, t, c.loop-i.invariant.high)) (sym c.has_parent.ensures ∙ c.if-not-has_parent.true))

pub loop-i-preserved : goal.loop-i-preserved
loop-i-preserved c = parented_one c.args.self.taken c.loop-i.invariant c.loop-i-test.true c.has_parent.result c.has_parent.ensures c.if-not-has_parent.false

pub returns : goal.returns
returns c =
    let s = c.args.self.store in
    sym
    (stack_all s.width s.plens.now s.paths.now s.tlens.now s.trees.now c.args.self.order.now (aside_in s c.args.self.order.now) (64 - s.record.stacked) c.args.self.taken.order_64
    (λ j g h. c.loop-i.invariant.each j (omega (arith, g, c.loop-i-test.false)) h))
