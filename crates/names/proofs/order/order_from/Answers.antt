-- `names::order::order_from` meets its contract: the bytes passed are alike on both sides, so those that are left decide. Assumes nothing.
use native.Mathlib.Omega.{arith}
use mathlib.Core.Path.{◌≡◌, ◌∙◌}
use Prim.Native.Nat.{min}
use lib.ListN.{length}
use Rattle.model.specs.Tree.{as_kind}
use Rattle.names.proofs.OrderLaws.{lengths_tell}
use Rattle.names.proofs.StandingLaws.{key_long, shares_compare}
use Rattle.names.proofs.order.order_from.Goals as goal

pub loop-i-init : goal.loop-i-init
loop-i-init c = shares_compare c.requires c.args.a.tree c.args.b.tree

pub returns : goal.returns
returns c =
    let a = c.args.a in
    let b = c.args.b in
    let p = key_long a.tree a.name.now c.args.from c.requires.left in
    let q = key_long b.tree b.name.now c.args.from c.requires.right in
    let e : c.loop-i.i ≡ min (length (as_kind a.tree a.name.now)) (length (as_kind b.tree b.name.now)) =
    omega (arith, p, q, c.loop-i.auto.i-end, c.loop-i-test.false, c.min-i-end.ensures, c.len-n.ensures, c.len-m.ensures) in
    lengths_tell c.loop-i.invariant e (c.cmp.ensures ∙ rw (c.len-n.ensures, c.len-m.ensures))
