-- `names::order::name_order` meets its contract: the eights passed are alike on both sides; the first that differ are ordered as their numbers are, and where one name has no eight more its single bytes decide. Assumes nothing.
use native.Mathlib.Omega.{arith}
use mathlib.Core.Path.{◌∙◌}
use Rattle.names.proofs.EightLaws.{eight_tells}
use Rattle.names.proofs.StandingLaws.{shorter_min}
use Rattle.names.proofs.order.name_order.Goals as goal

pub returns : goal.returns
returns c =
    let n = shorter_min c.min-n.ensures in
    let k = c.alike_front-k.ensures in
    eight_tells k (omega (arith, c.if-n-k-lt8.false, k.within)) n.left n.right c.low_at-low.ensures c.low_at-other_low.ensures
    (c.cmp.ensures ∙ rw (c.swap-high.ensures, c.swap-other_high.ensures)) c.args.a.tree c.args.b.tree
