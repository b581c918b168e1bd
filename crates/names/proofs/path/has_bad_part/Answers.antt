-- `names::path::has_bad_part` meets its contract: the components that have ended are good, and the bytes of the one at hand are no NULs; so what is left decides. Assumes nothing.
use lib.ListN.{length}
use mathlib.Core.Path.{◌≡◌}
use native.Mathlib.Omega.{arith}
use Rattle.names.proofs.ValidLaws.{part_front, part_end, part_nul, part_other, part_bad, part_next}
use Rattle.names.proofs.path.has_bad_part.Goals as goal
use Rattle.names.proofs.path.has_bad_part.Goals.{then-b-le47+else-b-eq0+then-b-eq47+else-is_bad_len, then-b-le47+else-b-eq0+else-b-eq47, else-b-le47}

pub loop-i-init : goal.loop-i-init
loop-i-init c = part_front _ _ c.plain_front-i.ensures.0 c.plain_front-i.ensures.1

pub returns-then-b-eq0 : goal.returns-then-b-eq0
returns-then-b-eq0 c = part_nul c.loop-i.invariant c.loop-i-test.true c.if-b-eq0.true

pub returns-then-is_bad_len : goal.returns-then-is_bad_len
returns-then-is_bad_len c = part_bad c.loop-i.invariant c.loop-i-test.true c.if-b-eq47.true c.is_bad_len.ensures c.if-is_bad_len.true

pub loop-i-preserved : goal.loop-i-preserved
loop-i-preserved c =
    let at = c.loop-i.invariant in
    let h = c.loop-i-test.true in
    elim c.if-b-le47.branch [
      | then-b-le47+else-b-eq0+then-b-eq47+else-is_bad_len w ↦ part_next at h w.if-b-eq47.true w.is_bad_len.ensures w.if-is_bad_len.false w.start-is
      | then-b-le47+else-b-eq0+else-b-eq47 w ↦ part_other at h w.start-is w.if-b-eq0.false w.if-b-eq47.false
      | else-b-le47 w ↦ part_other at h w.start-is (λ e. omega (arith, e, w.if-b-le47.false)) (λ e. omega (arith, e, w.if-b-le47.false))
    ]

pub returns : goal.returns
returns c =
    let e : c.loop-i.i ≡ length c.args.path.now = omega (arith, c.loop-i.invariant.within) in
    part_end c.loop-i.invariant c.loop-i-test.false (rw e c.is_bad_len-2.ensures)
