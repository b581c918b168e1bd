-- `names_salvage::mend::try_mend` meets its contract: the pass says what is kept and counted, then the limits decide, then the room. Assumes nothing.
use mathlib.Core.Path.{sym, ◌∙◌}
use native.Mathlib.Omega.{arith}
use Rattle.names_salvage.proofs.MendLaws.{lists_as, enough, over_limit, held, left_over, mended_over, mended_short, mended_done, not_taken, taken_on, taken_short, refused_as}
use Rattle.names_salvage.proofs.mend.try_mend.Goals as goal

pub returns-then-not-is_taken-clause-value : goal.returns-then-not-is_taken-clause-value
returns-then-not-is_taken-clause-value c = let a = c.args in not_taken a.width a.raw.now a.out.now (sym c.is_taken.ensures ∙ c.if-not-is_taken.true)

pub pass-requires : goal.pass-requires
pass-requires c = taken_short c.args.width c.args.raw.now (sym c.is_taken.ensures ∙ c.if-not-is_taken.false)

pub returns-in_err-t-clause-value : goal.returns-in_err-t-clause-value
returns-in_err-t-clause-value c =
    let a = c.args in
    let q = c.in_err-t.ensures in
    refused_as c.from_residual.result _ c.from_residual.ensures.1 c.pass.result q.ok_part q.value a.out.now ∙ mended_over a.raw.now a.width a.out.now (over_limit c.pass.ensures q.ok_part)
    ∙ taken_on a.width a.raw.now a.out.now (sym c.is_taken.ensures ∙ c.if-not-is_taken.false)

pub returns-then-out-needed-clause-value : goal.returns-then-out-needed-clause-value
returns-then-out-needed-clause-value c =
    let a = c.args in
    mended_short (held c.pass.ensures c.in_ok-t.ensures.ok_part) a.out.now c.if-out-needed.true ∙ taken_on a.width a.raw.now a.out.now (sym c.is_taken.ensures ∙ c.if-not-is_taken.false)

pub put_all-requires : goal.put_all-requires
put_all-requires c =
    let h = held c.pass.ensures c.in_ok-t.ensures.ok_part in
    (_, lists_as c.kept.ensures h.lists, h.good, enough h c.args.out.now c.if-out-needed.false)

pub overflow_sub-result : goal.overflow_sub-result
overflow_sub-result c = let h = held c.pass.ensures c.in_ok-t.ensures.ok_part in omega (arith, h.inside)

pub returns-clause-value : goal.returns-clause-value
returns-clause-value c =
    let a = c.args in
    let e = c.in_ok-t.ensures.ok_part in
    let h = held c.pass.ensures e in
    mended_done h (left_over c.pass.ensures e) a.out.now c.put_all.new.out c.if-out-needed.false
    (c.put_all.ensures _ (lists_as c.kept.ensures h.lists) h.good (enough h a.out.now c.if-out-needed.false))
    ∙ taken_on a.width a.raw.now a.out.now (sym c.is_taken.ensures ∙ c.if-not-is_taken.false)
