-- `editor_terms::table::find` meets its contract: no object passed has the id, so those that are left decide, from the last one's end. Assumes nothing.
use mathlib.Core.Logic.{inl, inr}
use mathlib.Core.Path.{refl, sym, ◌∙◌}
use native.Mathlib.Omega.{arith}
use Rattle.editor_terms.proofs.TableLaws.{find_begin, find_none, find_here, find_more}
use Rattle.editor_terms.proofs.table.Objects.find.Goals as goal

pub loop-key-init : goal.loop-key-init
loop-key-init c =
    rw (c.into_iter-key-iterator.ensures.into_iter_gives, c.zip-key-items.ensures.first, c.zip-key-items.ensures.second.0, c.chunks_exact.ensures.rest, c.chunks_exact.ensures.size)
    ((omega arith, tt), tt, refl, find_begin _ _ _ _ c.args.self.good)

pub returns-then-same_bytes : goal.returns-then-same_bytes
returns-then-same_bytes c =
    let i = c.loop-key.invariant in
    let a = c.in-Some.ensures.steps in
    find_here i.3 a.1 _ _ a.0.1.0 (a.0.1.1 ∙ i.2) (sym c.same_bytes.ensures ∙ c.if-same_bytes.true)

pub loop-key-preserved : goal.loop-key-preserved
loop-key-preserved c =
    let i = c.loop-key.invariant in
    let a = c.in-Some.ensures.steps in
    let w = a.0.0 ∙ i.2 in (
      (omega (arith, w), tt),
      tt,
      w,
      find_more i.3 a.1 _ _ a.0.1.0 (a.0.1.1 ∙ i.2) (sym c.same_bytes.ensures ∙ c.if-same_bytes.false),
    )

pub returns : goal.returns
returns c =
    let i = c.loop-key.invariant in
    elim c.in-None.ensures.steps [ inl a ↦ find_none i.3 (inl (omega (arith, i.2, a.1.1.0))) | inr b ↦ find_none i.3 (inr b.1.0) ]
