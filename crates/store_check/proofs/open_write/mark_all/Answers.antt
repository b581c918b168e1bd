-- `store_check::open_write::mark_all` meets its contract: what is left to set decides. Assumes nothing.
use mathlib.Core.Path.{◌≡◌, ap, ◌∙◌}
use mathlib.Core.List.{List, reverse}
use Prim.Native.Nat.{ℕ, ◌+◌, ◌-◌, ◌<◌}
use native.Mathlib.Omega.{arith}
use lib.ListN.{length, get_or}
use Rattle.std.specs.Iterator.Adapters.{rev_source, rev_steps}
use Rattle.std.specs.Slice.Iter.{iter_rest, iter_steps_back}
use Rattle.std.proofs.lemmas.List.{length_push, get_or-reverse, length-reverse, get_or_default}
use Rattle.std.proofs.lemmas.Iterator.{YieldsList}
use Rattle.std.proofs.lemmas.Iterator.Adapters.{YieldsList-from_rev_slice}
use Rattle.std.proofs.lemmas.Iterator.Consumers.{YieldsList-turn, YieldsList-end}
use Rattle.store_check.proofs.MarkLaws.{setting_all, setting_bad, setting_more, setting_done}
use Rattle.store_check.proofs.open_write.mark_all.Goals as goal

pub loop-slot-init : goal.loop-slot-init
loop-slot-init c = setting_all c.args.map c.args.slots.now _ (omega arith)

road : {s r : _} {i : _} (ks : List ℕ) → s ≡ r → rev_source r ≡ i → iter_rest i ≡ ks → YieldsList (rev_steps iter_steps_back) (λ y. y.now) s (reverse ks)
road ks e f g = YieldsList-from_rev_slice ks (ap (λ x. iter_rest (rev_source x)) e ∙ ap iter_rest f ∙ g)

-- the slot at hand is the last that is left
here : (ks : List ℕ) (n k : ℕ) → (n < length (reverse ks)) × (k ≡ get_or (reverse ks) n k) → (n < length ks) × (k ≡ get_or ks (length ks - (n + 1)) 0)
here ks n k t =
    let l : n < length ks = omega (arith, t.0, length-reverse ks) in
    let e : length ks - 1 - n ≡ length ks - (n + 1) = omega arith in
    (l, t.1 ∙ get_or-reverse ks n k l ∙ get_or_default ks (length ks - 1 - n) k 0 (omega arith) ∙ ap (λ (x : ℕ). get_or ks x 0) e)

pub returns-in_err-all : goal.returns-in_err-all
returns-in_err-all c =
    let h = here c.args.slots.now _ _ (YieldsList-turn (road c.args.slots.now c.into_iter-slot-iterator.ensures.into_iter_gives c.rev-slot-items.ensures.source c.iter.ensures.rest) c.loop-slot.yielded _ c.loop-slot.yielded_by _ c.next.new.self c.in-Some.slot c.in-Some.is c.next.ensures.steps) in
    let b = setting_bad c.loop-slot.invariant (length c.args.slots.now - (length c.loop-slot.yielded + 1)) c.in-Some.slot.now (omega arith) (omega arith) h.1 c.in_err-all.ensures in
    rw c.from_residual.ensures b

pub loop-slot-preserved : goal.loop-slot-preserved
loop-slot-preserved c =
    let h = here c.args.slots.now _ _ (YieldsList-turn (road c.args.slots.now c.into_iter-slot-iterator.ensures.into_iter_gives c.rev-slot-items.ensures.source c.iter.ensures.rest) c.loop-slot.yielded _ c.loop-slot.yielded_by _ c.next.new.self c.in-Some.slot c.in-Some.is c.next.ensures.steps) in
    let m = setting_more c.loop-slot.invariant (length c.args.slots.now - (length c.loop-slot.yielded + 1)) c.in-Some.slot.now (omega arith) (omega arith) h.1 c.in_ok-all.all c.in_ok-all.ensures in
    rw length_push m

pub returns : goal.returns
returns c =
    let e = YieldsList-end (road c.args.slots.now c.into_iter-slot-iterator.ensures.into_iter_gives c.rev-slot-items.ensures.source c.iter.ensures.rest) c.loop-slot.yielded _ c.loop-slot.yielded_by _ c.next.new.self c.in-None.is c.next.ensures.steps in
    setting_done c.loop-slot.invariant (omega (arith, e.1, length-reverse c.args.slots.now))
