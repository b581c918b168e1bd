-- `store_check::runs::Runs::repeated` meets its contract: it is so of the slots so far, and the numbers of their paths are set. Assumes nothing.
use mathlib.Core.Path.{refl, sym, ap, ◌∙◌}
use mathlib.Core.List.{[]}
use Prim.Native.Nat.{ℕ}
use native.Mathlib.Omega.{arith}
use lib.ListN.{length-replicate, get_or}
use Rattle.std.proofs.lemmas.List.{length_push}
use Rattle.store_runs.specs.Runs.{cut}
use Rattle.store_runs.proofs.RunLaws.{length_cut}
use Rattle.store_check.proofs.EachLaws.{at_turn, at_end}
use Rattle.store_check.proofs.SeenLaws.{seen_none, seen_as_lem, seen_free, seen_again, seen_new, among, not_among}
use Rattle.store_check.proofs.runs.Runs.repeated.Goals as goal

pub loop-k-init : goal.loop-k-init
loop-k-init c = seen_none (length-replicate {A = ℕ} 64 0)

pub is_set-requires : goal.is_set-requires
is_set-requires c =
    let s = c.args.self in
    let t = at_turn c.into_iter-k-iterator.ensures.into_iter_gives c.zip-k-items.ensures.first c.zip-k-items.ensures.second c.iter.ensures (omega (arith, length_cut s.lens.now s.bytes.now)) c.loop-k.yielded _ c.loop-k.yielded_by c.next.new.self c.next.ensures.steps c.in-Some.k c.in-Some.path c.in-Some.is in
    omega arith

pub set-again-requires : goal.set-again-requires
set-again-requires c =
    let s = c.args.self in
    let t = at_turn c.into_iter-k-iterator.ensures.into_iter_gives c.zip-k-items.ensures.first c.zip-k-items.ensures.second c.iter.ensures (omega (arith, length_cut s.lens.now s.bytes.now)) c.loop-k.yielded _ c.loop-k.yielded_by c.next.new.self c.next.ensures.steps c.in-Some.k c.in-Some.path c.in-Some.is in
    omega arith

pub loop-k-preserved-then-is_set : goal.loop-k-preserved-then-is_set
loop-k-preserved-then-is_set c =
    let s = c.args.self in
    let t = at_turn c.into_iter-k-iterator.ensures.into_iter_gives c.zip-k-items.ensures.first c.zip-k-items.ensures.second c.iter.ensures (omega (arith, length_cut s.lens.now s.bytes.now)) c.loop-k.yielded _ c.loop-k.yielded_by c.next.new.self c.next.ensures.steps c.in-Some.k c.in-Some.path c.in-Some.is in
    let e = t.2 ∙ ap (λ (n : ℕ). get_or (cut s.lens.now s.bytes.now) n []) (sym t.1) in
    let at = seen_as_lem c.loop-k.invariant _ _ _ refl refl t.1 in
    let more = seen_again at (omega arith) c.in-Some.path.now c.tag-t.result e c.tag-t.ensures.0 c.set-again.result (among _ _ _ c.is_set-then-not-is_set.ensures c.if-is_set.true) c.set-again.ensures.0 in
    seen_as_lem more _ _ _ refl refl (omega (arith, length_push c.loop-k.yielded (c.in-Some.k, c.in-Some.path)))

pub loop-k-preserved-else-is_set : goal.loop-k-preserved-else-is_set
loop-k-preserved-else-is_set c =
    let s = c.args.self in
    let t = at_turn c.into_iter-k-iterator.ensures.into_iter_gives c.zip-k-items.ensures.first c.zip-k-items.ensures.second c.iter.ensures (omega (arith, length_cut s.lens.now s.bytes.now)) c.loop-k.yielded _ c.loop-k.yielded_by c.next.new.self c.next.ensures.steps c.in-Some.k c.in-Some.path c.in-Some.is in
    let e = t.2 ∙ ap (λ (n : ℕ). get_or (cut s.lens.now s.bytes.now) n []) (sym t.1) in
    let at = seen_as_lem c.loop-k.invariant _ _ _ refl refl t.1 in
    let more = seen_new at (omega arith) c.in-Some.path.now c.tag-t.result e c.tag-t.ensures.0 c.set.result c.tag-t.ensures.1 (not_among _ _ _ c.is_set-then-not-is_set.ensures (omega arith) c.if-is_set.false) c.set.ensures.0 in
    seen_as_lem more _ _ _ refl refl (omega (arith, length_push c.loop-k.yielded (c.in-Some.k, c.in-Some.path)))

pub loop-k-preserved : goal.loop-k-preserved
loop-k-preserved c =
    let s = c.args.self in
    let t = at_turn c.into_iter-k-iterator.ensures.into_iter_gives c.zip-k-items.ensures.first c.zip-k-items.ensures.second c.iter.ensures (omega (arith, length_cut s.lens.now s.bytes.now)) c.loop-k.yielded _ c.loop-k.yielded_by c.next.new.self c.next.ensures.steps c.in-Some.k c.in-Some.path c.in-Some.is in
    let at = seen_as_lem c.loop-k.invariant _ _ _ refl refl t.1 in
    let o = among _ _ _ c.is_set.ensures c.if-not-is_set.false in
    seen_as_lem (seen_free at (λ z. omega (arith, z, o))) _ _ _ refl refl (omega (arith, length_push c.loop-k.yielded (c.in-Some.k, c.in-Some.path)))

pub returns : goal.returns
returns c =
    let s = c.args.self in
    let e = at_end c.into_iter-k-iterator.ensures.into_iter_gives c.zip-k-items.ensures.first c.zip-k-items.ensures.second c.iter.ensures (omega (arith, length_cut s.lens.now s.bytes.now)) c.loop-k.yielded _ c.loop-k.yielded_by c.next.new.self c.next.ensures.steps c.in-None.is in
    λ k h. c.loop-k.invariant.sofar k (omega arith)
