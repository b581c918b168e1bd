-- `store_check::runs::Runs::is_new` meets its contract: no slot so far is used and at the path. Assumes nothing.
use mathlib.Core.Path.{◌≡◌, refl, sym, ap, ◌∙◌}
use mathlib.Core.Bool.{Bool, true, false}
use mathlib.Core.List.{List, []}
use Prim.Native.Nat.{ℕ, ◌<◌}
use native.Mathlib.Omega.{arith}
use borrow.Author.Count.{below_more}
use lib.Dec.{eqb}
use lib.ListN.{get_or}
use Rattle.std.proofs.lemmas.List.{length_push}
use Rattle.model.specs.Bytes.{Bytes, same}
use Rattle.model.proofs.ByteLaws.{same_eq, same_refl}
use Rattle.model.proofs.Basics.{no_way}
use Rattle.store_runs.specs.Digits.{digits}
use Rattle.store_runs.specs.Runs.{cut}
use Rattle.store_runs.proofs.RunLaws.{length_cut}
use Rattle.store_check.proofs.Deciding.{accepts, refuses}
use Rattle.store_check.proofs.EachLaws.{at_turn, at_end}
use Rattle.store_check.proofs.SeenLaws.{among, not_among}
use Rattle.store_check.proofs.runs.Runs.is_new.Goals as goal
use Rattle.store_check.proofs.runs.Runs.is_new.Goals.{else-not-is_set-via-then-not-is_set+else-same_bytes, else-not-is_set-via-else-not-is_set}

pub is_set-requires : goal.is_set-requires
is_set-requires c =
    let s = c.args.self in
    let t = at_turn c.into_iter-j-iterator.ensures.into_iter_gives c.zip-j-items.ensures.first c.zip-j-items.ensures.second c.iter.ensures (omega (arith, length_cut s.lens.now s.bytes.now)) c.loop-j.yielded _ c.loop-j.yielded_by c.next.new.self c.next.ensures.steps c.in-Some.j c.in-Some.there c.in-Some.is in
    omega arith

module _ (map : ℕ) (ps : List Bytes) (n j : ℕ) (there path : Bytes) (q : j ≡ n) (e : there ≡ get_or ps n []) (h : j < 64) (b : Bool) (f : b ≡ eqb (get_or (digits 64 map) j 0) 1) where
  -- the slot is used and at the path
  hit : b ≡ false → same there path ≡ true → (get_or (digits 64 map) n 0 ≡ 0) × (get_or ps n [] ≡ path)
  hit u t = (ap (λ (x : ℕ). get_or (digits 64 map) x 0) (sym q) ∙ not_among map j b f h u, sym e ∙ same_eq there path t)

  -- it is not
  other : (b ≡ false → same there path ≡ false) → get_or (digits 64 map) n 0 ≡ 0 → get_or ps n [] ≡ path → ⊥
  other d z p = go b refl
    where
      go : (x : Bool) → b ≡ x → ⊥
      go true u =
          let o = among map j b f u in
          omega (arith, o, z, ap (λ (x : ℕ). get_or (digits 64 map) x 0) q)
      go false u = no_way (sym (ap (same there) (sym p ∙ sym e) ∙ same_refl there) ∙ d u)

pub returns-then-same_bytes : goal.returns-then-same_bytes
returns-then-same_bytes c =
    let s = c.args.self in
    let t = at_turn c.into_iter-j-iterator.ensures.into_iter_gives c.zip-j-items.ensures.first c.zip-j-items.ensures.second c.iter.ensures (omega (arith, length_cut s.lens.now s.bytes.now)) c.loop-j.yielded _ c.loop-j.yielded_by c.next.new.self c.next.ensures.steps c.in-Some.j c.in-Some.there c.in-Some.is in
    let y = hit c.args.map (cut s.lens.now s.bytes.now) _ _ c.in-Some.there.now c.args.path.now t.1 t.2 (omega arith) c.is_set.result c.is_set.ensures c.if-not-is_set.true (sym c.same_bytes.ensures ∙ c.if-same_bytes.true) in
    refuses (λ f. f _ t.0 y.0 y.1)

pub loop-j-preserved : goal.loop-j-preserved
loop-j-preserved c =
    let s = c.args.self in
    let t = at_turn c.into_iter-j-iterator.ensures.into_iter_gives c.zip-j-items.ensures.first c.zip-j-items.ensures.second c.iter.ensures (omega (arith, length_cut s.lens.now s.bytes.now)) c.loop-j.yielded _ c.loop-j.yielded_by c.next.new.self c.next.ensures.steps c.in-Some.j c.in-Some.there c.in-Some.is in
    let o = other c.args.map (cut s.lens.now s.bytes.now) _ _ c.in-Some.there.now c.args.path.now t.1 t.2 (omega arith) c.is_set.result c.is_set.ensures
    (elim c.else-not-is_set.branch [ else-not-is_set-via-then-not-is_set+else-same_bytes w ↦ λ u. sym w.same_bytes.ensures ∙ w.if-same_bytes.false | else-not-is_set-via-else-not-is_set w ↦ λ u. no_way (sym w.if-not-is_set.false ∙ u) ]) in
    λ j l. below_more (λ i. get_or (digits 64 c.args.map) i 0 ≡ 0 → get_or (cut s.lens.now s.bytes.now) i [] ≡ c.args.path.now → ⊥) _ c.loop-j.invariant o j (omega (arith, l, length_push c.loop-j.yielded (c.in-Some.j, c.in-Some.there)))

pub returns : goal.returns
returns c =
    let s = c.args.self in
    let e = at_end c.into_iter-j-iterator.ensures.into_iter_gives c.zip-j-items.ensures.first c.zip-j-items.ensures.second c.iter.ensures (omega (arith, length_cut s.lens.now s.bytes.now)) c.loop-j.yielded _ c.loop-j.yielded_by c.next.new.self c.next.ensures.steps c.in-None.is in
    accepts (λ j m. c.loop-j.invariant j (omega arith))
