-- A store with no tree and no write: each slot is free, so the view is empty and the layout's rules hold. Assumes nothing.
use mathlib.Core.Path.{◌≡◌, refl, sym, ap, ◌∙◌}
use mathlib.Core.Bool.{true}
use mathlib.Core.List.{List, [], ◌∷◌, map}
use Prim.Native.Nat.{ℕ, zero, suc, ◌<◌}
use native.Mathlib.Omega.{arith}
use lib.ListN.{length, get_or, replicate, length-replicate, get_or-replicate}
use Rattle.model.specs.Bytes.{Bytes}
use Rattle.model.specs.Tree.{distinct, well_formed}
use Rattle.model.specs.Editor.{Held, at, entry_count, name_count}
use Rattle.store_runs.specs.Digits.{digits}
use Rattle.store_runs.specs.Runs.{cut, Sound, total}
use Rattle.store_runs.proofs.RunLaws.{cut_none, total_none}
use Rattle.names_compact.specs.Compact.{packed_all, unpack_in, unpack}
use Rattle.store_slots.specs.View.{slots_of, slots, gather, view_of, tree_room, Laid, Ordered, fresh}

pub all_free : digits 64 0xffff_ffff_ffff_ffff ≡ replicate 64 1
unfolding digits
all_free = refl

run_none : (l b : List ℕ) (k : ℕ) → l ≡ replicate 64 0 → k < 64 → get_or (cut l b) k [] ≡ []
run_none l b k e h = ap (λ (x : List ℕ). get_or (cut x b) k []) e ∙ ap (λ (x : List Bytes). get_or x k []) (cut_none 64 b) ∙ get_or-replicate 64 k [] [] h

sound_none : (l b : List ℕ) → l ≡ replicate 64 0 → Sound l b 0
sound_none l b e = record { sum = ap total e ∙ total_none 64; fits = omega arith }

pub none_used : (w n : ℕ) (ps bs : List Bytes) → slots_of w (replicate n 1) ps bs ≡ []
unfolding slots_of
none_used w zero ps bs = refl
none_used w (suc n) [] bs = refl
none_used w (suc n) (p ∷ ps) [] = refl
none_used w (suc n) (p ∷ ps) (b ∷ bs) = none_used w n ps bs

module _ (w : ℕ) (pl p tl t : List ℕ) (e : pl ≡ replicate 64 0) (f : tl ≡ replicate 64 0) where
  no_slots : slots w fresh pl p tl t ≡ []
  no_slots = ap (λ (x : List ℕ). slots_of w x (cut pl p) (cut tl t)) all_free ∙ none_used w 64 (cut pl p) (cut tl t)

  pub none_view : view_of w fresh pl p tl t ≡ []
  unfolding gather
  none_view = ap gather no_slots

  nothing : [] ≡ packed_all (unpack w [])
  unfolding packed_all unpack unpack_in
  nothing = refl

  nothing_well : well_formed w (unpack w []) ≡ true
  unfolding well_formed unpack unpack_in
  nothing_well = refl

  pub none_laid : length p ≡ 8192 → length t ≡ tree_room w → Laid w fresh pl p tl t
  none_laid n m = record {
    plens_64 = ap length e ∙ length-replicate {A = ℕ} 64 0;
    tlens_64 = ap length f ∙ length-replicate {A = ℕ} 64 0;
    paths_room = n;
    trees_room = m;
    paths_sound = sound_none pl p e;
    trees_sound = sound_none tl t f;
    empty = λ k h o. (run_none pl p k e h, run_none tl t k f h);
    packed = λ k h. let q = run_none tl t k f h in q ∙ nothing ∙ ap (λ (x : Bytes). packed_all (unpack w x)) (sym q);
    well = λ k h. ap (λ (x : Bytes). well_formed w (unpack w x)) (run_none tl t k f h) ∙ nothing_well;
    apart = ap (λ (x : List Held). distinct (map at x)) no_slots;
    entries = sym (ap entry_count none_view);
    names = sym (ap name_count none_view);
  }

pub fresh_ordered : (order : List ℕ) → length order ≡ 64 → Ordered fresh order
fresh_ordered order l = record {
  order_64 = l;
  closed = λ z. record { hidden = refl; aside = refl; stacked = refl; asked = refl };
  opened = λ n. absurd (n refl);
}
