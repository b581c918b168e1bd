-- Laws of the cached trees: a slot that is hidden goes from the cache, and one that is shown again is put. Assumes nothing.
use mathlib.Core.Path.{◌≡◌, refl, sym, ap, ap₂, ◌∙◌}
use mathlib.Core.Bool.{true}
use mathlib.Core.List.{List, [], ◌∷◌, ◌++◌, map}
use Prim.Native.Nat.{ℕ, zero, suc, ◌<◌}
use native.Mathlib.Omega.{arith}
use lib.ListN.{length, get_or, set}
use Rattle.model.specs.Bytes.{Bytes}
use Rattle.model.specs.Map.{put, del}
use Rattle.model.specs.Tree.{distinct}
use Rattle.model.specs.Editor.{Held, at}
use Rattle.model.specs.Order.{All}
use Rattle.store_slots.proofs.Marked.{length_marked}
use Rattle.store_runs.specs.Runs.{with_run}
use Rattle.store_slots.specs.View.{held_in, slots_of, gather, marked, if_used}
use Rattle.store_slots.proofs.Gather.{gather_mid, distinct_before, distinct_remove}
use Rattle.store_slots.proofs.Slots.{front, back, slot, id, split_used, slots_split, slots_set, view_free}
use Rattle.store_taken.proofs.Marking.{Low}

with_id : (k : ℕ) (rs : List Bytes) → with_run k id rs ≡ rs
unfolding with_run
with_id k [] = refl
with_id zero (x ∷ rs) = refl
with_id (suc k) (x ∷ rs) = ap (λ (l : List Bytes). x ∷ l) (with_id k rs)

module _ (k w : ℕ) (ds : List ℕ) (ps bs : List Bytes) (h : k < length ds) (l : length ps ≡ length ds) (r : length bs ≡ length ds) where
  unchanged : (x : ℕ) → slots_of w (set ds k x) ps bs ≡ slots_of w (set ds k x) (with_run k id ps) (with_run k id bs)
  unchanged x = ap₂ (λ (p b : List Bytes). slots_of w (set ds k x) p b) (sym (with_id k ps)) (sym (with_id k bs))

  pub hide_slots : slots_of w (set ds k 1) ps bs ≡ front k w ds ps bs ++ back k w ds ps bs
  hide_slots = unchanged 1 ∙ slots_set k w ds ps bs 1 id id h l r

  pub hide_apart : distinct (map at (slots_of w ds ps bs)) ≡ true → distinct (map at (slots_of w (set ds k 1) ps bs)) ≡ true
  hide_apart d = ap (λ (m : List Held). distinct (map at m)) hide_slots ∙ go (get_or ds k 0) (ap (λ (m : List Held). distinct (map at m)) (sym (slots_split k w ds ps bs h l r)) ∙ d)
    where
      go : (n : ℕ) → distinct (map at (front k w ds ps bs ++ if_used n (slot k w ps bs id id) (back k w ds ps bs))) ≡ true → distinct (map at (front k w ds ps bs ++ back k w ds ps bs)) ≡ true
      go zero e = distinct_remove (front k w ds ps bs) (slot k w ps bs id id) (back k w ds ps bs) e
      go (suc n) e = e

  module _ (u : get_or ds k 0 ≡ 0) (d : distinct (map at (slots_of w ds ps bs)) ≡ true) where
    pub hide_view : gather (slots_of w (set ds k 1) ps bs) ≡ del at (get_or ps k []) (gather (slots_of w ds ps bs))
    hide_view = ap gather (unchanged 1) ∙ view_free k w ds ps bs h l r u d id id

    pub show_view : gather (slots_of w ds ps bs) ≡ put at (held_in w (get_or ps k []) (get_or bs k [])) (gather (slots_of w (set ds k 1) ps bs))
    show_view =
        let s = split_used k w ds ps bs h l r u in
        ap gather s
        ∙ gather_mid (front k w ds ps bs) (slot k w ps bs id id) (back k w ds ps bs)
        (distinct_before (front k w ds ps bs) (slot k w ps bs id id) (back k w ds ps bs) (ap (λ (m : List Held). distinct (map at m)) (sym s) ∙ d))
        ∙ ap (λ (m : List Held). put at (slot k w ps bs id id) (gather m)) (sym hide_slots)

-- paths that are apart stay so where slots are hidden
pub marked_apart : (w : ℕ) (ks ds : List ℕ) (ps bs : List Bytes) → length ps ≡ length ds → length bs ≡ length ds → All (Low ds) ks →
    distinct (map at (slots_of w ds ps bs)) ≡ true → distinct (map at (slots_of w (marked ks ds) ps bs)) ≡ true
unfolding marked
marked_apart w [] ds ps bs l r a d = d
marked_apart w (k ∷ ks) ds ps bs l r a d =
    let e = sym (length_marked ks ds) in
    hide_apart k w (marked ks ds) ps bs (omega (arith, e, a.0)) (l ∙ e) (r ∙ e) (marked_apart w ks ds ps bs l r a.1 d)

-- what the hidden slots hold does not matter
pub shown_same : (w : ℕ) (ds : List ℕ) (ps bs ps' bs' : List Bytes) → length ps ≡ length ds → length bs ≡ length ds → length ps' ≡ length ds → length bs' ≡ length ds →
    ((k : ℕ) → k < length ds → get_or ds k 0 ≡ 0 → (get_or ps' k [] ≡ get_or ps k []) × (get_or bs' k [] ≡ get_or bs k [])) → slots_of w ds ps' bs' ≡ slots_of w ds ps bs
unfolding slots_of
shown_same w [] ps bs ps' bs' l r l' r' f = refl
shown_same w (d ∷ ds) [] bs ps' bs' l r l' r' f = absurd (omega arith)
shown_same w (d ∷ ds) (p ∷ ps) [] ps' bs' l r l' r' f = absurd (omega arith)
shown_same w (d ∷ ds) (p ∷ ps) (b ∷ bs) [] bs' l r l' r' f = absurd (omega arith)
shown_same w (d ∷ ds) (p ∷ ps) (b ∷ bs) (p' ∷ ps') [] l r l' r' f = absurd (omega arith)
shown_same w (d ∷ ds) (p ∷ ps) (b ∷ bs) (p' ∷ ps') (b' ∷ bs') l r l' r' f =
    go d (f 0 (omega arith)) (shown_same w ds ps bs ps' bs' (omega arith) (omega arith) (omega arith) (omega arith) (λ k h z. f (suc k) (omega arith) z))
  where
    go : (d : ℕ) → (d ≡ 0 → (p' ≡ p) × (b' ≡ b)) → slots_of w ds ps' bs' ≡ slots_of w ds ps bs → if_used d (held_in w p' b') (slots_of w ds ps' bs') ≡ if_used d (held_in w p b) (slots_of w ds ps bs)
    go zero e i = let q = e refl in ap₂ (λ (x y : Bytes). held_in w x y ∷ slots_of w ds ps' bs') q.0 q.1 ∙ ap (λ (m : List Held). held_in w p b ∷ m) i
    go (suc d) e i = i
