-- Laws of the slots: one slot among the others, and what a change of it makes of the view. Assumes nothing.
use mathlib.Core.Path.{◌≡◌, refl, sym, ap, ◌∙◌}
use mathlib.Core.Bool.{Bool, true, false, ◌||◌}
use mathlib.Core.List.{List, [], ◌∷◌, ◌++◌, map}
use Prim.Native.Nat.{ℕ, zero, suc, ◌<◌}
use native.Mathlib.Omega.{arith}
use lib.ListN.{length, take, drop, get_or, set}
use Rattle.model.specs.Bytes.{Bytes, same}
use Rattle.model.specs.Map.{put, del}
use Rattle.model.specs.Tree.{among, distinct}
use Rattle.model.specs.Editor.{Held, at}
use Rattle.store_runs.specs.Runs.{with_run}
use Rattle.store_slots.specs.View.{if_used, held_in, slots_of, gather}
use Rattle.store_slots.proofs.Gather.{gather_mid, gather_change, gather_free, distinct_before, distinct_after}

-- the slots before the slot k, and those after it
abbrev pub front : ℕ → ℕ → List ℕ → List Bytes → List Bytes → List Held
front k w ds ps bs = slots_of w (take k ds) (take k ps) (take k bs)

abbrev pub back : ℕ → ℕ → List ℕ → List Bytes → List Bytes → List Held
back k w ds ps bs = slots_of w (drop (suc k) ds) (drop (suc k) ps) (drop (suc k) bs)

pub if_used_append : (d : ℕ) (h : Held) (a b : List Held) → if_used d h (a ++ b) ≡ if_used d h a ++ b
if_used_append zero h a b = refl
if_used_append (suc d) h a b = refl

-- the slot k with the digit d, its path changed by f and its run by g
abbrev pub slot : ℕ → ℕ → List Bytes → List Bytes → (Bytes → Bytes) → (Bytes → Bytes) → Held
slot k w ps bs f g = held_in w (f (get_or ps k [])) (g (get_or bs k []))

abbrev pub id : Bytes → Bytes
id x = x

pub slots_split : (k w : ℕ) (ds : List ℕ) (ps bs : List Bytes) → k < length ds → length ps ≡ length ds → length bs ≡ length ds →
    slots_of w ds ps bs ≡ front k w ds ps bs ++ if_used (get_or ds k 0) (slot k w ps bs id id) (back k w ds ps bs)
unfolding slots_of
slots_split k w [] ps bs h l r = absurd (omega arith)
slots_split k w (d ∷ ds) [] bs h l r = absurd (omega arith)
slots_split k w (d ∷ ds) (p ∷ ps) [] h l r = absurd (omega arith)
slots_split zero w (d ∷ ds) (p ∷ ps) (b ∷ bs) h l r = refl
slots_split (suc k) w (d ∷ ds) (p ∷ ps) (b ∷ bs) h l r =
    ap (if_used d (held_in w p b)) (slots_split k w ds ps bs (omega arith) (omega arith) (omega arith))
    ∙ if_used_append d (held_in w p b) (front k w ds ps bs) (if_used (get_or ds k 0) (slot k w ps bs id id) (back k w ds ps bs))

-- the slot's run changed
pub slots_run : (k w : ℕ) (ds : List ℕ) (ps bs : List Bytes) (g : Bytes → Bytes) → k < length ds → length ps ≡ length ds → length bs ≡ length ds →
    slots_of w ds ps (with_run k g bs) ≡ front k w ds ps bs ++ if_used (get_or ds k 0) (slot k w ps bs id g) (back k w ds ps bs)
unfolding slots_of with_run
slots_run k w [] ps bs g h l r = absurd (omega arith)
slots_run k w (d ∷ ds) [] bs g h l r = absurd (omega arith)
slots_run k w (d ∷ ds) (p ∷ ps) [] g h l r = absurd (omega arith)
slots_run zero w (d ∷ ds) (p ∷ ps) (b ∷ bs) g h l r = refl
slots_run (suc k) w (d ∷ ds) (p ∷ ps) (b ∷ bs) g h l r =
    ap (if_used d (held_in w p b)) (slots_run k w ds ps bs g (omega arith) (omega arith) (omega arith))
    ∙ if_used_append d (held_in w p b) (front k w ds ps bs) (if_used (get_or ds k 0) (slot k w ps bs id g) (back k w ds ps bs))

-- its digit, its path and its run changed
pub slots_set : (k w : ℕ) (ds : List ℕ) (ps bs : List Bytes) (x : ℕ) (f g : Bytes → Bytes) → k < length ds → length ps ≡ length ds → length bs ≡ length ds →
    slots_of w (set ds k x) (with_run k f ps) (with_run k g bs) ≡ front k w ds ps bs ++ if_used x (slot k w ps bs f g) (back k w ds ps bs)
unfolding slots_of with_run
slots_set k w [] ps bs x f g h l r = absurd (omega arith)
slots_set k w (d ∷ ds) [] bs x f g h l r = absurd (omega arith)
slots_set k w (d ∷ ds) (p ∷ ps) [] x f g h l r = absurd (omega arith)
slots_set zero w (d ∷ ds) (p ∷ ps) (b ∷ bs) x f g h l r = refl
slots_set (suc k) w (d ∷ ds) (p ∷ ps) (b ∷ bs) x f g h l r =
    ap (if_used d (held_in w p b)) (slots_set k w ds ps bs x f g (omega arith) (omega arith) (omega arith))
    ∙ if_used_append d (held_in w p b) (front k w ds ps bs) (if_used x (slot k w ps bs f g) (back k w ds ps bs))

-- ---- what upper layers cite

module _ (k w : ℕ) (ds : List ℕ) (ps bs : List Bytes) (h : k < length ds) (l : length ps ≡ length ds) (r : length bs ≡ length ds) where
  pub split_used : get_or ds k 0 ≡ 0 → slots_of w ds ps bs ≡ front k w ds ps bs ++ (slot k w ps bs id id ∷ back k w ds ps bs)
  split_used u = slots_split k w ds ps bs h l r ∙ ap (λ (d : ℕ). front k w ds ps bs ++ if_used d (slot k w ps bs id id) (back k w ds ps bs)) u

  free_digit : (d : ℕ) → (d ≡ 0 → ⊥) → if_used d (slot k w ps bs id id) (back k w ds ps bs) ≡ back k w ds ps bs
  free_digit zero n = absurd (n refl)
  free_digit (suc d) n = refl

  pub split_free : (get_or ds k 0 ≡ 0 → ⊥) → slots_of w ds ps bs ≡ front k w ds ps bs ++ back k w ds ps bs
  split_free u = slots_split k w ds ps bs h l r ∙ ap (λ (m : List Held). front k w ds ps bs ++ m) (free_digit (get_or ds k 0) u)

  module _ (u : get_or ds k 0 ≡ 0) (d : distinct (map at (slots_of w ds ps bs)) ≡ true) where
    apart : distinct (map at (front k w ds ps bs ++ (slot k w ps bs id id ∷ back k w ds ps bs))) ≡ true
    apart = ap (λ (m : List Held). distinct (map at m)) (sym (split_used u)) ∙ d

    pub run_used : (g : Bytes → Bytes) → slots_of w ds ps (with_run k g bs) ≡ front k w ds ps bs ++ (slot k w ps bs id g ∷ back k w ds ps bs)
    run_used g = slots_run k w ds ps bs g h l r ∙ ap (λ (d : ℕ). front k w ds ps bs ++ if_used d (slot k w ps bs id g) (back k w ds ps bs)) u

    -- a changed run is a put of its path with the changed tree
    pub view_run : (g : Bytes → Bytes) → gather (slots_of w ds ps (with_run k g bs)) ≡ put at (held_in w (get_or ps k []) (g (get_or bs k []))) (gather (slots_of w ds ps bs))
    view_run g =
        ap gather (run_used g)
        ∙ gather_change (front k w ds ps bs) (slot k w ps bs id id) (slot k w ps bs id g) (back k w ds ps bs) (distinct_before (front k w ds ps bs) (slot k w ps bs id id) (back k w ds ps bs) apart) refl
        ∙ ap (λ (m : List Held). put at (slot k w ps bs id g) (gather m)) (sym (split_used u))

    -- a freed slot is a del of its path
    pub view_free : (f g : Bytes → Bytes) → gather (slots_of w (set ds k 1) (with_run k f ps) (with_run k g bs)) ≡ del at (get_or ps k []) (gather (slots_of w ds ps bs))
    view_free f g =
        ap gather (slots_set k w ds ps bs 1 f g h l r)
        ∙ gather_free (front k w ds ps bs) (slot k w ps bs id id) (back k w ds ps bs) (distinct_before (front k w ds ps bs) (slot k w ps bs id id) (back k w ds ps bs) apart) (distinct_after (front k w ds ps bs) (slot k w ps bs id id) (back k w ds ps bs) apart)
        ∙ ap (λ (m : List Held). del at (get_or ps k []) (gather m)) (sym (split_used u))

    -- what is found at the slot's path is the slot
    -- paths stay as they are when a run changes
    pub apart_run : (g : Bytes → Bytes) → distinct (map at (slots_of w ds ps (with_run k g bs))) ≡ true
    apart_run g = ap (λ (m : List Held). distinct (map at m)) (run_used g) ∙ mapped (front k w ds ps bs) ∙ apart
      where
        names : (m : List Held) → map at (m ++ (slot k w ps bs id g ∷ back k w ds ps bs)) ≡ map at (m ++ (slot k w ps bs id id ∷ back k w ds ps bs))
        names [] = refl
        names (x ∷ m) = ap (λ (z : List Bytes). x.path ∷ z) (names m)

        mapped : (m : List Held) → distinct (map at (m ++ (slot k w ps bs id g ∷ back k w ds ps bs))) ≡ distinct (map at (m ++ (slot k w ps bs id id ∷ back k w ds ps bs)))
        mapped m = ap distinct (names m)

  among_split : (p : Bytes) (a b : List Held) → among p (map at (a ++ b)) ≡ false → among p (map at a) ≡ false
  among_split p [] b e = refl
  among_split p (x ∷ a) b e = go (same p x.path) (among_split p a b) e
    where
      go : (t : Bool) → (among p (map at (a ++ b)) ≡ false → among p (map at a) ≡ false) → (t || among p (map at (a ++ b))) ≡ false → (t || among p (map at a)) ≡ false
      go true i e = e
      go false i e = i e

  module _ (u : get_or ds k 0 ≡ 0 → ⊥) where
    -- a slot taken is a put of a path that was not there
    pub view_take : (f g : Bytes → Bytes) → among (f (get_or ps k [])) (map at (slots_of w ds ps bs)) ≡ false →
        gather (slots_of w (set ds k 0) (with_run k f ps) (with_run k g bs)) ≡ put at (held_in w (f (get_or ps k [])) (g (get_or bs k []))) (gather (slots_of w ds ps bs))
    view_take f g n =
        ap gather (slots_set k w ds ps bs 0 f g h l r)
        ∙ gather_mid (front k w ds ps bs) (slot k w ps bs f g) (back k w ds ps bs) (among_split (f (get_or ps k [])) (front k w ds ps bs) (back k w ds ps bs) (ap (λ (m : List Held). among (f (get_or ps k [])) (map at m)) (sym (split_free u)) ∙ n))
        ∙ ap (λ (m : List Held). put at (slot k w ps bs f g) (gather m)) (sym (split_free u))
