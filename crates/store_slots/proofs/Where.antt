-- The slot of a path, and the view: the first used slot at the path is the tree that the view has there, and without such a slot it has none. Assumes nothing.
use mathlib.Core.Path.{◌≡◌, refl, sym, ap, ◌∙◌, subst}
use mathlib.Core.Bool.{Bool, true, false, cond, ◌||◌}
use mathlib.Core.Option.{none, some}
use mathlib.Core.List.{List, [], ◌∷◌, map}
use Prim.Native.Nat.{ℕ, zero, suc, ◌+◌, ◌/◌, ◌≤◌, ◌<◌}
use native.Mathlib.Omega.{arith}
use lib.ListN.{length, get_or}
use Rattle.model.specs.Bytes.{Bytes, same}
use Rattle.model.specs.Tree.{among}
use Rattle.model.specs.Editor.{at}
use Rattle.store_runs.specs.Digits.{digits}
use Rattle.store_runs.specs.Find.{hit, pick, find_from}
use Rattle.model.proofs.ByteLaws.{same_eq}
use Rattle.std.specs.Prelude.{Option, Some, None}
use Rattle.store_slots.specs.View.{if_used, held_in, slots_of, SlotIs}
use Rattle.store_slots.proofs.Gather.{first_held, find_gather}

abbrev pub Bits : List ℕ → Type 0
Bits [] = Unit {0}
Bits (d ∷ ds) = (d ≤ 1) × Bits ds

pub digits_bits : (k n : ℕ) → Bits (digits k n)
unfolding digits
digits_bits zero n = tt
digits_bits (suc k) n = (omega arith, digits_bits k (n / 2))

-- what is found from the slot i on, as a place among the slots from there
abbrev pub Placed : ℕ → ℕ → List ℕ → List Bytes → List Bytes → Bytes → Option ℕ → Type 0
Placed i w ds ps bs p (Some j) = (k : ℕ) × (j ≡ i + k) × (k < length ds) × (get_or ds k 0 ≡ 0) × (get_or ps k [] ≡ p) × (first_held p (slots_of w ds ps bs) ≡ some (held_in w p (get_or bs k [])))
Placed i w ds ps bs p None = (first_held p (slots_of w ds ps bs) ≡ none) × (among p (map at (slots_of w ds ps bs)) ≡ false)

pub placed : (i w : ℕ) (ds : List ℕ) (ps bs : List Bytes) (p : Bytes) → Bits ds → length ps ≡ length ds → length bs ≡ length ds → Placed i w ds ps bs p (find_from i ds ps p)
unfolding find_from slots_of first_held
placed i w [] ps bs p t l r = (refl, refl)
placed i w (d ∷ ds) [] bs p t l r = absurd (omega arith)
placed i w (d ∷ ds) (q ∷ ps) [] p t l r = absurd (omega arith)
placed i w (d ∷ ds) (q ∷ ps) (b ∷ bs) p (t, ts) l r = go d t (find_from (i + 1) ds ps p) (placed (i + 1) w ds ps bs p ts (omega arith) (omega arith))
  where
    later : (d : ℕ) (f : Option ℕ) → first_held p (if_used d (held_in w q b) (slots_of w ds ps bs)) ≡ first_held p (slots_of w ds ps bs) →
        among p (map at (if_used d (held_in w q b) (slots_of w ds ps bs))) ≡ among p (map at (slots_of w ds ps bs)) →
        Placed (i + 1) w ds ps bs p f → Placed i w (d ∷ ds) (q ∷ ps) (b ∷ bs) p f
    later d (Some j) e m (k, h, c, u, n, f) = (suc k, omega arith, omega arith, u, n, e ∙ f)
    later d None e m (h, n) = (e ∙ h, m ∙ n)

    used : (f : Option ℕ) → Placed (i + 1) w ds ps bs p f → (x : Bool) → same p q ≡ x → Placed i w (0 ∷ ds) (q ∷ ps) (b ∷ bs) p (pick x (Some i) f)
    used f g true e =
        let s : q ≡ p = sym (same_eq p q e) in
        (0, omega arith, omega arith, refl, s, ap (λ (x : Bool). cond x (some (held_in w q b)) (first_held p (slots_of w ds ps bs))) e ∙ ap (λ (z : Bytes). some (held_in w z b)) s)
    used f g false e =
        later 0 f (ap (λ (x : Bool). cond x (some (held_in w q b)) (first_held p (slots_of w ds ps bs))) e) (ap (λ (x : Bool). x || among p (map at (slots_of w ds ps bs))) e) g

    go : (d : ℕ) → d ≤ 1 → (f : Option ℕ) → Placed (i + 1) w ds ps bs p f → Placed i w (d ∷ ds) (q ∷ ps) (b ∷ bs) p (pick (hit d q p) (Some i) f)
    go zero t f g = used f g (same p q) refl
    go (suc zero) t f g = later 1 f refl refl g
    go (suc (suc d)) t f g = absurd (omega arith)

-- what `store_runs::find` finds is what stands in the view
pub slot_is : (w n : ℕ) (ps bs : List Bytes) (p : Bytes) → length ps ≡ length (digits 64 n) → length bs ≡ length (digits 64 n) → SlotIs w (digits 64 n) ps bs p (find_from 0 (digits 64 n) ps p)
slot_is w n ps bs p l r = go (find_from 0 (digits 64 n) ps p) (placed 0 w (digits 64 n) ps bs p (digits_bits 64 n) l r)
  where
    go : (f : Option ℕ) → Placed 0 w (digits 64 n) ps bs p f → SlotIs w (digits 64 n) ps bs p f
    go (Some j) (k, e, h, u, q, f) =
        let s : j ≡ k = omega arith in
        subst (λ (z : ℕ). SlotIs w (digits 64 n) ps bs p (Some z)) (sym s) (h, u, q, find_gather p (slots_of w (digits 64 n) ps bs) ∙ f)
    go None (e, m) = (find_gather p (slots_of w (digits 64 n) ps bs) ∙ e, m)
