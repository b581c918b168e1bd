-- Laws of the marked places: their order does not matter, and there are as many more set digits as places. Assumes nothing.
use mathlib.Core.Path.{◌≡◌, refl, sym, ap, ap₂, ◌∙◌, subst}
use mathlib.Core.Bool.{Bool, true, false, not, ◌&&◌}
use mathlib.Core.List.{List, [], ◌∷◌, ◌++◌, map}
use Prim.Native.Nat.{ℕ, zero, suc, ◌+◌, ◌/◌, ◌≤◌, ◌<◌, compare, Ordering}
use native.Mathlib.Omega.{arith}
use lib.Dec.{eqb}
use borrow.Author.Tests.{eqb-true, eqb-false}
use lib.ListN.{length, get_or, set}
use lib.Seq.{get_or-set_same, get_or-set_other, set_comm}
use Rattle.model.specs.Bytes.{by, has}
use Rattle.model.specs.Order.{All}
use Rattle.model.proofs.Basics.{and_left, and_right, not_true, no_way}
use Rattle.model.proofs.ByteLaws.{has_here, has_past}
use Rattle.store_slots.proofs.Marked.{length_marked, marked_other}
use Rattle.store_runs.specs.Digits.{digits}
use Rattle.store_runs.specs.Runs.{total}
use Rattle.store_slots.specs.View.{marked, all_different}

-- ---- one of them at the front

pub has_mid : (x : ℕ) (a : List ℕ) (k : ℕ) (b : List ℕ) → has x (a ++ (k ∷ b)) ≡ has x (k ∷ (a ++ b))
has_mid x [] k b = refl
has_mid x (y ∷ a) k b = go (compare x y) (compare x k) (has_mid x a k b)
  where
    go : (o p : Ordering) → has x (a ++ (k ∷ b)) ≡ by p (has x (a ++ b)) true (has x (a ++ b)) →
        by o (has x (a ++ (k ∷ b))) true (has x (a ++ (k ∷ b))) ≡ by p (by o (has x (a ++ b)) true (has x (a ++ b))) true (by o (has x (a ++ b)) true (has x (a ++ b)))
    go Ordering.lt p e = e
    go Ordering.gt p e = e
    go Ordering.eq Ordering.lt e = refl
    go Ordering.eq Ordering.eq e = refl
    go Ordering.eq Ordering.gt e = refl

swap : (l : List ℕ) (i j : ℕ) → set (set l i 1) j 1 ≡ set (set l j 1) i 1
swap l i j = go (eqb i j) refl
  where
    go : (b : Bool) → eqb i j ≡ b → set (set l i 1) j 1 ≡ set (set l j 1) i 1
    go true e = ap (λ (z : ℕ). set (set l z 1) j 1) (eqb-true i j e) ∙ ap (λ (z : ℕ). set (set l j 1) z 1) (sym (eqb-true i j e))
    go false e = set_comm l i j 1 1 (eqb-false i j e)

pub marked_mid : (ds a : List ℕ) (k : ℕ) (b : List ℕ) → marked (a ++ (k ∷ b)) ds ≡ set (marked (a ++ b) ds) k 1
unfolding marked
marked_mid ds [] k b = refl
marked_mid ds (y ∷ a) k b = ap (λ (l : List ℕ). set l y 1) (marked_mid ds a k b) ∙ swap (marked (a ++ b) ds) k y

pub marked_set : (ks ds : List ℕ) (k : ℕ) → marked ks (set ds k 1) ≡ set (marked ks ds) k 1
unfolding marked
marked_set [] ds k = refl
marked_set (j ∷ ks) ds k = ap (λ (l : List ℕ). set l j 1) (marked_set ks ds k) ∙ swap (marked ks ds) k j

and_swap : (a b c : Bool) → (a && (b && c)) ≡ (b && (a && c))
and_swap true b c = refl
and_swap false true c = refl
and_swap false false c = refl

pub different_mid : (a : List ℕ) (k : ℕ) (b : List ℕ) → all_different (a ++ (k ∷ b)) ≡ all_different (k ∷ (a ++ b))
different_mid [] k b = refl
different_mid (y ∷ a) k b =
    ap₂ (λ (t s : Bool). not t && s) (has_mid y a k b) (different_mid a k b) ∙ go (eqb k y) refl
  where
    go : (t : Bool) → eqb k y ≡ t → (not (has y (k ∷ (a ++ b))) && (not (has k (a ++ b)) && all_different (a ++ b))) ≡ (not (has k (y ∷ (a ++ b))) && (not (has y (a ++ b)) && all_different (a ++ b)))
    go true e = rw (has_here y k (a ++ b) (eqb-true k y e), has_here k y (a ++ b) (sym (eqb-true k y e)))
    go false e =
        ap (λ (t : Bool). not t && (not (has k (a ++ b)) && all_different (a ++ b))) (has_past y k (a ++ b) (eqb-false k y e))
        ∙ and_swap (not (has y (a ++ b))) (not (has k (a ++ b))) (all_different (a ++ b))
        ∙ ap (λ (t : Bool). not t && (not (has y (a ++ b)) && all_different (a ++ b))) (sym (has_past k y (a ++ b) (λ q. eqb-false k y e (sym q))))

pub all_front : (P : ℕ → Type 0) (a : List ℕ) (k : ℕ) (b : List ℕ) → All P (a ++ (k ∷ b)) → All P (k ∷ (a ++ b))
all_front P [] k b h = h
all_front P (y ∷ a) k b h = let i = all_front P a k b h.1 in (i.0, (h.0, i.1))

pub all_mid : (P : ℕ → Type 0) (a : List ℕ) (k : ℕ) (b : List ℕ) → All P (k ∷ (a ++ b)) → All P (a ++ (k ∷ b))
all_mid P [] k b h = h
all_mid P (y ∷ a) k b h = (h.1.0, all_mid P a k b (h.0, h.1.1))

-- ---- one digit

abbrev pub Low : List ℕ → ℕ → Type 0
Low ds k = k < length ds

-- each of them is set
pub marked_here : (ks ds : List ℕ) (k : ℕ) → k < length ds → has k ks ≡ true → get_or (marked ks ds) k 0 ≡ 1
unfolding marked
marked_here [] ds k h n = no_way (sym n)
marked_here (j ∷ ks) ds k h n = go (eqb j k) refl (marked_here ks ds k h)
  where
    go : (t : Bool) → eqb j k ≡ t → (has k ks ≡ true → get_or (marked ks ds) k 0 ≡ 1) → get_or (set (marked ks ds) j 1) k 0 ≡ 1
    go true e i = ap (λ (z : ℕ). get_or (set (marked ks ds) z 1) k 0) (eqb-true j k e) ∙ get_or-set_same (marked ks ds) k 1 0 (omega (arith, length_marked ks ds))
    go false e i = get_or-set_other (marked ks ds) j k 1 0 (λ q. eqb-false j k e (sym q)) ∙ i (sym (has_past k j ks (eqb-false j k e)) ∙ n)

-- a place that is not set is none of them
pub not_marked : (ks ds : List ℕ) (k : ℕ) → k < length ds → get_or (marked ks ds) k 0 ≡ 0 → has k ks ≡ false
not_marked ks ds k h z = go (has k ks) refl
  where
    go : (t : Bool) → has k ks ≡ t → t ≡ false
    go false e = refl
    go true e = absurd (omega (arith, marked_here ks ds k h e, z))

-- ---- sums

pub total_set : (ds : List ℕ) (k : ℕ) → k < length ds → get_or ds k 0 ≡ 0 → total (set ds k 1) ≡ total ds + 1
unfolding total
total_set [] k h z = absurd (omega arith)
total_set (d ∷ ds) zero h z = omega (arith, z)
total_set (d ∷ ds) (suc k) h z = omega (arith, total_set ds k (omega arith) z)

abbrev pub Unset : List ℕ → ℕ → Type 0
Unset ds k = (k < length ds) × (get_or ds k 0 ≡ 0)

pub total_marked : (ks ds : List ℕ) → All (Unset ds) ks → all_different ks ≡ true → total (marked ks ds) ≡ total ds + length ks
unfolding marked
total_marked [] ds u a = omega arith
total_marked (k ∷ ks) ds u a =
    let n : has k ks ≡ false = not_true (has k ks) (and_left (not (has k ks)) (all_different ks) a) in
    let i = total_marked ks ds u.1 (and_right (not (has k ks)) (all_different ks) a) in
    omega (arith, i, total_set (marked ks ds) k (omega (arith, length_marked ks ds, u.0.0)) (marked_other k ks ds n ∙ u.0.1))

-- the digits' sum is at most their number; less where one is not set
pub total_digits : (w n : ℕ) → total (digits w n) ≤ w
unfolding digits total
total_digits zero n = omega arith
total_digits (suc w) n = omega (arith, total_digits w (n / 2))

pub total_below : (w n k : ℕ) → k < w → get_or (digits w n) k 0 ≡ 0 → total (digits w n) < w
unfolding digits total
total_below zero n k h z = absurd (omega arith)
total_below (suc w) n zero h z = omega (arith, total_digits w (n / 2), z)
total_below (suc w) n (suc k) h z = omega (arith, total_below w (n / 2) k (omega arith) z)

-- ---- one that is among them, and one that is not

pub all_has : (P : ℕ → Type 0) (ks : List ℕ) (k : ℕ) → All P ks → has k ks ≡ true → P k
all_has P [] k a n = no_way (sym n)
all_has P (j ∷ ks) k a n = go (eqb j k) refl (all_has P ks k a.1)
  where
    go : (t : Bool) → eqb j k ≡ t → (has k ks ≡ true → P k) → P k
    go true e i = subst P (eqb-true j k e) a.0
    go false e i = i (sym (has_past k j ks (eqb-false j k e)) ∙ n)

pub all_other : (ks : List ℕ) (k : ℕ) → has k ks ≡ false → All (λ j. j ≡ k → ⊥) ks
all_other [] k n = tt
all_other (j ∷ ks) k n =
    let o : j ≡ k → ⊥ = λ e. no_way (sym (has_here k j ks e) ∙ n) in
    (o, all_other ks k (sym (has_past k j ks o) ∙ n))

pub all_left : (P : ℕ → Type 0) (a b : List ℕ) → All P (a ++ b) → All P a
all_left P [] b h = tt
all_left P (x ∷ a) b h = (h.0, all_left P a b h.1)

pub all_right : (P : ℕ → Type 0) (a b : List ℕ) → All P (a ++ b) → All P b
all_right P [] b h = h
all_right P (x ∷ a) b h = all_right P a b h.1

-- both of each
pub all_both : (P Q : ℕ → Type 0) (ks : List ℕ) → All P ks → All Q ks → All (λ j. P j × Q j) ks
all_both P Q [] a b = tt
all_both P Q (k ∷ ks) a b = ((a.0, b.0), all_both P Q ks a.1 b.1)

pub map_same : {A : Type 0} (f g : ℕ → A) (ks : List ℕ) → All (λ j. f j ≡ g j) ks → map f ks ≡ map g ks
map_same f g [] a = refl
map_same f g (k ∷ ks) a = ap₂ (λ x y. x ∷ y) a.0 (map_same f g ks a.1)
