-- Laws of the tree that an open write started at: it is the last of those set aside, the latest first, or the requested one. Assumes nothing.
use mathlib.Core.Path.{◌≡◌, refl, sym, ap, ◌∙◌}
use mathlib.Core.Bool.{true}
use mathlib.Core.List.{List, [], ◌∷◌, ◌++◌, map, reverse, reverse-cons}
use Prim.Native.Nat.{ℕ, zero, suc, ◌<◌, compare, Ordering}
use native.Mathlib.Omega.{arith}
use lib.ListN.{length, take, get_or}
use Rattle.model.specs.Bytes.{by, has}
use Rattle.model.specs.Editor.{Held}
use Rattle.model.specs.Write.{bottom}
use Rattle.model.proofs.ByteLaws.{has_here}
use Rattle.store_slots.specs.View.{start_from}

bottom_last : (h : Held) (l : List Held) (x : Held) → bottom h (l ++ (x ∷ [])) ≡ x
bottom_last h [] x = refl
bottom_last h (y ∷ l) x = bottom_last y l x

has_later : (k y : ℕ) (l : List ℕ) → has k l ≡ true → has k (y ∷ l) ≡ true
has_later k y l e = go (compare k y)
  where
    go : (o : Ordering) → by o (has k l) true (has k l) ≡ true
    go Ordering.lt = e
    go Ordering.eq = refl
    go Ordering.gt = e

pub start_asked : (f : ℕ → Held) (order : List ℕ) (n k : ℕ) → n ≡ 0 → f k ≡ bottom (f k) (reverse (map f (take n order)))
start_asked f order n k z = ap (λ (x : ℕ). bottom (f k) (reverse (map f (take x order)))) (sym z)

pub start_first : (f : ℕ → Held) (order : List ℕ) (n k : ℕ) → (n ≡ 0 → ⊥) → 0 < length order → f (get_or order 0 0) ≡ bottom (f k) (reverse (map f (take n order)))
start_first f [] n k z h = absurd (omega arith)
start_first f (x ∷ order) zero k z h = absurd (z refl)
start_first f (x ∷ order) (suc n) k z h = sym (ap (bottom (f k)) (reverse-cons (f x) (map f (take n order))) ∙ bottom_last (f k) (reverse (map f (take n order))) (f x))

pub first_taken : (order : List ℕ) (n k : ℕ) (l : List ℕ) → (n ≡ 0 → ⊥) → 0 < length order → has (get_or order 0 0) (k ∷ (take n order ++ l)) ≡ true
first_taken [] n k l z h = absurd (omega arith)
first_taken (x ∷ order) zero k l z h = absurd (z refl)
first_taken (x ∷ order) (suc n) k l z h = has_later x k (x ∷ (take n order ++ l)) (has_here x x (take n order ++ l) refl)

-- the slot itself
pub start_later : (n asked : ℕ) (order : List ℕ) → (n ≡ 0 → ⊥) → get_or order 0 0 ≡ start_from n asked order
start_later zero asked order h = absurd (h refl)
start_later (suc n) asked order h = refl

pub start_now : (n asked : ℕ) (order : List ℕ) → n ≡ 0 → asked ≡ start_from n asked order
start_now n asked order z = ap (λ (x : ℕ). start_from x asked order) (sym z)
