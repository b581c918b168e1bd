-- Every key from a file's to that of the tree of its name begins with the name; so where the entry at the place of a missing file does not, the tree is not there. Assumes nothing.
use Prim.Native.Nat.{ℕ, ◌≤◌, ◌<◌, compare, Ordering}
use mathlib.Core.Path.{◌≡◌, refl, sym, ap, ap₂, ◌∙◌, subst}
use mathlib.Core.Bool.{Bool, true, false, not, true≢false}
use mathlib.Core.List.{[], ◌∷◌, ◌++◌, append-nil}
use mathlib.Core.Option.{none}
use native.Mathlib.Omega.{arith}
use lib.ListN.{length, take, drop, get_or, drop_of_length-le}
use lib.Seq.{drop-cons}
use Rattle.model.specs.Bytes.{Bytes, then_by, cmp, same}
use Rattle.model.specs.Map.{find, rising, rising_from}
use Rattle.model.specs.Search.{miss, searched}
use Rattle.model.specs.Tree.{BLOB, is_tree, Entry, Tree, as_kind, key}
use Rattle.model.proofs.ByteLaws.{same_not}
use Rattle.model.proofs.MapLaws.{compare_eq, above_head}
use Rattle.model.proofs.SearchLaws.{Right, halving_right, above_place, find_from_place}
use Rattle.std.specs.Prelude.{Result, Err}
use Rattle.names_compact.specs.Compact.{found_of, place_of, unpack, blank, spot_of, Tells, begun, Finds}
use Rattle.names_compact.specs.declared.compact.Place.{Place}
use Rattle.names.proofs.FollowLaws.{file_tree}

-- a name that does not begin with n, and whose key is above n, has one above all that begin with n
beyond : (n l s r : Bytes) → length s ≤ 1 → (take (length n) l ≡ n → ⊥) → cmp n (l ++ s) ≡ Ordering.lt → cmp (n ++ r) (l ++ s) ≡ Ordering.lt
beyond [] [] s r h ne e = absurd (ne refl)
beyond [] (d ∷ l) s r h ne e = absurd (ne refl)
beyond (c ∷ n) [] s r h ne e = short s h e
  where
    ends : (m z : Bytes) → length z ≤ 0 → cmp m z ≡ Ordering.lt → ⊥
    ends [] [] h e = let z : ◌≡◌ {A = ℕ} 0 1 = cc in omega arith
    ends [] (y ∷ z) h e = omega arith
    ends (x ∷ m) [] h e = let z : ◌≡◌ {A = ℕ} 0 1 = cc in omega arith
    ends (x ∷ m) (y ∷ z) h e = omega arith

    go : (z : Bytes) (o : Ordering) → length z ≤ 0 → then_by o (cmp n z) ≡ Ordering.lt → then_by o (cmp (n ++ r) z) ≡ Ordering.lt
    go z Ordering.lt h e = refl
    go z Ordering.eq h e = absurd (ends n z h e)
    go z Ordering.gt h e = absurd (let z : ◌≡◌ {A = ℕ} 0 1 = cc in omega arith)

    short : (z : Bytes) → length z ≤ 1 → cmp (c ∷ n) z ≡ Ordering.lt → cmp (c ∷ (n ++ r)) z ≡ Ordering.lt
    short [] h e = absurd (let z : ◌≡◌ {A = ℕ} 0 1 = cc in omega arith)
    short (x ∷ z) h e = go z (compare c x) (omega arith) e
beyond (c ∷ n) (d ∷ l) s r h ne e = go (compare c d) refl e (λ p q. beyond n l s r h p q)
  where
    go : (o : Ordering) → compare c d ≡ o → then_by o (cmp n (l ++ s)) ≡ Ordering.lt → ((take (length n) l ≡ n → ⊥) → cmp n (l ++ s) ≡ Ordering.lt → cmp (n ++ r) (l ++ s) ≡ Ordering.lt) →
        then_by o (cmp (n ++ r) (l ++ s)) ≡ Ordering.lt
    go Ordering.lt f e ih = refl
    go Ordering.eq f e ih = ih (λ q. ne (ap₂ (λ (x : ℕ) (y : Bytes). x ∷ y) (sym (compare_eq c d f)) q)) e
    go Ordering.gt f e ih = absurd (let z : ◌≡◌ {A = ℕ} 0 1 = cc in omega arith)

pub tree_before_lem : (b : Bool) (n m : Bytes) → (take (length n) m ≡ n → ⊥) → cmp n (as_kind b m) ≡ Ordering.lt → cmp (as_kind true n) (as_kind b m) ≡ Ordering.lt
tree_before_lem true n m ne e = beyond n m (47 ∷ []) (47 ∷ []) (omega arith) ne e
tree_before_lem false n m ne e = ap (cmp (n ++ (47 ∷ []))) (sym (append-nil m)) ∙ beyond n m [] (47 ∷ []) (omega arith) ne (ap (cmp n) (append-nil m) ∙ e)

file_key : (n : Bytes) → key (record { mode = BLOB; name = n; id = [] }) ≡ n
unfolding is_tree
file_key n = refl

none_first : (n : Bytes) (l : Tree) → rising_from key n l ≡ true → begun n l ≡ false → find key (as_kind true n) l ≡ none
none_first n [] u f = refl
none_first n (x ∷ xs) u f = rw (tree_before_lem (is_tree x.mode) n x.name (same_not (take (length n) x.name) n f) (above_head key n x xs u))

pub no_tree_lem : (n : Bytes) (t : Tree) (i : ℕ) → rising key t ≡ true → Right key n t (miss i) → begun n (drop i t) ≡ false → find key (as_kind true n) t ≡ none
no_tree_lem n t i r R f =
    let a : Entry = record { mode = BLOB; name = n; id = [] } in
    find_from_place key n t i r R a (file_key n) (as_kind true n) (file_tree n) ∙ none_first n (drop i t) (above_place key n t i r R a (file_key n)) f

-- what the search of a tree in order says of the map
pub told_right : (w : ℕ) (b k : Bytes) (r : Result Place Place) → Tells w b (searched key k (unpack w b)) r → rising key (unpack w b) ≡ true → (f : Bool) → found_of r ≡ f → Right key k (unpack w b) (spot_of f (place_of r).index)
told_right w b k r s up f e =
    subst (Right key k (unpack w b)) (sym s.spot ∙ ap (λ (z : Bool). spot_of z (place_of r).index) e) (halving_right key (length (unpack w b)) k (unpack w b) (omega arith) up)

-- the entry at a place, if there is one
pub begun_end : (n : Bytes) (t : Tree) (i : ℕ) → i ≡ length t → false ≡ begun n (drop i t)
begun_end n t i e =
    let h : length t ≤ i = omega (arith, e) in
    sym (ap (begun n) (drop_of_length-le t h))

pub begun_at_lem : (n : Bytes) (t : Tree) (i : ℕ) → i < length t → same (take (length n) (get_or t i blank).name) n ≡ begun n (drop i t)
begun_at_lem n t i h = sym (ap (begun n) (drop-cons t i blank h))

-- what the place of a file that is not there says of the tree, and what the search says
module _ (w : ℕ) (b n : Bytes) (p : Place) (up : rising key (unpack w b) ≡ true) where
  pub twin_away : (t : Bool) → t ≡ false → Tells w b (searched key (as_kind t n) (unpack w b)) (Err p) → begun n (drop p.index (unpack w b)) ≡ false → Finds w b (as_kind (not t) n) (Err p)
  twin_away true z s f = absurd (true≢false z)
  twin_away false z s f =
      record {
        there = λ g. absurd (true≢false (sym g));
        nowhere = λ g. no_tree_lem n (unpack w b) p.index up (told_right w b n (Err p) s up false refl) f;
      }

pub twin_sought : (w : ℕ) (b k : Bytes) (r : Result Place Place) → rising key (unpack w b) ≡ true → Tells w b (searched key k (unpack w b)) r → Finds w b k r
twin_sought w b k r up s = record { there = λ e. s; nowhere = λ e. (told_right w b k r s up false e).0 }
