-- Laws of the place of a name: what the two searches say of the tree, and where an entry goes whose name is not there. Assumes nothing.
use Prim.Native.Nat.{ℕ, zero, suc, Ordering}
use mathlib.Core.Path.{◌≡◌, refl, sym, ap, ◌∙◌, subst}
use mathlib.Core.Bool.{Bool, true, false, true≢false}
use mathlib.Core.List.{List, [], ◌∷◌, ◌++◌}
use mathlib.Core.Option as maybe
use mathlib.Core.Option.{none, some}
use native.Mathlib.Omega.{arith}
use lib.ListN.{length, take, drop}
use Rattle.model.specs.Bytes.{Bytes, cmp, by}
use Rattle.model.specs.Map.{find, put, rising, rising_from, is_some}
use Rattle.model.specs.Search.{miss}
use Rattle.model.specs.Tree.{BLOB, is_tree, Entry, Tree, as_kind, key, or_else, entry_of}
use Rattle.model.proofs.ByteLaws.{same_not}
use Rattle.model.proofs.MapLaws.{cmp_refl, cmp_lt, cmp_gt, cmp_trans, above_head, above_tail, put_front}
use Rattle.model.proofs.SearchLaws.{Right, above_place}
use Rattle.names_compact.specs.Compact.{begun}
use Rattle.names_compact.proofs.TwinLaws.{tree_before_lem, no_tree_lem}
use Rattle.names.proofs.FollowLaws.{file_tree}
use Rattle.std.specs.Prelude.{Result, Ok, Err}
use Rattle.names_salvage.specs.Answers.{SearchIn, SearchIs, PlaceIs}

-- where a lower key goes in, a higher one does that all from there on are above
module _ {A : Type 0} (key : A → Bytes) (a e : A) (lower : cmp (key a) (key e) ≡ Ordering.lt) where
  pub put_past : (i : ℕ) (l : List A) → find key (key a) l ≡ none → put key a l ≡ take i l ++ (a ∷ drop i l) → put key e (drop i l) ≡ e ∷ drop i l → put key e l ≡ take i l ++ (e ∷ drop i l)
  put_past zero l f p q = q
  put_past (suc i) [] f p q = refl
  put_past (suc i) (x ∷ xs) f p q = go (cmp (key a) (key x)) refl f p (λ g r. put_past i xs g r q)
    where
      go : (o : Ordering) → cmp (key a) (key x) ≡ o → by o none (some x) (find key (key a) xs) ≡ none → by o (a ∷ x ∷ xs) (a ∷ xs) (x ∷ put key a xs) ≡ x ∷ (take i xs ++ (a ∷ drop i xs)) →
          (find key (key a) xs ≡ none → put key a xs ≡ take i xs ++ (a ∷ drop i xs) → put key e xs ≡ take i xs ++ (e ∷ drop i xs)) → put key e (x ∷ xs) ≡ x ∷ (take i xs ++ (e ∷ drop i xs))
      go Ordering.lt o f p ih =
          let z : a ≡ x = cc in
          absurd (let w : ◌≡◌ {A = ℕ} 0 1 = cc (cmp_refl (key a)) in omega arith)
      go Ordering.eq o f p ih = absurd (let w : ◌≡◌ {A = ℕ} 0 1 = cc in omega arith)
      go Ordering.gt o f p ih =
          let z : put key a xs ≡ take i xs ++ (a ∷ drop i xs) = cc in
          rw (cmp_lt (key x) (key e) (cmp_trans (key x) (key a) (key e) (cmp_gt (key a) (key x) o) lower), ih f z)

module _ (t : Tree) (n : Bytes) (up : rising key t ≡ true) where
  -- a file of the name
  abbrev a : Entry
  a = record { mode = BLOB; name = n; id = [] }

  file_key : key a ≡ n
  unfolding is_tree
  file_key = refl

  either : (o p : maybe.Option Entry) → is_some o ≡ true → is_some (or_else o p) ≡ true
  either none p h = absurd (true≢false (sym h))
  either (some x) p h = refl

  -- a file that is found
  pub place_found : {r : Result ℕ ℕ} → SearchIs t (as_kind false n) r → {i : ℕ} → r ≡ Ok i → (b : Bool) → PlaceIs t n b r
  place_found s q b =
      rw q (record { is = either (find key (as_kind false n) t) (find key (as_kind true n) t) (subst (SearchIn t (as_kind false n)) q s.is) })

  -- a file that is not there
  module _ {r : Result ℕ ℕ} (s : SearchIs t (as_kind false n) r) {i : ℕ} (e : r ≡ Err i) where
    abbrev R : Right key n t (miss i)
    R = subst (SearchIn t (as_kind false n)) e s.is

    entry_is : (o : maybe.Option Entry) → find key (as_kind true n) t ≡ o → is_some (entry_of n t) ≡ is_some o
    entry_is o f = rw (R.0, f)

    -- the tree goes where the file would, if no name there begins with this one
    tree_goes : begun n (drop i t) ≡ false → (x : Entry) → key x ≡ as_kind true n → put key x t ≡ take i t ++ (x ∷ drop i t)
    tree_goes f x q = put_past key a x lower i t (ap (λ (z : Bytes). find key z t) file_key ∙ R.0) (R.1 a file_key) (put_front key x (drop i t) (subst (λ (z : Bytes). rising_from key z (drop i t) ≡ true) (sym q) (higher (drop i t) (above_place key n t i up R a file_key) f)))
      where
        lower : cmp (key a) (key x) ≡ Ordering.lt
        lower = rw (file_key, q) (file_tree n)

        higher : (l : Tree) → rising_from key n l ≡ true → begun n l ≡ false → rising_from key (as_kind true n) l ≡ true
        higher [] u g = refl
        higher (y ∷ ys) u g = rw (tree_before_lem (is_tree y.mode) n y.name (same_not (take (length n) y.name) n g) (above_head key n y ys u)) (above_tail key n y ys u)

    goes_as : begun n (drop i t) ≡ false → (b : Bool) (x : Entry) → key x ≡ as_kind b n → put key x t ≡ take i t ++ (x ∷ drop i t)
    goes_as f true x q = tree_goes f x q
    goes_as f false x q = R.1 x q

    pub place_away : begun n (drop i t) ≡ false → (b : Bool) → PlaceIs t n b (Err i)
    place_away f b = record { is = record { is = entry_is none (no_tree_lem n t i up R f); within = R.2; goes = goes_as f b } }
