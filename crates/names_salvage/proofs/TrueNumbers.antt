-- The numbers are true of the input: an entry is counted as a double exactly if its name is among those kept before it, and `moved` is 0 exactly if the entries kept come out in the order in which they stood. Assumes nothing.
use Prim.Native.Nat.{ℕ, zero, suc, Ordering}
use mathlib.Core.Path.{◌≡◌, refl, sym, ap, ◌∙◌, subst}
use mathlib.Core.Bool.{Bool, true, false, cond, ◌||◌, true≢false}
use mathlib.Core.List.{List, [], ◌∷◌, ◌++◌, reverse, reverse-cons}
use mathlib.Core.Option.{Option, none, some}
use native.Mathlib.Omega.{arith}
use lib.ListN.{length, take}
use lib.Seq.{take-nil}
use Rattle.model.specs.Bytes.{Bytes, cmp, by, same}
use Rattle.model.specs.Map.{find, put, rising, is_some}
use Rattle.model.specs.Raw.{mode_of}
use Rattle.model.specs.Tree.{Mode, is_tree, Entry, Tree, as_kind, key, or_else, entry_of, among, good_name, well_formed}
use Rattle.model.proofs.Basics.{none_some, some_none}
use Rattle.model.proofs.ByteLaws.{same_eq, same_refl}
use Rattle.model.proofs.MapLaws.{find_here, rising_tail}
use Rattle.model.proofs.SearchLaws.{rising_low}
use Rattle.model.proofs.SoundTrees.{sound_well, name_of, name_plain}
use Rattle.model.proofs.WellFormedLaws.{found_tail}
use Rattle.names.specs.Check.{names_of}
use Rattle.names_salvage.specs.Answers.{mended_of}
use Rattle.names_salvage.specs.Mending.{Mended, nothing, sorted, above, mend1, mend_all}
use Rattle.names_salvage.specs.Pieces.{Piece, piece_of, read_on, pieces_in, pieces_of}
use Rattle.names_salvage.proofs.KeepLaws.{rising_sorted, sorted_with, below_all}
use Rattle.names_salvage.proofs.MendedTree.{by_cases, no_entry, put_last, well_one}
use Rattle.names_salvage.proofs.PassLaws.{piece_split}

-- Moved: where the order is kept so far, the sorted entries are those kept, and the next one keeps it exactly if it goes to the end.
record Ordered (m : Mended) : Type 0 where
  pub stays : m.moved ≡ 0 → sorted m.kept ≡ reverse m.kept
  pub rises : rising key (reverse m.kept) ≡ true → m.moved ≡ 0

ordered_one : (x : Piece) (m : Mended) → Ordered m → Ordered (mend1 x m)
ordered_one x m o =
    by_cases Ordered x m (λ g. record { stays = o.stays; rises = o.rises }) (λ e. record { stays = o.stays; rises = o.rises }) (record { stays = o.stays; rises = o.rises })
    (λ k g e n. kept (record { mode = k; name = x.name; id = x.id }))
  where
    kept : (e : Entry) → Ordered (record { kept = e ∷ m.kept; bad_name = m.bad_name; bad_mode = m.bad_mode; double = m.double; moved = cond (above (key e) (sorted m.kept)) m.moved 1 })
    kept e = record { stays = go (above (key e) (sorted m.kept)) refl; rises = back }
      where
        go : (b : Bool) → above (key e) (sorted m.kept) ≡ b → cond b m.moved 1 ≡ 0 → sorted (e ∷ m.kept) ≡ reverse (e ∷ m.kept)
        go false a z = absurd (let y : ◌≡◌ {A = ℕ} 1 0 = z in omega arith)
        go true a z = sorted_with e m.kept ∙ put_last e (sorted m.kept) a ∙ ap (λ (t : Tree). t ++ (e ∷ [])) (o.stays z) ∙ sym (reverse-cons e m.kept)

        back : rising key (reverse (e ∷ m.kept)) ≡ true → cond (above (key e) (sorted m.kept)) m.moved 1 ≡ 0
        back r =
            let s : rising key (reverse m.kept ++ (e ∷ [])) ≡ true = ap (rising key) (sym (reverse-cons e m.kept)) ∙ r in
            let z : m.moved ≡ 0 = o.rises (rising_low key (reverse m.kept) (e ∷ []) s) in
            let a : above (key e) (sorted m.kept) ≡ true = ap (above (key e)) (o.stays z) ∙ below_all (reverse m.kept) e [] s in
            rw a z

ordered_all : (ps : List Piece) (m : Mended) → Ordered m → Ordered (mend_all ps m)
unfolding mend_all
ordered_all [] m o = o
ordered_all (x ∷ ps) m o = ordered_all ps (mend1 x m) (ordered_one x m o)

ordered_nothing : Ordered nothing
unfolding sorted
ordered_nothing = record { stays = λ z. refl; rises = λ r. refl }

-- the entries kept, as they stood, and as they come out
pub not_moved : (w : ℕ) (raw : Bytes) → (mended_of w raw).moved ≡ 0 → sorted (mended_of w raw).kept ≡ reverse (mended_of w raw).kept
not_moved w raw z = (ordered_all (pieces_of w raw).read nothing ordered_nothing).stays z

pub if_not_moved : (w : ℕ) (raw : Bytes) → sorted (mended_of w raw).kept ≡ reverse (mended_of w raw).kept → (mended_of w raw).moved ≡ 0
if_not_moved w raw e = (ordered_all (pieces_of w raw).read nothing ordered_nothing).rises (ap (rising key) (sym e) ∙ rising_sorted (mended_of w raw).kept)

-- Double: a name is in a well-formed tree exactly if it is the name of one of its entries.
or_either : (b : Bool) → (b || true) ≡ true
or_either true = refl
or_either false = refl

found_among : (k : Bytes) (t : Tree) (e : Entry) → find key k t ≡ some e → among e.name (names_of t) ≡ true
found_among k [] e f = none_some e f
found_among k (x ∷ xs) e f = go (cmp k (key x)) f (found_among k xs e)
  where
    go : (o : Ordering) → by o none (some x) (find key k xs) ≡ some e → (find key k xs ≡ some e → among e.name (names_of xs) ≡ true) → (same e.name x.name || among e.name (names_of xs)) ≡ true
    go Ordering.lt f ih = none_some e f
    go Ordering.eq f ih = let q : x ≡ e = cc in subst (λ (y : Entry). (same e.name y.name || among e.name (names_of xs)) ≡ true) (sym q) (rw (same_refl e.name))
    go Ordering.gt f ih = rw (ih f) (or_either (same e.name x.name))

among_found : (n : Bytes) (t : Tree) → rising key t ≡ true → among n (names_of t) ≡ true → (e : Entry) × (e.name ≡ n) × (find key (key e) t ≡ some e)
among_found n [] r a = absurd (true≢false (sym a))
among_found n (x ∷ xs) r a = go (same n x.name) refl a (among_found n xs (rising_tail key x xs r))
  where
    go : (b : Bool) → same n x.name ≡ b → (b || among n (names_of xs)) ≡ true → (among n (names_of xs) ≡ true → (e : Entry) × (e.name ≡ n) × (find key (key e) xs ≡ some e)) →
        (e : Entry) × (e.name ≡ n) × (find key (key e) (x ∷ xs) ≡ some e)
    go true q a ih = (x, sym (same_eq n x.name q), find_here key x xs)
    go false q a ih = let (e, f, g) = ih a in (e, f, found_tail key (key e) x xs e r g)

entry_among : (w : ℕ) (t : Tree) (n : Bytes) → well_formed w t ≡ true → good_name n ≡ true → is_some (entry_of n t) ≡ among n (names_of t)
entry_among w t n h g = go (entry_of n t) refl (among n (names_of t)) refl
  where
    named : (b : Bool) (e : Entry) → find key (as_kind b n) t ≡ some e → among n (names_of t) ≡ true
    named b e f = subst (λ (m : Bytes). among m (names_of t) ≡ true) (name_of t (sound_well w t h) b n e (name_plain n g) f) (found_among (as_kind b n) t e f)

    either : (e : Entry) (o p : Option Entry) → find key (as_kind false n) t ≡ o → find key (as_kind true n) t ≡ p → or_else o p ≡ some e → among n (names_of t) ≡ true
    either e (some y) p f g q = named false y f
    either e none (some y) f g q = named true y g
    either e none none f g q = none_some e q

    go : (o : Option Entry) → entry_of n t ≡ o → (b : Bool) → among n (names_of t) ≡ b → is_some o ≡ b
    go (some e) f true q = refl
    go (some e) f false q = absurd (true≢false (sym (either e (find key (as_kind false n) t) (find key (as_kind true n) t) refl refl f) ∙ q))
    go none f false q = refl
    go none f true q =
        let a = among_found n t (sound_well w t h).in_order q in
        absurd (some_none a.0 (sym a.2 ∙ ap (λ (m : Bytes). find key (as_kind (is_tree a.0.mode) m) t) a.1 ∙ no_entry n t f (is_tree a.0.mode)))

-- the sorted entries have the names of those kept
or_swap : (a b c : Bool) → (a || (b || c)) ≡ (b || (a || c))
or_swap true true c = refl
or_swap true false c = refl
or_swap false b c = refl

among_put : (n : Bytes) (e : Entry) (t : Tree) → find key (key e) t ≡ none → among n (names_of (put key e t)) ≡ (same n e.name || among n (names_of t))
among_put n e [] f = refl
among_put n e (x ∷ xs) f = go (cmp (key e) (key x)) f (among_put n e xs)
  where
    go : (o : Ordering) → by o none (some x) (find key (key e) xs) ≡ none → (find key (key e) xs ≡ none → among n (names_of (put key e xs)) ≡ (same n e.name || among n (names_of xs))) →
        among n (names_of (by o (e ∷ x ∷ xs) (e ∷ xs) (x ∷ put key e xs))) ≡ (same n e.name || (same n x.name || among n (names_of xs)))
    go Ordering.lt f ih = refl
    go Ordering.eq f ih = some_none x f
    go Ordering.gt f ih = ap (λ (b : Bool). same n x.name || b) (ih f) ∙ or_swap (same n x.name) (same n e.name) (among n (names_of xs))

-- what is known of the entries kept: the tree is well formed, and its names are theirs
record Named (w : ℕ) (m : Mended) : Type 0 where
  pub formed : well_formed w (sorted m.kept) ≡ true
  pub names : (n : Bytes) → among n (names_of (sorted m.kept)) ≡ among n (names_of m.kept)

named_one : (w : ℕ) (x : Piece) (m : Mended) → length x.id ≡ w → Named w m → Named w (mend1 x m)
named_one w x m l h = record { formed = well_one w x m l h.formed; names = by_cases (λ (z : Mended). (n : Bytes) → among n (names_of (sorted z.kept)) ≡ among n (names_of z.kept)) x m (λ g. h.names) (λ e. h.names) h.names kept }
  where
    kept : (k : Mode) → good_name x.name ≡ true → mode_of x.mode ≡ some k → entry_of x.name (sorted m.kept) ≡ none → (n : Bytes) →
        let e : Entry = record { mode = k; name = x.name; id = x.id } in among n (names_of (sorted (e ∷ m.kept))) ≡ among n (names_of (e ∷ m.kept))
    kept k g q f n =
        let e : Entry = record { mode = k; name = x.name; id = x.id } in
        ap (λ (t : Tree). among n (names_of t)) (sorted_with e m.kept) ∙ among_put n e (sorted m.kept) (no_entry x.name (sorted m.kept) f (is_tree k)) ∙ ap (λ (b : Bool). same n x.name || b) (h.names n)

named_all : (n w : ℕ) (s : Bytes) (m : Mended) → Named w m → (k : ℕ) → Named w (mend_all (take k (pieces_in n w s).read) m)
unfolding pieces_in mend_all
named_all zero w s m h k = subst (λ (ps : List Piece). Named w (mend_all ps m)) (sym (take-nil k)) h
named_all (suc n) w s m h k = go (piece_of w s) refl k (λ r z i j. named_all n w r z i j)
  where
    go : (o : Option Piece) → piece_of w s ≡ o → (k : ℕ) → ((r : Bytes) (z : Mended) → Named w z → (j : ℕ) → Named w (mend_all (take j (pieces_in n w r).read) z)) → Named w (mend_all (take k (read_on (pieces_in n w) s o).read) m)
    go none e k ih = subst (λ (ps : List Piece). Named w (mend_all ps m)) (sym (take-nil k)) h
    go (some x) e zero ih = h
    go (some x) e (suc k) ih = ih x.rest (mend1 x m) (named_one w x m (piece_split w s x e).wide h) k

named_nothing : (w : ℕ) → Named w nothing
unfolding sorted well_formed
named_nothing w = record { formed = refl; names = λ n. refl }

-- after the first k entries, what the next one is asked is whether its name is among those kept
pub double_is : (w : ℕ) (raw : Bytes) (k : ℕ) (n : Bytes) → good_name n ≡ true →
    let m = mend_all (take k (pieces_of w raw).read) nothing in is_some (entry_of n (sorted m.kept)) ≡ among n (names_of m.kept)
unfolding pieces_of
double_is w raw k n g =
    let h = named_all (length raw) w raw nothing (named_nothing w) k in
    entry_among w (sorted (mend_all (take k (pieces_in (length raw) w raw).read) nothing).kept) n h.formed g ∙ h.names n
