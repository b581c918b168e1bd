-- A mended tree is well formed; the entries read and the bytes left are the input, and each entry is kept or counted once; where nothing was dropped or moved what comes out is what was read. Assumes nothing.
use Prim.Native.Nat.{ℕ, zero, suc, ◌+◌, Ordering}
use mathlib.Core.Path.{◌≡◌, refl, sym, ap, ◌∙◌}
use mathlib.Core.Bool.{Bool, true, false, cond, not, true≢false}
use mathlib.Core.List.{List, [], ◌∷◌, ◌++◌, append_assoc, append-nil}
use mathlib.Core.Option.{Option, none, some}
use native.Mathlib.Omega.{arith}
use lib.ListN.{length, length-append}
use Rattle.model.specs.Bytes.{Bytes, cmp}
use Rattle.model.specs.Map.{find, put, is_some}
use Rattle.model.specs.Raw.{octal, mode_of, raw_entry, raw_tree, read_tree}
use Rattle.model.specs.Tree.{Mode, is_tree, Entry, Tree, as_kind, key, or_else, entry_of, good_name, well_formed}
use Rattle.model.proofs.Basics.{some_none, and_left, and_right}
use Rattle.model.proofs.MapLaws.{cmp_lt}
use Rattle.model.proofs.RawLaws.{mode_of_lem, read_back}
use Rattle.model.proofs.SoundTrees.{del_absent}
use Rattle.model.proofs.WellFormedLaws.{well_with}
use Rattle.names.specs.Check.{is_less}
use Rattle.names.proofs.WriteLaws.{raw_snoc}
use Rattle.names_salvage.specs.Answers.{mended_of}
use Rattle.names_salvage.specs.Mending.{Mended, nothing, sorted, above, keep_as, mend1, mend_all}
use Rattle.names_salvage.specs.Pieces.{Piece, piece_of, read_on, pieces_in, pieces_of, raw_piece, raw_pieces}
use Rattle.names_salvage.proofs.KeepLaws.{sorted_with}
use Rattle.names_salvage.proofs.PassLaws.{piece_split, no_bytes}

-- what holds of each case of an entry holds of what is made of it
pub by_cases : (P : Mended → Type 0) (x : Piece) (m : Mended) →
    (good_name x.name ≡ false → P (record { kept = m.kept; bad_name = suc m.bad_name; bad_mode = m.bad_mode; double = m.double; moved = m.moved })) →
    (mode_of x.mode ≡ none → P (record { kept = m.kept; bad_name = m.bad_name; bad_mode = suc m.bad_mode; double = m.double; moved = m.moved })) →
    P (record { kept = m.kept; bad_name = m.bad_name; bad_mode = m.bad_mode; double = suc m.double; moved = m.moved }) →
    ((k : Mode) → good_name x.name ≡ true → mode_of x.mode ≡ some k → entry_of x.name (sorted m.kept) ≡ none →
    let e : Entry = record { mode = k; name = x.name; id = x.id } in
    P (record { kept = e ∷ m.kept; bad_name = m.bad_name; bad_mode = m.bad_mode; double = m.double; moved = cond (above (key e) (sorted m.kept)) m.moved 1 })) →
    P (mend1 x m)
unfolding mend1
by_cases P x m no_name no_mode twice keeps = go (good_name x.name) refl (mode_of x.mode) refl
  where
    one : (k : Mode) → good_name x.name ≡ true → mode_of x.mode ≡ some k → (o : Option Entry) → entry_of x.name (sorted m.kept) ≡ o →
        let e : Entry = record { mode = k; name = x.name; id = x.id } in
        P (cond (is_some o)
        (record { kept = m.kept; bad_name = m.bad_name; bad_mode = m.bad_mode; double = suc m.double; moved = m.moved })
        (record { kept = e ∷ m.kept; bad_name = m.bad_name; bad_mode = m.bad_mode; double = m.double; moved = cond (above (key e) (sorted m.kept)) m.moved 1 }))
    one k g e (some y) f = twice
    one k g e none f = keeps k g e f

    go : (b : Bool) → good_name x.name ≡ b → (o : Option Mode) → mode_of x.mode ≡ o →
        P (cond b (keep_as o x m) (record { kept = m.kept; bad_name = suc m.bad_name; bad_mode = m.bad_mode; double = m.double; moved = m.moved }))
    go false g o e = no_name g
    go true g none e = no_mode e
    go true g (some k) e = one k g e (entry_of x.name (sorted m.kept)) refl

-- I. What comes out is well formed.
pub no_entry : (n : Bytes) (t : Tree) → entry_of n t ≡ none → (b : Bool) → find key (as_kind b n) t ≡ none
no_entry n t e b = go (find key (as_kind false n) t) refl (find key (as_kind true n) t) refl e b
  where
    go : (o : Option Entry) → find key (as_kind false n) t ≡ o → (p : Option Entry) → find key (as_kind true n) t ≡ p → or_else o p ≡ none → (b : Bool) → find key (as_kind b n) t ≡ none
    go none f none g e true = g
    go none f none g e false = f
    go none f (some y) g e b = some_none y e
    go (some y) f p g e b = some_none y e

well_put : (w : ℕ) (e : Entry) (t : Tree) → good_name e.name ≡ true → length e.id ≡ w → entry_of e.name t ≡ none → well_formed w t ≡ true → well_formed w (put key e t) ≡ true
well_put w e t g l n h =
    ap (λ (u : Tree). well_formed w (put key e u)) (sym (del_absent key (as_kind (not (is_tree e.mode)) e.name) t (no_entry e.name t n (not (is_tree e.mode))))) ∙ well_with w e.mode e.name e.id t g l h

pub well_one : (w : ℕ) (x : Piece) (m : Mended) → length x.id ≡ w → well_formed w (sorted m.kept) ≡ true → well_formed w (sorted (mend1 x m).kept) ≡ true
well_one w x m l h =
    by_cases (λ (z : Mended). well_formed w (sorted z.kept) ≡ true) x m (λ g. h) (λ e. h) h
    (λ k g e n. ap (well_formed w) (sorted_with (record { mode = k; name = x.name; id = x.id }) m.kept) ∙ well_put w (record { mode = k; name = x.name; id = x.id }) (sorted m.kept) g l n h)

well_all : (n w : ℕ) (s : Bytes) (m : Mended) → well_formed w (sorted m.kept) ≡ true → well_formed w (sorted (mend_all (pieces_in n w s).read m).kept) ≡ true
unfolding pieces_in mend_all
well_all zero w s m h = h
well_all (suc n) w s m h = go (piece_of w s) refl (λ r z i. well_all n w r z i)
  where
    go : (o : Option Piece) → piece_of w s ≡ o → ((r : Bytes) (z : Mended) → well_formed w (sorted z.kept) ≡ true → well_formed w (sorted (mend_all (pieces_in n w r).read z).kept) ≡ true) →
        well_formed w (sorted (mend_all (read_on (pieces_in n w) s o).read m).kept) ≡ true
    go none e ih = h
    go (some x) e ih = ih x.rest (mend1 x m) (well_one w x m (piece_split w s x e).wide h)

pub well : (w : ℕ) (raw : Bytes) → well_formed w (sorted (mended_of w raw).kept) ≡ true
unfolding pieces_of sorted well_formed
well w raw = well_all (length raw) w raw nothing refl

-- II. The numbers add up: each entry read is kept or counted once.
abbrev pub tally : Mended → ℕ
tally m = length m.kept + m.bad_name + m.bad_mode + m.double

tally_one : (x : Piece) (m : Mended) → tally (mend1 x m) ≡ suc (tally m)
tally_one x m = by_cases (λ (z : Mended). tally z ≡ suc (tally m)) x m (λ g. omega arith) (λ e. omega arith) (omega arith) (λ k g e n. omega arith)

tally_all : (ps : List Piece) (m : Mended) → tally (mend_all ps m) ≡ tally m + length ps
unfolding mend_all
tally_all [] m = omega arith
tally_all (x ∷ ps) m = omega (arith, tally_all ps (mend1 x m), tally_one x m)

pub adds_up : (w : ℕ) (raw : Bytes) → tally (mended_of w raw) ≡ length (pieces_of w raw).read
adds_up w raw = omega (arith, tally_all (pieces_of w raw).read nothing)

-- III. The entries read and the bytes left are the input.
bytes_in_lem : (n w : ℕ) (s : Bytes) → s ≡ raw_pieces (pieces_in n w s).read ++ (pieces_in n w s).left
unfolding pieces_in raw_pieces
bytes_in_lem zero w s = refl
bytes_in_lem (suc n) w s = go (piece_of w s) refl (λ r. bytes_in_lem n w r)
  where
    go : (o : Option Piece) → piece_of w s ≡ o → ((r : Bytes) → r ≡ raw_pieces (pieces_in n w r).read ++ (pieces_in n w r).left) → s ≡ raw_pieces (read_on (pieces_in n w) s o).read ++ (read_on (pieces_in n w) s o).left
    go none e ih = refl
    go (some x) e ih =
        (piece_split w s x e).bytes
        ∙ sym (append_assoc x.mode (32 ∷ x.name ++ (0 ∷ x.id)) x.rest ∙ ap (λ (l : Bytes). x.mode ++ (32 ∷ l)) (append_assoc x.name (0 ∷ x.id) x.rest))
        ∙ ap (λ (l : Bytes). raw_piece x ++ l) (ih x.rest) ∙ sym (append_assoc (raw_piece x) (raw_pieces (pieces_in n w x.rest).read) (pieces_in n w x.rest).left)

pub bytes_all : (w : ℕ) (raw : Bytes) → raw ≡ raw_pieces (pieces_of w raw).read ++ (pieces_of w raw).left
unfolding pieces_of
bytes_all w raw = bytes_in_lem (length raw) w raw

pub cut_and_read : (w : ℕ) (raw : Bytes) → length (pieces_of w raw).left + length (raw_pieces (pieces_of w raw).read) ≡ length raw
cut_and_read w raw = omega (arith, ap length (bytes_all w raw), length-append (raw_pieces (pieces_of w raw).read) (pieces_of w raw).left)

-- IV. Where nothing was dropped or moved, what comes out is what was read.
pub put_last : (e : Entry) (t : Tree) → above (key e) t ≡ true → put key e t ≡ t ++ (e ∷ [])
unfolding above
put_last e [] h = refl
put_last e (x ∷ xs) h = go (cmp (key x) (key e)) refl (and_left (is_less (cmp (key x) (key e))) (above (key e) xs) h) (put_last e xs (and_right (is_less (cmp (key x) (key e))) (above (key e) xs) h))
  where
    go : (o : Ordering) → cmp (key x) (key e) ≡ o → is_less o ≡ true → put key e xs ≡ xs ++ (e ∷ []) → put key e (x ∷ xs) ≡ x ∷ (xs ++ (e ∷ []))
    go Ordering.lt q z ih = rw (cmp_lt (key x) (key e) q, ih)
    go Ordering.eq q z ih = absurd (true≢false (sym z))
    go Ordering.gt q z ih = absurd (true≢false (sym z))

pub entry_piece : (e : Entry) → raw_entry e ≡ octal e.mode ++ (32 ∷ e.name ++ (0 ∷ e.id))
unfolding raw_entry
entry_piece e = refl

-- nothing was dropped or moved
pub record Untouched (m : Mended) : Type 0 where
  pub bad_name : m.bad_name ≡ 0
  pub bad_mode : m.bad_mode ≡ 0
  pub double : m.double ≡ 0
  pub moved : m.moved ≡ 0

-- and then the entries kept are those read
record Follows (m z : Mended) (s : Bytes) : Type 0 where
  pub before : Untouched m
  pub grown : raw_tree (sorted z.kept) ≡ raw_tree (sorted m.kept) ++ s

follows_one : (x : Piece) (m : Mended) → Untouched (mend1 x m) → Follows m (mend1 x m) (raw_piece x)
follows_one x m =
    by_cases (λ (z : Mended). Untouched z → Follows m z (raw_piece x)) x m
    (λ g u. absurd (let q = u.bad_name in omega arith)) (λ e u. absurd (let q = u.bad_mode in omega arith)) (λ u. absurd (let q = u.double in omega arith))
    (λ k g e n u. kept k e u (above (key (record { mode = k; name = x.name; id = x.id })) (sorted m.kept)) refl u.moved)
  where
    kept : (k : Mode) → mode_of x.mode ≡ some k → let e : Entry = record { mode = k; name = x.name; id = x.id } in
        Untouched (record { kept = e ∷ m.kept; bad_name = m.bad_name; bad_mode = m.bad_mode; double = m.double; moved = cond (above (key e) (sorted m.kept)) m.moved 1 }) →
        (b : Bool) → above (key e) (sorted m.kept) ≡ b → cond b m.moved 1 ≡ 0 →
        Follows m (record { kept = e ∷ m.kept; bad_name = m.bad_name; bad_mode = m.bad_mode; double = m.double; moved = cond (above (key e) (sorted m.kept)) m.moved 1 }) (raw_piece x)
    kept k q u false a z = absurd (let y : ◌≡◌ {A = ℕ} 1 0 = z in omega arith)
    kept k q u true a z =
        let e : Entry = record { mode = k; name = x.name; id = x.id } in
        record {
          before = record { bad_name = u.bad_name; bad_mode = u.bad_mode; double = u.double; moved = z };
          grown = ap raw_tree (sorted_with e m.kept ∙ put_last e (sorted m.kept) a) ∙ sym (raw_snoc (sorted m.kept) e) ∙ ap (λ (l : Bytes). raw_tree (sorted m.kept) ++ l) (entry_piece e ∙ ap (λ (l : Bytes). l ++ (32 ∷ x.name ++ (0 ∷ x.id))) (sym (mode_of_lem x.mode k q)));
        }

follows_all : (ps : List Piece) (m : Mended) → Untouched (mend_all ps m) → Follows m (mend_all ps m) (raw_pieces ps)
unfolding mend_all raw_pieces
follows_all [] m u = record { before = u; grown = sym (append-nil (raw_tree (sorted m.kept))) }
follows_all (x ∷ ps) m u =
    let f = follows_all ps (mend1 x m) u in
    let g = follows_one x m f.before in
    record { before = g.before; grown = f.grown ∙ ap (λ (l : Bytes). l ++ raw_pieces ps) g.grown ∙ append_assoc (raw_tree (sorted m.kept)) (raw_piece x) (raw_pieces ps) }

pub only_well : (w : ℕ) (raw : Bytes) → Untouched (mended_of (suc w) raw) → length (pieces_of (suc w) raw).left ≡ 0 → (raw_tree (sorted (mended_of (suc w) raw).kept) ≡ raw) × (read_tree (suc w) raw ≡ some (sorted (mended_of (suc w) raw).kept))
unfolding sorted
only_well w raw u l = (same, ap (read_tree (suc w)) (sym same) ∙ read_back w (sorted (mended_of (suc w) raw).kept) (well (suc w) raw))
  where
    none_left : (pieces_of (suc w) raw).left ≡ []
    none_left = no_bytes (pieces_of (suc w) raw).left (omega (arith, l))

    same : raw_tree (sorted (mended_of (suc w) raw).kept) ≡ raw
    same = (follows_all (pieces_of (suc w) raw).read nothing u).grown ∙ sym (append-nil (raw_pieces (pieces_of (suc w) raw).read)) ∙ ap (λ (l : Bytes). raw_pieces (pieces_of (suc w) raw).read ++ l) (sym none_left) ∙ sym (bytes_all (suc w) raw)
