-- A well-formed tree within the limits comes out unchanged, with all numbers zero: each of its entries is read, is none that is kept already, and goes to the end. And only such a tree does. Assumes nothing.
use Prim.Native.Nat.{ℕ, suc, ◌+◌, ◌≤◌, Ordering}
use mathlib.Core.Path.{◌≡◌, refl, sym, ap, ap₂, ◌∙◌, subst}
use mathlib.Core.Bool.{Bool, true, false, cond, not, ◌&&◌, true≢false}
use mathlib.Core.List.{[], ◌∷◌, ◌++◌, append_assoc, append-nil}
use mathlib.Core.Option.{none, some}
use native.Mathlib.Omega.{arith}
use lib.Dec.{leb, eqb}
use borrow.Author.Tests.{le-leb, leb-true, lt-ltb, eqb-true}
use lib.ListN.{length, drop, length-append}
use lib.Seq.{take-append_seam, take_at, drop_at}
use Rattle.model.specs.Bytes.{Bytes, cmp, by, has}
use Rattle.model.specs.Map.{find, put}
use Rattle.model.specs.Raw.{octal, mode_of, raw_entry, raw_tree, read_tree}
use Rattle.model.specs.Tree.{Mode, TREE, BLOB, EXEC, LINK, COMMIT, is_tree, Entry, Tree, as_kind, key, entry_of, good_name, good_entries, name_bytes, well_formed}
use Rattle.model.proofs.Basics.{some_none, and_left, and_right}
use Rattle.model.proofs.MapLaws.{cmp_lt, find_here}
use Rattle.model.proofs.RawLaws.{read_only, well_entries}
use Rattle.model.proofs.SoundTrees.{Sound, sound_well, name_plain}
use Rattle.names.specs.Check.{is_less}
use Rattle.names.specs.Splice.{splice}
use Rattle.names.proofs.ModeLaws.{text_read}
use Rattle.names.proofs.StandingLaws.{no_nul, good_plain}
use Rattle.names_salvage.specs.Answers.{mended_of}
use Rattle.names_salvage.specs.Mending.{Mended, nothing, sorted, above, mend1, mend_all, fits, within, Answer, refusal, told, mended}
use Rattle.names_salvage.specs.Pieces.{Piece, Pieces, piece_of, pieces_of}
use Rattle.names_salvage.proofs.KeepLaws.{sorted_with, below_all}
use Rattle.names_salvage.proofs.MendedTree.{Untouched, only_well, entry_piece, put_last}
use Rattle.names_salvage.proofs.PassLaws.{pieces_some, pieces_none, piece_nil, mend_cons, mend_nil}
use Rattle.names_salvage.proofs.PutLaws.{index_past}

-- no mode's text has a space
no_space : (k : Mode) → has 32 (octal k) ≡ false
unfolding octal
no_space TREE = refl
no_space BLOB = refl
no_space EXEC = refl
no_space LINK = refl
no_space COMMIT = refl

-- The raw form of an entry is read as the entry.
past : (a : Bytes) (b : ℕ) (r : Bytes) → drop (suc (length a)) (a ++ (b ∷ r)) ≡ r
past [] b r = refl
past (x ∷ a) b r = past a b r

abbrev piece_for : Entry → Bytes → Piece
piece_for e rest = record { mode = octal e.mode; name = e.name; id = e.id; rest = rest }

parts_read : (w : ℕ) (o n i rest : Bytes) → has 32 o ≡ false → has 0 n ≡ false → length i ≡ w →
    piece_of w (o ++ (32 ∷ (n ++ (0 ∷ (i ++ rest))))) ≡ some (record { mode = o; name = n; id = i; rest = rest })
unfolding piece_of
parts_read w o n i rest ho hn hi =
    let u = i ++ rest in
    let t = n ++ (0 ∷ u) in
    rw (
      index_past 32 o t ho,
      past o 32 t,
      index_past 0 n u hn,
      past n 0 u,
      lt-ltb (length o) (length (o ++ (32 ∷ t))) (omega (arith, length-append o (32 ∷ t))),
      lt-ltb (length n) (length t) (omega (arith, length-append n (0 ∷ u))),
      le-leb w (length u) (omega (arith, length-append i rest, hi)),
      take-append_seam o (32 ∷ t),
      take-append_seam n (0 ∷ u),
      take_at i rest w hi,
      drop_at i rest w hi,
    )

entry_read_lem : (w : ℕ) (e : Entry) (rest : Bytes) → good_name e.name ≡ true → length e.id ≡ w → piece_of w (raw_entry e ++ rest) ≡ some (piece_for e rest)
entry_read_lem w e rest g l =
    ap (piece_of w) (ap (λ (s : Bytes). s ++ rest) (entry_piece e) ∙ append_assoc (octal e.mode) (32 ∷ e.name ++ (0 ∷ e.id)) rest ∙ ap (λ (s : Bytes). octal e.mode ++ (32 ∷ s)) (append_assoc e.name (0 ∷ e.id) rest))
    ∙ parts_read w (octal e.mode) e.name e.id rest (no_space e.mode) (no_nul e.name (good_plain e.name g)) l

-- An entry of a well-formed tree is not among those before it.
find_front : (k : Bytes) (s t : Tree) → find key k (s ++ t) ≡ none → find key k s ≡ none
find_front k [] t h = refl
find_front k (x ∷ s) t h = go (cmp k (key x)) h (find_front k s t)
  where
    go : (o : Ordering) → by o none (some x) (find key k (s ++ t)) ≡ none → (find key k (s ++ t) ≡ none → find key k s ≡ none) → by o none (some x) (find key k s) ≡ none
    go Ordering.lt h ih = refl
    go Ordering.eq h ih = some_none x h
    go Ordering.gt h ih = ih h

-- what all keys are below is found only behind them
find_past : (k : Bytes) (s t : Tree) → above k s ≡ true → find key k (s ++ t) ≡ find key k t
unfolding above
find_past k [] t h = refl
find_past k (x ∷ s) t h =
    go (cmp (key x) k) refl (and_left (is_less (cmp (key x) k)) (above k s) h) (find_past k s t (and_right (is_less (cmp (key x) k)) (above k s) h))
  where
    go : (o : Ordering) → cmp (key x) k ≡ o → is_less o ≡ true → find key k (s ++ t) ≡ find key k t → find key k (x ∷ (s ++ t)) ≡ find key k t
    go Ordering.lt q z ih = rw (cmp_lt (key x) k q) ih
    go Ordering.eq q z ih = absurd (true≢false (sym z))
    go Ordering.gt q z ih = absurd (true≢false (sym z))

module _ (w : ℕ) (s : Tree) (e : Entry) (t : Tree) (h : well_formed w (s ++ (e ∷ t)) ≡ true) where
  abbrev sound : Sound (s ++ (e ∷ t))
  sound = sound_well w (s ++ (e ∷ t)) h

  pub last_above : above (key e) s ≡ true
  last_above = below_all s e t sound.in_order

  here : find key (key e) (s ++ (e ∷ t)) ≡ some e
  here = find_past (key e) s (e ∷ t) last_above ∙ find_here key e t

  good_both : (l : Tree) → good_entries w (l ++ (e ∷ t)) ≡ true → (good_name e.name ≡ true) × (length e.id ≡ w)
  good_both [] g =
      let q = and_left (good_name e.name && eqb (length e.id) w) (good_entries w t) g in
      (and_left (good_name e.name) (eqb (length e.id) w) q, eqb-true (length e.id) w (and_right (good_name e.name) (eqb (length e.id) w) q))
  good_both (x ∷ l) g = good_both l (and_right (good_name x.name && eqb (length x.id) w) (good_entries w (l ++ (e ∷ t))) g)

  pub good_one : (good_name e.name ≡ true) × (length e.id ≡ w)
  good_one = good_both s (well_entries w (s ++ (e ∷ t)) h)

  -- neither as its own kind nor as the other
  own : find key (key e) s ≡ none
  own = sym (ap (find key (key e)) (append-nil s)) ∙ find_past (key e) s [] last_above

  other : find key (as_kind (not (is_tree e.mode)) e.name) s ≡ none
  other = find_front (as_kind (not (is_tree e.mode)) e.name) s (e ∷ t) (sound.once e.name (is_tree e.mode) e (name_plain e.name good_one.0) here)

  pub not_there : entry_of e.name s ≡ none
  not_there = go (is_tree e.mode) own other
    where
      go : (b : Bool) → find key (as_kind b e.name) s ≡ none → find key (as_kind (not b) e.name) s ≡ none → entry_of e.name s ≡ none
      go true p q = rw (q, p)
      go false p q = rw (p, q)

-- what is known where nothing was dropped or moved, and the entries of t are kept
pub record Clean (m : Mended) (t : Tree) : Type 0 where
  pub untouched : Untouched m
  pub tree : sorted m.kept ≡ t
  pub many : length m.kept ≡ length t
  pub names : name_bytes m.kept ≡ name_bytes t

kept_as : (x : Piece) (m : Mended) (k : Mode) → good_name x.name ≡ true → mode_of x.mode ≡ some k → entry_of x.name (sorted m.kept) ≡ none →
    let e : Entry = record { mode = k; name = x.name; id = x.id } in
    above (key e) (sorted m.kept) ≡ true → mend1 x m ≡ record { kept = e ∷ m.kept; bad_name = m.bad_name; bad_mode = m.bad_mode; double = m.double; moved = m.moved }
unfolding mend1
kept_as x m k g e n a = rw (g, e, n, a)

snoc_names : (t : Tree) (e : Entry) → name_bytes (t ++ (e ∷ [])) ≡ length e.name + name_bytes t
snoc_names [] e = refl
snoc_names (x ∷ t) e = omega (arith, snoc_names t e)

clean_one : (w : ℕ) (m : Mended) (s : Tree) (e : Entry) (t : Tree) (rest : Bytes) → well_formed w (s ++ (e ∷ t)) ≡ true → Clean m s → Clean (mend1 (piece_for e rest) m) (s ++ (e ∷ []))
clean_one w m s e t rest h c =
    subst (λ (z : Mended). Clean z (s ++ (e ∷ [])))
    (sym (kept_as (piece_for e rest) m e.mode (good_one w s e t h).0 (text_read e.mode) (ap (entry_of e.name) c.tree ∙ not_there w s e t h) (ap (above (key e)) c.tree ∙ last_above w s e t h)))
    (record {
      untouched = record { bad_name = c.untouched.bad_name; bad_mode = c.untouched.bad_mode; double = c.untouched.double; moved = c.untouched.moved };
      tree = sorted_with e m.kept ∙ ap (put key e) c.tree ∙ put_last e s (last_above w s e t h);
      many = omega (arith, c.many, length-append s (e ∷ []));
      names = omega (arith, c.names, snoc_names s e);
    })

clean_all : (w : ℕ) (t s : Tree) (m : Mended) → well_formed w (s ++ t) ≡ true → Clean m s → Clean (mend_all (pieces_of w (raw_tree t)).read m) (s ++ t) × ((pieces_of w (raw_tree t)).left ≡ [])
clean_all w [] s m h c =
    let p = pieces_none w [] (piece_nil w) in
    (subst (λ (q : Pieces). Clean (mend_all q.read m) (s ++ [])) (sym p) (subst (λ (u : Tree). Clean (mend_all [] m) u) (sym (append-nil s)) (subst (λ (z : Mended). Clean z s) (sym (mend_nil m)) c)), ap (λ (q : Pieces). q.left) p)
clean_all w (e ∷ t) s m h c =
    let p = pieces_some w (raw_tree (e ∷ t)) (piece_for e (raw_tree t)) (entry_read_lem w e (raw_tree t) (good_one w s e t h).0 (good_one w s e t h).1) in
    let j : (s ++ (e ∷ [])) ++ t ≡ s ++ (e ∷ t) = append_assoc s (e ∷ []) t in
    let r = clean_all w t (s ++ (e ∷ [])) (mend1 (piece_for e (raw_tree t)) m) (ap (well_formed w) j ∙ h) (clean_one w m s e t (raw_tree t) h c) in (
      subst (λ (q : Pieces). Clean (mend_all q.read m) (s ++ (e ∷ t))) (sym p)
          (subst (λ (z : Mended). Clean z (s ++ (e ∷ t))) (sym (mend_cons (piece_for e (raw_tree t)) (pieces_of w (raw_tree t)).read m)) (subst (λ (u : Tree). Clean (mend_all (pieces_of w (raw_tree t)).read (mend1 (piece_for e (raw_tree t)) m)) u) j r.0)),
      ap (λ (q : Pieces). q.left) p ∙ r.1,
    )

clean_nothing : Clean nothing []
unfolding sorted
clean_nothing = record { untouched = record { bad_name = refl; bad_mode = refl; double = refl; moved = refl }; tree = refl; many = refl; names = refl }

-- a call that found nothing to mend
abbrev pub same_again : Bytes → Bytes → Answer
same_again raw d = record { code = 0; len = length raw; cut = 0; bad_name = 0; bad_mode = 0; double = 0; moved = 0; out = splice d 0 raw }

told_clean : (m : Mended) (t : Tree) (cut : ℕ) (d : Bytes) → Clean m t → within t ≡ true → cut ≡ 0 → length (raw_tree t) ≤ length d → told m cut d ≡ same_again (raw_tree t) d
unfolding told
told_clean m t cut d c h z l =
    let u = c.untouched in
    let i : within m.kept ≡ true = ap₂ fits c.many c.names ∙ h in
    rw (i, c.tree, le-leb (length (raw_tree t)) (length d) l, z, u.bad_name, u.bad_mode, u.double, u.moved)

pub unchanged : (w : ℕ) (raw d : Bytes) (t : Tree) → read_tree w raw ≡ some t → within t ≡ true → length raw ≤ length d → mended w raw d ≡ same_again raw d
unfolding mended
unchanged w raw d t e h l =
    let r = read_only w raw t e in
    let q : raw_tree t ≡ raw = r.0 in
    subst (λ (z : Bytes). told (mend_all (pieces_of w z).read nothing) (length (pieces_of w z).left) d ≡ same_again z d) q
    (let c = clean_all w t [] nothing r.1 clean_nothing in
    told_clean (mend_all (pieces_of w (raw_tree t)).read nothing) t (length (pieces_of w (raw_tree t)).left) d c.0 h (ap length c.1) (omega (arith, ap length q)))

-- the tree that the bytes are the raw form of has as many entries and name bytes as were kept
read_clean : (w : ℕ) (raw : Bytes) (t : Tree) → read_tree w raw ≡ some t → Clean (mended_of w raw) t
read_clean w raw t e =
    let r = read_only w raw t e in
    subst (λ (z : Bytes). Clean (mend_all (pieces_of w z).read nothing) t) r.0 (clean_all w t [] nothing r.1 clean_nothing).0

-- an answer of number 0 says that the limits are kept and the output suffices, and tells the counts
record Zero (m : Mended) (cut : ℕ) (d : Bytes) (a : Answer) : Type 0 where
  pub fitting : within m.kept ≡ true
  pub room : length (raw_tree (sorted m.kept)) ≤ length d
  pub cut_is : a.cut ≡ cut
  pub name_is : a.bad_name ≡ m.bad_name
  pub mode_is : a.bad_mode ≡ m.bad_mode
  pub double_is : a.double ≡ m.double
  pub moved_is : a.moved ≡ m.moved

told_zero : (m : Mended) (cut : ℕ) (d : Bytes) → (told m cut d).code ≡ 0 → Zero m cut d (told m cut d)
unfolding told
told_zero m cut d e = go (within m.kept) refl (leb (length (raw_tree (sorted m.kept))) (length d)) refl e
  where
    raw : Bytes
    raw = raw_tree (sorted m.kept)

    all : Answer
    all = record { code = 0; len = length raw; cut = cut; bad_name = m.bad_name; bad_mode = m.bad_mode; double = m.double; moved = m.moved; out = splice d 0 raw }

    go : (b : Bool) → within m.kept ≡ b → (c : Bool) → leb (length raw) (length d) ≡ c → (cond b (cond c all (refusal 11 (length raw) d)) (refusal 5 0 d)).code ≡ 0 → Zero m cut d (cond b (cond c all (refusal 11 (length raw) d)) (refusal 5 0 d))
    go false p c q z = absurd (let y : ◌≡◌ {A = ℕ} 5 0 = z in omega arith)
    go true p false q z = absurd (let y : ◌≡◌ {A = ℕ} 11 0 = z in omega arith)
    go true p true q z = record { fitting = p; room = leb-true (length raw) (length d) q; cut_is = refl; name_is = refl; mode_is = refl; double_is = refl; moved_is = refl }

mended_zero : (w : ℕ) (raw d : Bytes) → (mended w raw d).code ≡ 0 → Zero (mended_of w raw) (length (pieces_of w raw).left) d (mended w raw d)
unfolding mended
mended_zero w raw d e = told_zero (mended_of w raw) (length (pieces_of w raw).left) d e

-- the number is 0, and so is each count
pub record AllZero (a : Answer) : Type 0 where
  pub code : a.code ≡ 0
  pub cut : a.cut ≡ 0
  pub bad_name : a.bad_name ≡ 0
  pub bad_mode : a.bad_mode ≡ 0
  pub double : a.double ≡ 0
  pub moved : a.moved ≡ 0

pub only_unbroken : (w : ℕ) (raw d : Bytes) → AllZero (mended (suc w) raw d) → (t : Tree) × (read_tree (suc w) raw ≡ some t) × (within t ≡ true) × (mended (suc w) raw d ≡ same_again raw d)
only_unbroken w raw d a =
    let m = mended_of (suc w) raw in
    let z = mended_zero (suc w) raw d a.code in
    let u : Untouched m = record { bad_name = sym z.name_is ∙ a.bad_name; bad_mode = sym z.mode_is ∙ a.bad_mode; double = sym z.double_is ∙ a.double; moved = sym z.moved_is ∙ a.moved } in
    let o = only_well w raw u (sym z.cut_is ∙ a.cut) in
    let c = read_clean (suc w) raw (sorted m.kept) o.1 in
    let h : within (sorted m.kept) ≡ true = ap₂ fits (sym c.many) (sym c.names) ∙ z.fitting in
    (sorted m.kept, o.1, h, unchanged (suc w) raw d (sorted m.kept) o.1 h (omega (arith, ap length o.0, z.room)))
