-- Laws of the pass: what was read is the entries' bytes, so that what is left gives the answer of the whole; and entries kept stay kept, so that a limit once passed is passed in the end. Assumes nothing.
use Prim.Native.Nat.{ℕ, zero, suc, ◌+◌, ◌≤◌, ◌<◌}
use mathlib.Core.Path.{◌≡◌, refl, sym, ap, ◌∙◌, subst}
use mathlib.Core.Bool.{Bool, true, false, cond, ◌&&◌, true≢false}
use mathlib.Core.List.{List, [], ◌∷◌, ◌++◌, append_assoc}
use mathlib.Core.Option as maybe
use mathlib.Core.Option.{none, some}
use Rattle.std.specs.Prelude.{Option, Some, None}
use native.Mathlib.Omega.{arith}
use lib.Dec.{leb, ltb, eqb}
use borrow.Author.Tests.{le-leb, leb-true, ltb-true, eqb-true}
use lib.ListN.{length, take, drop, length-append, length-drop, take-append-drop}
use lib.Seq.{length-take-le}
use Rattle.model.specs.Bytes.{Bytes}
use Rattle.model.specs.Map.{is_some}
use Rattle.model.specs.Raw.{octal, mode_of, raw_entry}
use Rattle.model.specs.Tree.{Mode, is_tree, Entry, Tree, key, entry_of, good_name, name_bytes}
use Rattle.model.proofs.Basics.{none_some, some_inj}
use Rattle.model.proofs.RawLaws.{mode_of_lem}
use Rattle.model.proofs.ValidLaws.{octal_length}
use Rattle.names.specs.Places.{index_of}
use Rattle.names.proofs.WriteLaws.{entry_long}
use Rattle.names_salvage.specs.Answers.{StandsAt, piece_at, ReadIn, ReadAs, Enters, Holds, Turned, mended_of, Passed}
use Rattle.names_salvage.specs.Mending.{Mended, nothing, sorted, above, keep_as, mend1, mend_all, within}
use Rattle.names_salvage.specs.Pieces.{Piece, Pieces, piece_of, read_on, pieces_in, pieces_of}
use Rattle.names_salvage.specs.declared.pass.Tally.{Tally}
use Rattle.names_salvage.specs.declared.piece.RawPiece.{RawPiece}
use Rattle.names_salvage.specs.declared.table.Slot.{Slot}
use Rattle.names_salvage.proofs.KeepLaws.{turned, turned_as}

-- the byte that is searched for stands where it is found
pub index_split : (b : ℕ) (s : Bytes) → index_of b s < length s → s ≡ take (index_of b s) s ++ (b ∷ drop (suc (index_of b s)) s)
unfolding index_of
index_split b [] h = absurd (omega arith)
index_split b (x ∷ xs) h = go (eqb x b) refl h (index_split b xs)
  where
    go : (t : Bool) → eqb x b ≡ t → cond t zero (suc (index_of b xs)) < suc (length xs) → (index_of b xs < length xs → xs ≡ take (index_of b xs) xs ++ (b ∷ drop (suc (index_of b xs)) xs)) →
        x ∷ xs ≡ take (cond t zero (suc (index_of b xs))) (x ∷ xs) ++ (b ∷ drop (suc (cond t zero (suc (index_of b xs)))) (x ∷ xs))
    go true e h ih = ap (λ (z : ℕ). z ∷ xs) (eqb-true x b e)
    go false e h ih = ap (λ (l : Bytes). x ∷ l) (ih (omega arith))

-- an entry that was read, and what is left, are the bytes
pub record Split (w : ℕ) (s : Bytes) (x : Piece) : Type 0 where
  pub bytes : s ≡ x.mode ++ (32 ∷ (x.name ++ (0 ∷ (x.id ++ x.rest))))
  pub wide : length x.id ≡ w

pub piece_split : (w : ℕ) (s : Bytes) (x : Piece) → piece_of w s ≡ some x → Split w s x
unfolding piece_of
piece_split w s x e = go (ltb m (length s)) refl (ltb n (length t)) refl (leb w (length u)) refl e
  where
    m : ℕ
    m = index_of 32 s

    t : Bytes
    t = drop (suc m) s

    n : ℕ
    n = index_of 0 t

    u : Bytes
    u = drop (suc n) t

    here : Piece
    here = record { mode = take m s; name = take n t; id = take w u; rest = drop w u }

    go : (a : Bool) → ltb m (length s) ≡ a → (b : Bool) → ltb n (length t) ≡ b → (c : Bool) → leb w (length u) ≡ c → cond (a && (b && c)) (some here) none ≡ some x → Split w s x
    go false p b q c r f = none_some x f
    go true p false q c r f = none_some x f
    go true p true q false r f = none_some x f
    go true p true q true r f =
        subst (Split w s) (some_inj here x f)
        (record {
          bytes = index_split 32 s (ltb-true m (length s) p)
              ∙ ap (λ (l : Bytes). take m s ++ (32 ∷ l)) (index_split 0 t (ltb-true n (length t) q) ∙ ap (λ (l : Bytes). take n t ++ (0 ∷ l)) (sym (take-append-drop w u)));
          wide = length-take-le w u (leb-true w (length u) r);
        })

rest_shorter : (w : ℕ) (s : Bytes) (x : Piece) → piece_of w s ≡ some x → length x.rest < length s
rest_shorter w s x e =
    let p = piece_split w s x e in
    omega (arith, ap length p.bytes, length-append x.mode (32 ∷ (x.name ++ (0 ∷ (x.id ++ x.rest)))), length-append x.name (0 ∷ (x.id ++ x.rest)), length-append x.id x.rest)

-- Reading goes on to the end: the bound does not matter.
pub piece_nil : (w : ℕ) → piece_of w [] ≡ none
unfolding piece_of index_of
piece_nil w = refl

pieces_nil : (n w : ℕ) → pieces_in n w [] ≡ record { read = []; left = [] }
unfolding pieces_in
pieces_nil zero w = refl
pieces_nil (suc n) w = ap (read_on (pieces_in n w) []) (piece_nil w)

pub no_bytes : (s : Bytes) → length s ≤ 0 → s ≡ []
no_bytes [] h = refl
no_bytes (x ∷ xs) h = absurd (omega arith)

enough : (n m w : ℕ) (s : Bytes) → length s ≤ n → length s ≤ m → pieces_in n w s ≡ pieces_in m w s
unfolding pieces_in
enough zero m w s h g = rw (no_bytes s h) (sym (pieces_nil m w))
enough (suc n) zero w s h g = rw (no_bytes s g) (pieces_nil (suc n) w)
enough (suc n) (suc m) w s h g = go (piece_of w s) refl (λ r a b. enough n m w r a b)
  where
    go : (o : maybe.Option Piece) → piece_of w s ≡ o → ((r : Bytes) → length r ≤ n → length r ≤ m → pieces_in n w r ≡ pieces_in m w r) → read_on (pieces_in n w) s o ≡ read_on (pieces_in m w) s o
    go none e ih = refl
    go (some x) e ih = let l = rest_shorter w s x e in ap (λ (r : Pieces). record { read = x ∷ r.read; left = r.left }) (ih x.rest (omega arith) (omega arith))

pub pieces_none : (w : ℕ) (s : Bytes) → piece_of w s ≡ none → pieces_of w s ≡ record { read = []; left = s }
unfolding pieces_of pieces_in
pieces_none w [] e = refl
pieces_none w (b ∷ s) e = ap (read_on (pieces_in (length s) w) (b ∷ s)) e

pub pieces_some : (w : ℕ) (s : Bytes) (x : Piece) → piece_of w s ≡ some x → pieces_of w s ≡ record { read = x ∷ (pieces_of w x.rest).read; left = (pieces_of w x.rest).left }
unfolding pieces_of pieces_in
pieces_some w [] x e = none_some x (sym (piece_nil w) ∙ e)
pieces_some w (b ∷ s) x e =
    let l = rest_shorter w (b ∷ s) x e in
    ap (read_on (pieces_in (length s) w) (b ∷ s)) e ∙ ap (λ (r : Pieces). record { read = x ∷ r.read; left = r.left }) (enough (length s) (length x.rest) w x.rest (omega arith) (omega arith))

-- what is made of an entry, by its name and its mode
pub mend_bad_name : (x : Piece) (m : Mended) → good_name x.name ≡ false → mend1 x m ≡ record { kept = m.kept; bad_name = suc m.bad_name; bad_mode = m.bad_mode; double = m.double; moved = m.moved }
unfolding mend1
mend_bad_name x m e = rw e

pub mend_as : (x : Piece) (m : Mended) (o : maybe.Option Mode) → good_name x.name ≡ true → mode_of x.mode ≡ o → mend1 x m ≡ keep_as o x m
unfolding mend1
mend_as x m o e f = rw (e, f)

-- An entry with a good name and a mode, where it was read.
module _ {raw : Bytes} {w at : ℕ} {p : RawPiece} (st : StandsAt raw w at p) where
  abbrev x : Piece
  x = piece_at raw w p

  split : Split w (drop at raw) x
  split = piece_split w (drop at raw) x st.is

  abbrev entry : Mode → Entry
  entry k = record { mode = k; name = x.name; id = x.id }

  pub enters : (k : Mode) → mode_of x.mode ≡ some k → good_name x.name ≡ true → {b : Bool} → b ≡ is_tree k → Enters raw w at p b (entry k)
  unfolding raw_entry
  enters k e g {b} eb =
      record {
        start = st.start;
        named = refl;
        kind = sym eb;
        wide = split.wide;
        near = omega (arith, long, octal_length k);
        end = omega (arith, st.start, st.end, long, split.wide, entry_long (entry k));
        longer = omega (arith, entry_long (entry k));
        within = st.within;
        stands =
            record {
              at = at;
              rest = drop p.next raw;
              start = omega (arith, st.start, long, octal_length k);
              text = omega (arith, st.start, long, octal_length k);
              bytes = split.bytes ∙ ap (λ (l : Bytes). l ++ (32 ∷ (x.name ++ (0 ∷ (x.id ++ drop p.next raw))))) (mode_of_lem x.mode k e)
                  ∙ sym (append_assoc (octal k) (32 ∷ x.name ++ (0 ∷ x.id)) (drop p.next raw) ∙ ap (λ (l : Bytes). octal k ++ (32 ∷ l)) (append_assoc x.name (0 ∷ x.id) (drop p.next raw)));
              good = g;
            };
      }
    where
      long : length p.mode.now ≡ length (octal k)
      long = ap length (mode_of_lem x.mode k e)

  pub goes_on_lem : at < p.next
  goes_on_lem = omega (arith, st.start, st.end)

  -- what is made of an entry, by its name and its mode
  module _ {vs : List Slot} {t : Tally} {m : Mended} (h : Holds raw w vs t m) (here : t.at ≡ at) where
    pub turned_bad_name : good_name x.name ≡ false →
        Turned raw w vs (Some (record { at = p.next; names = t.names; len = t.len; badname = t.badname + 1; badmode = t.badmode; double = t.double; moved = t.moved })) (mend1 x m) p.next
    turned_bad_name g =
        turned_as (sym (mend_bad_name x m g))
        (turned
        (record {
          lists = h.lists;
          good = h.good;
          kept = h.kept;
          names = h.names;
          len = h.len;
          bad_name = omega (arith, h.bad_name);
          bad_mode = h.bad_mode;
          double = h.double;
          moved = h.moved;
          few = h.few;
          short = h.short;
          counted = omega (arith, h.counted, goes_on_lem);
          written = omega (arith, h.written, goes_on_lem);
          inside = st.within;
        })
        refl)

    pub turned_bad_mode : good_name x.name ≡ true → none ≡ mode_of x.mode →
        Turned raw w vs (Some (record { at = p.next; names = t.names; len = t.len; badname = t.badname; badmode = t.badmode + 1; double = t.double; moved = t.moved })) (mend1 x m) p.next
    turned_bad_mode g e =
        turned_as (sym (mend_as x m none g (sym e)))
        (turned
        (record {
          lists = h.lists;
          good = h.good;
          kept = h.kept;
          names = h.names;
          len = h.len;
          bad_name = h.bad_name;
          bad_mode = omega (arith, h.bad_mode);
          double = h.double;
          moved = h.moved;
          few = h.few;
          short = h.short;
          counted = omega (arith, h.counted, goes_on_lem);
          written = omega (arith, h.written, goes_on_lem);
          inside = st.within;
        })
        refl)

-- Entries kept stay kept.
pub record Grows (s t : Tree) : Type 0 where
  pub more : length s ≤ length t
  pub bytes : name_bytes s ≤ name_bytes t

pub grows : (x : Piece) (m : Mended) → Grows m.kept (mend1 x m).kept
unfolding mend1
grows x m = go (good_name x.name) (mode_of x.mode)
  where
    same : Grows m.kept m.kept
    same = record { more = omega arith; bytes = omega arith }

    one : (e : Entry) (b : Bool) → Grows m.kept
        (cond {A = Mended} b
        (record { kept = m.kept; bad_name = m.bad_name; bad_mode = m.bad_mode; double = suc m.double; moved = m.moved })
        (record { kept = e ∷ m.kept; bad_name = m.bad_name; bad_mode = m.bad_mode; double = m.double; moved = cond (above (key e) (sorted m.kept)) m.moved 1 })).kept
    one e true = same
    one e false = record { more = omega arith; bytes = omega arith }

    go : (b : Bool) (o : maybe.Option Mode) → Grows m.kept
        (cond {A = Mended} b (keep_as o x m) (record { kept = m.kept; bad_name = suc m.bad_name; bad_mode = m.bad_mode; double = m.double; moved = m.moved })).kept
    go false o = same
    go true none = same
    go true (some k) = one (record { mode = k; name = x.name; id = x.id }) (is_some (entry_of x.name (sorted m.kept)))

still_over : (s t : Tree) → Grows s t → within s ≡ false → within t ≡ false
still_over s t g e = go (leb (length t) 1024) refl (leb (name_bytes t) 16384) refl
  where
    go : (a : Bool) → leb (length t) 1024 ≡ a → (b : Bool) → leb (name_bytes t) 16384 ≡ b → (a && b) ≡ false
    go false p b q = refl
    go true p false q = refl
    go true p true q =
        absurd (true≢false (sym (rw (le-leb (length s) 1024 (omega (arith, g.more, leb-true (length t) 1024 p)), le-leb (name_bytes s) 16384 (omega (arith, g.bytes, leb-true (name_bytes t) 16384 q)))) ∙ e))

over_all : (ps : List Piece) (m : Mended) → within m.kept ≡ false → within (mend_all ps m).kept ≡ false
unfolding mend_all
over_all [] m e = e
over_all (x ∷ ps) m e = over_all ps (mend1 x m) (still_over m.kept (mend1 x m).kept (grows x m) e)

-- At a place of the pass: what is left gives the answer of the whole.
pub record Knows (raw : Bytes) (w : ℕ) (vs : List Slot) (t : Tally) : Type 0 where
  pub m : Mended
  pub holds : Holds raw w vs t m
  pub rest : mended_of w raw ≡ mend_all (pieces_of w (drop t.at raw)).read m
  pub left : (pieces_of w raw).left ≡ (pieces_of w (drop t.at raw)).left

abbrev Zero : Tally → Type 0
Zero t = (t.at ≡ 0) × ((t.names ≡ 0) × ((t.len ≡ 0) × ((t.badname ≡ 0) × ((t.badmode ≡ 0) × ((t.double ≡ 0) × (t.moved ≡ 0))))))

pub pass_begin : (raw : Bytes) (w : ℕ) (vs : List Slot) → length vs ≡ 0 → (t : Tally) → Zero t → Knows raw w vs t
unfolding sorted
pass_begin raw w vs h t z =
    record {
      m = nothing;
      holds =
          record {
            lists = record { many = h; each = λ i g. absurd (omega arith) };
            good = refl;
            kept = h;
            names = z.1.0;
            len = z.1.1.0;
            bad_name = z.1.1.1.0;
            bad_mode = z.1.1.1.1.0;
            double = z.1.1.1.1.1.0;
            moved = z.1.1.1.1.1.1;
            few = omega arith;
            short = omega arith;
            counted = omega arith;
            written = omega arith;
            inside = omega arith;
          };
      rest = ap (λ (k : ℕ). mend_all (pieces_of w (drop k raw)).read nothing) (sym z.0);
      left = ap (λ (k : ℕ). (pieces_of w (drop k raw)).left) (sym z.0);
    }

pub mend_cons : (x : Piece) (ps : List Piece) (m : Mended) → mend_all (x ∷ ps) m ≡ mend_all ps (mend1 x m)
unfolding mend_all
mend_cons x ps m = refl

-- an entry more
module _ {raw : Bytes} {w : ℕ} {vs : List Slot} {t : Tally} (k : Knows raw w vs t) {p : RawPiece} (st : StandsAt raw w t.at p) where
  ps : pieces_of w (drop t.at raw) ≡ record { read = piece_at raw w p ∷ (pieces_of w (drop p.next raw)).read; left = (pieces_of w (drop p.next raw)).left }
  ps = pieces_some w (drop t.at raw) (piece_at raw w p) st.is

  whole : mended_of w raw ≡ mend_all (pieces_of w (drop p.next raw)).read (mend1 (piece_at raw w p) k.m)
  whole = k.rest ∙ ap (λ (q : Pieces). mend_all q.read k.m) ps ∙ mend_cons (piece_at raw w p) (pieces_of w (drop p.next raw)).read k.m

  pub pass_more : {vs' : List Slot} {t' : Tally} → Turned raw w vs' (Some t') (mend1 (piece_at raw w p) k.m) p.next → Knows raw w vs' t'
  pass_more u =
      record {
        m = mend1 (piece_at raw w p) k.m;
        holds = u.is.0;
        rest = whole ∙ ap (λ (j : ℕ). mend_all (pieces_of w (drop j raw)).read (mend1 (piece_at raw w p) k.m)) (sym u.is.1);
        left = k.left ∙ ap (λ (q : Pieces). q.left) ps ∙ ap (λ (j : ℕ). (pieces_of w (drop j raw)).left) (sym u.is.1);
      }

  pub pass_over : {vs' : List Slot} → Turned raw w vs' None (mend1 (piece_at raw w p) k.m) p.next → Passed raw w vs' None
  pass_over u = record { is = ap (λ (z : Mended). within z.kept) whole ∙ over_all (pieces_of w (drop p.next raw)).read (mend1 (piece_at raw w p) k.m) u.is }

pub mend_nil : (m : Mended) → mend_all [] m ≡ m
unfolding mend_all
mend_nil m = refl

-- what a read that found an entry says, and one that found none
pub read_whole : {raw : Bytes} {at w : ℕ} {r : Option RawPiece} → ReadAs raw at w r → {p : RawPiece} → r ≡ Some p → StandsAt raw w at p
read_whole {raw} {at} {w} a e = subst (ReadIn raw at w) e a.is

pub read_cut : {raw : Bytes} {at w : ℕ} {r : Option RawPiece} → ReadAs raw at w r → r ≡ None → piece_of w (drop at raw) ≡ none
read_cut {raw} {at} {w} a e = subst (ReadIn raw at w) e a.is

pub pass_end : {raw : Bytes} {w : ℕ} {vs : List Slot} {t : Tally} → Knows raw w vs t → piece_of w (drop t.at raw) ≡ none → Passed raw w vs (Some t)
pass_end {raw} {w} {vs} {t} k e =
    let ps = pieces_none w (drop t.at raw) e in
    let all : mended_of w raw ≡ k.m = k.rest ∙ ap (λ (z : Pieces). mend_all z.read k.m) ps ∙ mend_nil k.m in
    record { is = (subst (Holds raw w vs t) (sym all) k.holds, ap length (k.left ∙ ap (λ (z : Pieces). z.left) ps) ∙ length-drop t.at raw) }
