-- Laws of an entry that is kept: it goes into the tree where its number goes into the table, the counts grow by it, and the order is changed unless it goes to the end. Assumes nothing.
use Prim.Native.Nat.{ℕ, zero, suc, ◌+◌, ◌-◌, ◌≤◌, Ordering}
use mathlib.Core.Path.{◌≡◌, refl, sym, ap, ap₂, ◌∙◌, subst}
use mathlib.Core.Bool.{Bool, true, false, cond, ◌&&◌}
use mathlib.Core.List.{List, [], ◌∷◌, ◌++◌}
use native.Mathlib.Omega.{arith}
use lib.Dec.{leb, eqb}
use Rattle.std.specs.Prelude.{Option, Some, Result, Ok, Err}
use borrow.Author.Tests.{eq-eqb, ne_eqb, leb-true}
use lib.ListN.{length, take, drop, length-append, length-drop, take-append-drop}
use Rattle.model.specs.Bytes.{Bytes, cmp, by}
use Rattle.model.specs.Map.{put, rising, rising_from, is_some}
use Rattle.model.specs.Raw.{raw_entry, raw_tree}
use Rattle.model.specs.Tree.{Entry, Tree, as_kind, key, entry_of, good_name, good_entries, name_bytes}
use Rattle.model.proofs.Basics.{and_left, and_right}
use Rattle.model.proofs.MapLaws.{cmp_lt, cmp_trans, above_head, above_tail, rising_put}
use Rattle.model.proofs.SearchLaws.{rising_high}
use Rattle.names.specs.Check.{is_less}
use Rattle.names_salvage.specs.Answers.{Stands, empty, Lists, Away, PlaceIn, PlaceIs, word_of, Enters, Holds, Turned}
use Rattle.names_salvage.specs.Mending.{Mended, sorted, above, keep, fits, within}
use Rattle.names_salvage.specs.declared.pass.Tally.{Tally}
use Rattle.names_salvage.specs.declared.piece.RawPiece.{RawPiece}
use Rattle.names_salvage.specs.declared.table.Slot.{Slot}
use Rattle.names_salvage.proofs.TableLaws.{with_length, lists_with}

pub rising_sorted : (k : Tree) → rising key (sorted k) ≡ true
unfolding sorted
rising_sorted [] = refl
rising_sorted (e ∷ es) = rising_put key e (sorted es) (rising_sorted es)

pub sorted_with : (e : Entry) (k : Tree) → sorted (e ∷ k) ≡ put key e (sorted k)
unfolding sorted
sorted_with e k = refl

-- the place at the end is the one that all keys are below
below : (j : Bytes) (bs : Tree) (e : Entry) (cs : Tree) → rising_from key j (bs ++ (e ∷ cs)) ≡ true → (cmp j (key e) ≡ Ordering.lt) × (above (key e) bs ≡ true)
unfolding above
below j [] e cs r = (above_head key j e cs r, refl)
below j (b ∷ bs) e cs r =
    let h = above_head key j b (bs ++ (e ∷ cs)) r in
    let p = below (key b) bs e cs (above_tail key j b (bs ++ (e ∷ cs)) r) in
    (cmp_trans j (key b) (key e) h p.0, rw p.0 p.1)

pub below_all : (bs : Tree) (e : Entry) (cs : Tree) → rising key (bs ++ (e ∷ cs)) ≡ true → above (key e) bs ≡ true
unfolding above
below_all [] e cs r = refl
below_all (b ∷ bs) e cs r = let p = below (key b) bs e cs r in rw p.0 p.1

above_append : (k : Bytes) (bs cs : Tree) → above k bs ≡ true → above k (bs ++ cs) ≡ above k cs
unfolding above
above_append k [] cs h = refl
above_append k (b ∷ bs) cs h =
    rw (and_left (is_less (cmp (key b) k)) (above k bs) h) (above_append k bs cs (and_right (is_less (cmp (key b) k)) (above k bs) h))

above_first : (e : Entry) (l : Tree) → rising key (e ∷ l) ≡ true → (i n : ℕ) → length l ≡ n - i → i ≤ n → above (key e) l ≡ eqb i n
unfolding above
above_first e [] r i n q h = sym (eq-eqb i n (omega arith))
above_first e (y ∷ ys) r i n q h =
    let f : cmp (key y) (key e) ≡ Ordering.gt = cmp_lt (key e) (key y) (above_head key (key e) y ys r) in
    let g : i ≡ n → ⊥ = λ z. omega arith in
    rw (f, ne_eqb i n g)

pub above_is : (e : Entry) (t : Tree) (i n : ℕ) → rising key t ≡ true → put key e t ≡ take i t ++ (e ∷ drop i t) → length t ≡ n → i ≤ n → above (key e) t ≡ eqb i n
above_is e t i n u p ln h =
    let w : rising key (take i t ++ (e ∷ drop i t)) ≡ true = ap (rising key) (sym p) ∙ rising_put key e t u in
    ap (above (key e)) (sym (take-append-drop i t)) ∙ above_append (key e) (take i t) (drop i t) (below_all (take i t) e (drop i t) w)
    ∙ above_first e (drop i t) (rising_high key (take i t) (e ∷ drop i t) w) i n (omega (arith, length-drop i t)) h

-- the raw form grows by the entry's
raw_with : (e : Entry) (i : ℕ) (l : Tree) → length (raw_tree (take i l ++ (e ∷ drop i l))) ≡ length (raw_tree l) + length (raw_entry e)
raw_with e zero l = length-append (raw_entry e) (raw_tree l) ∙ omega arith
raw_with e (suc i) [] = length-append (raw_entry e) [] ∙ omega arith
raw_with e (suc i) (x ∷ xs) =
    length-append (raw_entry x) (raw_tree (take i xs ++ (e ∷ drop i xs))) ∙ omega (arith, raw_with e i xs, length-append (raw_entry x) (raw_tree xs))

-- the entry is a good one, and so are the others
good_put : (w : ℕ) (e : Entry) (t : Tree) → good_name e.name ≡ true → length e.id ≡ w → good_entries w t ≡ true → good_entries w (put key e t) ≡ true
good_put w e [] g l h = rw (g, eq-eqb (length e.id) w l)
good_put w e (x ∷ xs) g l h =
    go (cmp (key e) (key x)) (good_put w e xs g l (and_right (good_name x.name && eqb (length x.id) w) (good_entries w xs) h))
  where
    one : (y : Entry) (ys : Tree) → good_name y.name && eqb (length y.id) w ≡ true → good_entries w ys ≡ true → good_entries w (y ∷ ys) ≡ true
    one y ys a b = rw (a, b)

    this : good_name e.name && eqb (length e.id) w ≡ true
    this = rw (g, eq-eqb (length e.id) w l)

    go : (o : Ordering) → good_entries w (put key e xs) ≡ true → good_entries w (by o (e ∷ x ∷ xs) (e ∷ xs) (x ∷ put key e xs)) ≡ true
    go Ordering.lt ih = one e (x ∷ xs) this h
    go Ordering.eq ih = one e xs this (and_right (good_name x.name && eqb (length x.id) w) (good_entries w xs) h)
    go Ordering.gt ih = one x (put key e xs) (and_left (good_name x.name && eqb (length x.id) w) (good_entries w xs) h) ih

-- entries that do not pass a limit
pub fits_kept : (n b : ℕ) → true ≡ fits n b → n ≤ 1024
fits_kept n b q = leb-true n 1024 (and_left (leb n 1024) (leb b 16384) (sym q))

pub turned : {raw : Bytes} {w : ℕ} {vs : List Slot} {t : Tally} {m : Mended} {next : ℕ} → Holds raw w vs t m → t.at ≡ next → Turned raw w vs (Some t) m next
turned h q = record { is = (h, q) }

pub turned_as : {raw : Bytes} {w : ℕ} {vs : List Slot} {r : Option Tally} {m m' : Mended} {next : ℕ} → m ≡ m' → Turned raw w vs r m next → Turned raw w vs r m' next
turned_as {raw} {w} {vs} {r} {m} {m'} {next} e t = subst (λ (z : Mended). Turned raw w vs r z next) e t

-- how what is kept already stands to an entry
keep_as_lem : (e : Entry) (m : Mended) (b : Bool) → is_some (entry_of e.name (sorted m.kept)) ≡ b →
    keep e m ≡ cond b
    (record { kept = m.kept; bad_name = m.bad_name; bad_mode = m.bad_mode; double = suc m.double; moved = m.moved })
    (record { kept = e ∷ m.kept; bad_name = m.bad_name; bad_mode = m.bad_mode; double = m.double; moved = cond (above (key e) (sorted m.kept)) m.moved 1 })
keep_as_lem e m b q = rw q

module _ {raw : Bytes} {w : ℕ} {vs : List Slot} {t : Tally} {m : Mended} {p : RawPiece} {tree : Bool} {e : Entry}
    (h : Holds raw w vs t m) (n : Enters raw w t.at p tree e) {r : Result ℕ ℕ} (place : PlaceIs (sorted m.kept) p.name.now tree r) where
  abbrev name : Bytes
  name = p.name.now

  entry_key : key e ≡ as_kind tree name
  entry_key = ap₂ (λ (b : Bool) (x : Bytes). as_kind b x) n.kind n.named

  -- the name is kept already
  module _ {i : ℕ} (z : r ≡ Ok i) where
    there : is_some (entry_of e.name (sorted m.kept)) ≡ true
    there = ap (λ (x : Bytes). is_some (entry_of x (sorted m.kept))) n.named ∙ subst (PlaceIn (sorted m.kept) name tree) z place.is

    pub kept_double : Turned raw w vs (Some (record { at = p.next; names = t.names; len = t.len; badname = t.badname; badmode = t.badmode; double = t.double + 1; moved = t.moved })) (keep e m) p.next
    kept_double =
        turned_as (sym (keep_as_lem e m true there))
        (turned
        (record {
          lists = h.lists;
          good = h.good;
          kept = h.kept;
          names = h.names;
          len = h.len;
          bad_name = h.bad_name;
          bad_mode = h.bad_mode;
          double = omega (arith, h.double);
          moved = h.moved;
          few = h.few;
          short = h.short;
          counted = omega (arith, h.counted, n.start, n.end, n.longer);
          written = omega (arith, h.written, n.start, n.end);
          inside = n.within;
        })
        refl)

  -- it is not, and an entry of it goes in at i
  module _ {i : ℕ} (z : r ≡ Err i) where
    away : Away (sorted m.kept) name tree i
    away = subst (PlaceIn (sorted m.kept) name tree) z place.is

    is_new : is_some (entry_of e.name (sorted m.kept)) ≡ false
    is_new = ap (λ (x : Bytes). is_some (entry_of x (sorted m.kept))) n.named ∙ away.is

    pub place_in : i ≤ length vs
    place_in = omega (arith, away.within, h.lists.many)

    -- what passes a limit with this entry passes it in the end
    pub kept_over : false ≡ fits (length vs + 1) (t.names + length name) → within (keep e m).kept ≡ false
    kept_over q =
        let k : length vs + 1 ≡ suc (length m.kept) = omega (arith, h.kept) in
        let l : t.names + length name ≡ length e.name + name_bytes m.kept = omega (arith, h.names, ap length n.named) in
        ap (λ (x : Mended). within x.kept) (keep_as_lem e m false is_new) ∙ ap₂ fits (sym k) (sym l) ∙ sym q

    pub kept_more : true ≡ fits (length vs + 1) (t.names + length name) → (vs' : List Slot) (s : Slot) → s.word ≡ word_of p → vs' ≡ take i vs ++ (s ∷ drop i vs) →
        (v : ℕ) → v ≡ cond (eqb i (length vs)) t.moved 1 →
        Turned raw w vs' (Some (record { at = p.next; names = t.names + length name; len = t.len + (p.next - t.at); badname = t.badname; badmode = t.badmode; double = t.double; moved = v })) (keep e m) p.next
    kept_more q vs' s es tk v ev =
        turned_as (sym (keep_as_lem e m false is_new))
        (turned
        (record {
          lists = subst (λ (l : List Slot). Lists raw l (sorted (e ∷ m.kept))) (sym tk)
              (subst (Lists raw (take i vs ++ (s ∷ drop i vs))) (sym more) (lists_with h.lists i s e away.within (subst (λ (k : ℕ). Stands raw k e) (sym es) n.stands)));
          good = ap (good_entries w) again ∙ good_put w e (sorted m.kept) n.stands.good n.wide h.good;
          kept = size ∙ ap suc h.kept;
          names = omega (arith, h.names, ap length n.named);
          len = sym (ap (λ (x : Tree). length (raw_tree x)) more ∙ raw_with e i (sorted m.kept) ∙ long);
          bad_name = h.bad_name;
          bad_mode = h.bad_mode;
          double = h.double;
          moved = ev ∙ ap₂ (λ (x : Bool) (k : ℕ). cond x k 1) (sym (above_is e (sorted m.kept) i (length vs) (rising_sorted m.kept) goes (sym h.lists.many) place_in)) h.moved;
          few = omega (arith, size, leb-true (length vs + 1) 1024 (and_left (leb (length vs + 1) 1024) (leb (t.names + length name) 16384) (sym q)));
          short = leb-true (t.names + length name) 16384 (and_right (leb (length vs + 1) 1024) (leb (t.names + length name) 16384) (sym q));
          counted = omega (arith, h.counted, n.start, n.end);
          written = omega (arith, h.written, n.start, n.end);
          inside = n.within;
        })
        refl)
      where
        size : length vs' ≡ suc (length vs)
        size = ap length tk ∙ with_length vs i s place_in empty

        goes : put key e (sorted m.kept) ≡ take i (sorted m.kept) ++ (e ∷ drop i (sorted m.kept))
        goes = away.goes e entry_key

        again : sorted (e ∷ m.kept) ≡ put key e (sorted m.kept)
        again = sorted_with e m.kept

        more : sorted (e ∷ m.kept) ≡ take i (sorted m.kept) ++ (e ∷ drop i (sorted m.kept))
        more = again ∙ goes

        long : length (raw_tree (sorted m.kept)) + length (raw_entry e) ≡ t.len + (p.next - t.at)
        long = omega (arith, h.len, n.start, n.end)
