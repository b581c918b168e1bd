-- Laws of writing what is kept: an entry's own bytes are its raw form, and the entries of the table, one after the other, are that of the tree. Assumes nothing.
use Prim.Native.Nat.{ℕ, zero, suc, ◌+◌, ◌-◌, ◌/◌, ◌%◌, ◌≤◌, ◌<◌}
use mathlib.Core.Path.{◌≡◌, refl, sym, ap, ◌∙◌, subst}
use mathlib.Core.Bool.{Bool, true, false, cond, ◌&&◌, true≢false}
use mathlib.Core.List.{List, [], ◌∷◌, ◌++◌}
use native.Mathlib.Numerals.{add-one}
use native.Mathlib.Omega.{arith}
use lib.Dec.{eqb}
use borrow.Author.Tests.{eqb-true, eqb-false, eq-eqb}
use lib.ListN.{length, take, drop, get_or, length-append}
use lib.Seq.{take_at, take-suc, take_all}
use Rattle.model.specs.Bytes.{Bytes, has}
use Rattle.model.specs.Raw.{raw_entry, raw_tree}
use Rattle.model.specs.Tree.{Entry, Tree, good_name, good_entries}
use Rattle.model.proofs.Basics.{and_left, and_right}
use Rattle.model.proofs.ByteLaws.{has_here, has_past}
use Rattle.names.specs.Places.{index_of}
use Rattle.names.specs.Splice.{splice}
use Rattle.names.proofs.StandingLaws.{no_nul, good_plain}
use Rattle.names.proofs.WriteLaws.{Wrote, wrote_nothing, wrote_entry, entry_long, raw_snoc}
use Rattle.names_compact.specs.Compact.{blank}
use Rattle.names_salvage.specs.Answers.{Stands, empty, Lists}
use Rattle.names_salvage.specs.declared.table.Slot.{Slot}
use Rattle.names_salvage.proofs.StandLaws.{name_there}

-- what is before the first of a byte ends there
pub index_past : (b : ℕ) (n r : Bytes) → has b n ≡ false → index_of b (n ++ (b ∷ r)) ≡ length n
unfolding index_of
index_past b [] r h = rw (eq-eqb b b refl)
index_past b (x ∷ n) r h = go (eqb x b) refl (index_past b n r)
  where
    go : (t : Bool) → eqb x b ≡ t → (has b n ≡ false → index_of b (n ++ (b ∷ r)) ≡ length n) → cond t zero (suc (index_of b (n ++ (b ∷ r)))) ≡ suc (length n)
    go true e ih = absurd (true≢false (sym (has_here b x n (eqb-true x b e)) ∙ h))
    go false e ih = ap suc (ih (sym (has_past b x n (eqb-false x b e)) ∙ h))

-- the entry of a slot: its name's end, and its bytes
module _ {raw : Bytes} {v w : ℕ} {e : Entry} (st : Stands raw v e) (wide : length e.id ≡ w) {l : Bytes} (el : l ≡ drop (v / 8) raw) where
  name_end : index_of 0 l ≡ length e.name
  name_end = ap (index_of 0) (el ∙ name_there st) ∙ index_past 0 e.name (e.id ++ st.rest) (no_nul e.name (good_plain e.name st.good))

  pub has_end : index_of 0 l ≡ length l → ⊥
  has_end h = omega (arith, name_end, ap length (el ∙ name_there st), length-append e.name (0 ∷ (e.id ++ st.rest)))

  module _ {n m : ℕ} (en : n ≡ index_of 0 l) (em : m ≡ v % 8) where
    pub piece_long : m + 1 + n + 1 + w ≡ length (raw_entry e)
    piece_long = omega (arith, st.text, entry_long e, wide, name_end)

    pub piece_bytes : {at : ℕ} → at ≡ v / 8 - 1 - v % 8 → take (m + 1 + n + 1 + w) (drop at raw) ≡ raw_entry e
    piece_bytes {at} ea =
        let a : at ≡ st.at = omega (arith, st.start, ea) in
        ap (λ (k : ℕ). take (m + 1 + n + 1 + w) (drop k raw)) a ∙ ap (take (m + 1 + n + 1 + w)) st.bytes ∙ take_at (raw_entry e) st.rest (m + 1 + n + 1 + w) (sym piece_long)

-- a write of bytes is one of what they are
pub put_as_lem : {s s' : Bytes} → s ≡ s' → {r : ℕ} (to : ℕ) {d : Bytes} (d₀ : Bytes) → (r ≡ to + length s) × (d ≡ splice d₀ to s) → (r ≡ to + length s') × (d ≡ splice d₀ to s')
put_as_lem e {r} to {d} d₀ p = subst (λ (l : Bytes). (r ≡ to + length l) × (d ≡ splice d₀ to l)) e p

-- the ids of a tree's entries
pub good_at : (w : ℕ) (t : Tree) (i : ℕ) → good_entries w t ≡ true → i < length t → length (get_or t i blank).id ≡ w
good_at w [] i g h = absurd (omega arith)
good_at w (x ∷ xs) zero g h = eqb-true (length x.id) w (and_right (good_name x.name) (eqb (length x.id) w) (and_left (good_name x.name && eqb (length x.id) w) (good_entries w xs) g))
good_at w (x ∷ xs) (suc i) g h = good_at w xs i (and_right (good_name x.name && eqb (length x.id) w) (good_entries w xs) g) (omega arith)

raw_front : (i : ℕ) (t : Tree) → length (raw_tree (take i t)) ≤ length (raw_tree t)
raw_front zero t = omega arith
raw_front (suc i) [] = omega arith
raw_front (suc i) (x ∷ xs) = omega (arith, raw_front i xs, length-append (raw_entry x) (raw_tree (take i xs)), length-append (raw_entry x) (raw_tree xs))

-- the first i entries of a tree are written
abbrev pub Tried : Bytes → ℕ → List Slot → Bytes → Tree → Type 0
Tried raw w vs d₀ t = Lists raw vs t × (good_entries w t ≡ true) × (length (raw_tree t) ≤ length d₀)

pub record Writing (raw : Bytes) (w : ℕ) (vs : List Slot) (d₀ d : Bytes) (i to : ℕ) : Type 0 where
  pub long : length d ≡ length d₀
  pub wrote : (t : Tree) → Tried raw w vs d₀ t → Wrote d₀ 0 (raw_tree (take i t)) d to

pub write_begin : (raw : Bytes) (w : ℕ) (vs : List Slot) (d : Bytes) → Writing raw w vs d d 0 0
write_begin raw w vs d = record { long = refl; wrote = λ t l. wrote_nothing d }

module _ {raw : Bytes} {w : ℕ} {vs : List Slot} {d₀ d : Bytes} {i to : ℕ} (wr : Writing raw w vs d₀ d i to) (h : i < length vs) (s : Slot) (q : s ≡ get_or vs i empty) where
  module _ (t : Tree) (l : Tried raw w vs d₀ t) where
    abbrev x : Entry
    x = get_or t i blank

    many : length t ≡ length vs
    many = sym l.0.many

    pub stands_here : Stands raw s.word x
    stands_here = subst (λ (z : Slot). Stands raw z.word x) (sym q) (l.0.each i (omega (arith, many)))

    pub wide_here : length x.id ≡ w
    wide_here = good_at w t i l.1 (omega (arith, many))

    one_more : take (suc i) t ≡ take i t ++ (x ∷ [])
    one_more = take-suc t i blank (omega (arith, many))

    pub fits_here : to + length (raw_entry x) ≤ length d
    fits_here =
        let q : length (raw_tree (take i t)) + length (raw_entry x) ≡ length (raw_tree (take (suc i) t)) =
        sym (length-append (raw_tree (take i t)) (raw_entry x)) ∙ ap length (raw_snoc (take i t) x) ∙ ap (λ (u : Tree). length (raw_tree u)) (sym one_more) in
        omega (arith, q, raw_front (suc i) t, l.2, wr.long, (wr.wrote t l).next)

  pub write_more : {d' : Bytes} {to' : ℕ} → length d' ≡ length d →
      ((e : Entry) → Stands raw s.word e → length e.id ≡ w → (to' ≡ to + length (raw_entry e)) × (d' ≡ splice d to (raw_entry e))) → Writing raw w vs d₀ d' (i + 1) to'
  write_more {d'} {to'} lg put =
      record {
        long = lg ∙ wr.long;
        wrote = λ t l.
            subst (λ (u : Tree). Wrote d₀ 0 (raw_tree u) d' to') (sym (ap (λ (k : ℕ). take k t) (add-one i) ∙ one_more t l))
            (wrote_entry (take i t) (wr.wrote t l) (x t l) (fits_here t l) (put (x t l) (stands_here t l) (wide_here t l)));
      }

pub write_end : {raw : Bytes} {w : ℕ} {vs : List Slot} {d₀ d : Bytes} {i to : ℕ} → Writing raw w vs d₀ d i to → length vs ≤ i → (t : Tree) → Tried raw w vs d₀ t → d ≡ splice d₀ 0 (raw_tree t)
write_end {raw} {w} {vs} {d₀} {d} {i} wr h t l =
    (wr.wrote t l).done ∙ ap (λ (u : Tree). splice d₀ 0 (raw_tree u)) (take_all i t (omega (arith, l.0.many)))
