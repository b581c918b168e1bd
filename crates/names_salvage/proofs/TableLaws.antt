-- Laws of the table: a slot goes in where the slots behind its place moved up, and its entry goes into the tree there. Assumes nothing.
use Prim.Native.Nat.{ℕ, suc, ◌+◌, ◌-◌, ◌≤◌, ◌<◌}
use mathlib.Core.Path.{◌≡◌, refl, sym, ap, ap₂, ◌∙◌, subst}
use mathlib.Core.Bool.{true, false}
use mathlib.Core.List.{List, ◌∷◌, ◌++◌, append_assoc}
use native.Mathlib.Omega.{arith}
use lib.Dec.{ltb, eqb}
use borrow.Author.Tests.{ltb-true, ltb-false, eqb-true, eqb-false}
use lib.ListN.{length, take, drop, get_or, set, length-append, length-take, length-drop, length-set, drop_of_length-le, get_or-append}
use lib.Seq.{length-take-le, take-take, take-set-le, drop-cons, set_split, drop_at, take_at, get_or-take, get_or-drop, get_or-append-add, get_or-append_seam}
use Rattle.model.specs.Bytes.{Bytes}
use Rattle.model.specs.Tree.{Entry, Tree}
use Rattle.names_compact.specs.Compact.{blank}
use Rattle.names_salvage.specs.Answers.{Stands, empty, Lists}
use Rattle.names_salvage.specs.declared.table.Slot.{Slot}

-- Slots moved up to make room: those from k on of the first n stand one place further on.
pub record Moving {A : Type 0} (was is : List A) (n k : ℕ) : Type 0 where
  pub within : k ≤ n
  pub long : length is ≡ length was
  pub low : take (suc k) is ≡ take (suc k) was
  pub high : drop (suc k) is ≡ drop k (take n was) ++ drop (suc n) was

pub move_begin : {A : Type 0} (l : List A) (n : ℕ) → n < length l → Moving l l n n
move_begin {A} l n h =
    record {
      within = omega arith;
      long = refl;
      low = refl;
      high = ap (λ (z : List A). z ++ drop (suc n) l) (sym (drop_of_length-le (take n l) {i = n} (omega (arith, length-take n l))));
    }

moved_one : {A : Type 0} (d : A) (was is : List A) (n k : ℕ) → Moving was is n (suc k) → n < length was → Moving was (set is (suc k) (get_or is k d)) n k
moved_one {A} d was is n k m h =
    record {
      within = omega (arith, m.within);
      long = length-set is (suc k) (get_or is k d) ∙ m.long;
      low = take-set-le (suc k) is (suc k) (get_or is k d) (omega arith) ∙ lower;
      high = ap (drop (suc k)) (set_split is (suc k) (get_or is k d) there) ∙ drop_at (take (suc k) is) (get_or is k d ∷ drop (suc (suc k)) is) (suc k) (length-take-le (suc k) is (omega (arith, there)))
          ∙ ap₂ (λ (x : A) (l : List A). x ∷ l) same m.high
          ∙ sym (ap (λ (l : List A). l ++ drop (suc n) was) (drop-cons (take n was) k d (omega (arith, m.within, length-take-le n was (omega arith)))));
    }
  where
    there : suc k < length is
    there = omega (arith, m.within, m.long)

    lower : take (suc k) is ≡ take (suc k) was
    lower = sym (take-take (suc k) (suc (suc k)) is (omega arith)) ∙ ap (take (suc k)) m.low ∙ take-take (suc k) (suc (suc k)) was (omega arith)

    same : get_or is k d ≡ get_or (take n was) k d
    same =
        sym (get_or-take (suc k) is k d (omega arith)) ∙ ap (λ (l : List A). get_or l k d) lower ∙ get_or-take (suc k) was k d (omega arith)
        ∙ sym (get_or-take n was k d (omega (arith, m.within)))

pub move_step : {A : Type 0} (d : A) {was is : List A} {n : ℕ} (k : ℕ) → Moving was is n k → n < length was → 0 < k → Moving was (set is k (get_or is (k - 1) d)) n (k - 1)
move_step {A} d {was} {is} {n} k m h g =
    let q : k ≡ suc (k - 1) = omega arith in
    subst (λ (z : ℕ). Moving was (set is z (get_or is (k - 1) d)) n (k - 1)) (sym q) (moved_one d was is n (k - 1) (subst (λ (z : ℕ). Moving was is n z) q m) h)

pub move_end : {A : Type 0} {was is : List A} {n k : ℕ} → Moving was is n k → n < length was → (i : ℕ) (v : A) → i ≤ k → k ≤ i → take (n + 1) (set is i v) ≡ take i (take n was) ++ (v ∷ drop i (take n was))
move_end {A} {was} {is} {n} {k} m h i v f g =
    let q : k ≡ i = omega arith in
    ap (take (n + 1)) (set_split is i v (omega (arith, m.within, m.long)) ∙ ap₂ (λ (a b : List A). a ++ (v ∷ b)) low (ap (λ (j : ℕ). drop (suc j) is) (sym q) ∙ m.high ∙ ap (λ (j : ℕ). drop j (take n was) ++ drop (suc n) was) q)
    ∙ sym (append_assoc (take i (take n was)) (v ∷ drop i (take n was)) (drop (suc n) was)))
    ∙ take_at (take i (take n was) ++ (v ∷ drop i (take n was))) (drop (suc n) was) (n + 1) size
  where
    low : take i is ≡ take i (take n was)
    low =
        sym (take-take i (suc k) is (omega arith)) ∙ ap (take i) m.low ∙ take-take i (suc k) was (omega arith) ∙ sym (take-take i n was (omega (arith, m.within)))

    size : length (take i (take n was) ++ (v ∷ drop i (take n was))) ≡ n + 1
    size =
        length-append (take i (take n was)) (v ∷ drop i (take n was))
        ∙ omega (arith, m.within, length-take-le n was (omega arith), length-take i (take n was), length-drop i (take n was))

-- what stands at a place after an insertion
module _ {A : Type 0} (l : List A) (i : ℕ) (x : A) (h : i ≤ length l) (d : A) where
  abbrev with_x_lem : List A
  with_x_lem = take i l ++ (x ∷ drop i l)

  front : length (take i l) ≡ i
  front = length-take-le i l h

  pub at_before : (j : ℕ) → j < i → get_or with_x_lem j d ≡ get_or l j d
  at_before j g = get_or-append (take i l) (x ∷ drop i l) d j (omega (arith, front)) ∙ get_or-take i l j d g

  pub at_it : get_or with_x_lem i d ≡ x
  at_it = ap (λ (j : ℕ). get_or with_x_lem j d) (sym front) ∙ get_or-append_seam (take i l) x (drop i l) d

  pub at_behind : (j : ℕ) → get_or with_x_lem (i + suc j) d ≡ get_or l (i + j) d
  at_behind j = ap (λ (k : ℕ). get_or with_x_lem (k + suc j) d) (sym front) ∙ get_or-append-add (take i l) (x ∷ drop i l) (suc j) d ∙ get_or-drop i l j d

  pub with_length : length with_x_lem ≡ suc (length l)
  with_length = length-append (take i l) (x ∷ drop i l) ∙ omega (arith, front, length-drop i l)

-- an entry goes into the tree where its slot goes into the table
pub lists_with : {raw : Bytes} {vs : List Slot} {t : Tree} → Lists raw vs t → (i : ℕ) (s : Slot) (e : Entry) → i ≤ length t → Stands raw s.word e → Lists raw (take i vs ++ (s ∷ drop i vs)) (take i t ++ (e ∷ drop i t))
lists_with {raw} {vs} {t} l i v e h st = record { many = with_length vs i v hv empty ∙ ap suc l.many ∙ sym (with_length t i e h blank); each = each }
  where
    hv : i ≤ length vs
    hv = omega (arith, l.many)

    each : (j : ℕ) → j < length (take i t ++ (e ∷ drop i t)) → Stands raw (get_or (take i vs ++ (v ∷ drop i vs)) j empty).word (get_or (take i t ++ (e ∷ drop i t)) j blank)
    each j g = go (ltb j i) refl (eqb j i) refl
      where
        go : (b : _) → ltb j i ≡ b → (c : _) → eqb j i ≡ c → Stands raw (get_or (take i vs ++ (v ∷ drop i vs)) j empty).word (get_or (take i t ++ (e ∷ drop i t)) j blank)
        go true p c q =
            let r = ltb-true j i p in
            rw (at_before vs i v hv empty j r, at_before t i e h blank j r) (l.each j (omega arith))
        go false p true q =
            let r : j ≡ i = eqb-true j i q in
            rw (r, at_it vs i v hv empty, at_it t i e h blank) st
        go false p false q =
            let ge = ltb-false j i p in
            let ne = eqb-false j i q in
            let r : j ≡ i + suc (j - i - 1) = omega (arith, ge, ne) in
            rw (r, at_behind vs i v hv empty (j - i - 1), at_behind t i e h blank (j - i - 1)) (l.each (i + (j - i - 1)) (omega (arith, g, with_length t i e h blank, ge, ne)))
