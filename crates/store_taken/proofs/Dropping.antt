-- Slots dropped one after the other: so far those of the map below a place are free, and the rest holds what it held. Assumes nothing.
use mathlib.Core.Path.{◌≡◌, refl, sym, ap, ◌∙◌}
use mathlib.Core.Bool.{Bool, true, false, not, ◌&&◌}
use mathlib.Core.List.{List, [], ◌∷◌}
use Prim.Native.Nat.{ℕ, zero, suc, ◌+◌, ◌≤◌, ◌<◌}
use native.Mathlib.Omega.{arith}
use native.Mathlib.Numerals.{add-one}
use lib.Dec.{eqb}
use borrow.Author.Tests.{eqb-true, eqb-false}
use lib.ListN.{length, take, get_or, set, length-set}
use lib.Seq.{get_or-set_same, get_or-set_other, take_all, ext_get_or}
use Rattle.model.specs.Bytes.{has}
use Rattle.model.proofs.Basics.{no_way, and_left, and_right, not_true}
use Rattle.store_slots.proofs.Marked.{marked_other}
use Rattle.store_runs.specs.Digits.{digits}
use Rattle.store_runs.proofs.DigitLaws.{length_digits, digit_same, digit_zero}
use Rattle.store_slots.specs.View.{Laid, Used, SameWrite, marked}
use Rattle.store_slots.specs.declared.Record.{Record}
use Rattle.store_taken.specs.Taken.{Marks, Between, SameTree, either, joined, mark_if}
use Rattle.store_taken.proofs.Marking.{marked_here, not_marked, all_has}
use Rattle.store_taken.proofs.Steps.{used_same, open_between}

-- ---- two maps joined

pub joined_more : (g ds : List ℕ) (k : ℕ) → k < length g → joined (take (suc k) g) ds ≡ mark_if (get_or g k 0) (joined (take k g) ds) k
unfolding joined
joined_more [] ds k h = absurd (omega arith)
joined_more (zero ∷ g) [] zero h = refl
joined_more (suc x ∷ g) [] zero h = refl
joined_more (x ∷ g) [] (suc k) h = go (get_or g k 0)
  where
    go : (y : ℕ) → [] ≡ mark_if y [] (suc k)
    go zero = refl
    go (suc y) = refl
joined_more (zero ∷ g) (d ∷ ds) zero h = refl
joined_more (suc x ∷ g) (d ∷ ds) zero h = refl
joined_more (x ∷ g) (d ∷ ds) (suc k) h = ap (λ (l : List ℕ). either x d ∷ l) (joined_more g ds k (omega arith)) ∙ go (get_or g k 0)
  where
    go : (y : ℕ) → either x d ∷ mark_if y (joined (take k g) ds) k ≡ mark_if y (either x d ∷ joined (take k g) ds) (suc k)
    go zero = refl
    go (suc y) = refl

pub joined_at : (g ds : List ℕ) (k : ℕ) → k < length g → k < length ds → get_or (joined g ds) k 0 ≡ either (get_or g k 0) (get_or ds k 0)
unfolding joined
joined_at [] ds k h l = absurd (omega arith)
joined_at (x ∷ g) [] k h l = absurd (omega arith)
joined_at (x ∷ g) (d ∷ ds) zero h l = refl
joined_at (x ∷ g) (d ∷ ds) (suc k) h l = joined_at g ds k (omega arith) (omega arith)

-- ---- one slot

-- the slot is used and in the map
pub goes_used : (n gone k : ℕ) → k < 64 → (not (eqb (get_or (digits 64 n) k 0) 1) && eqb (get_or (digits 64 gone) k 0) 1) ≡ true → (get_or (digits 64 n) k 0 ≡ 0) × (get_or (digits 64 gone) k 0 ≡ 1)
goes_used n gone k h e = (
  digit_zero 64 n k h (eqb-false (get_or (digits 64 n) k 0) 1 (not_true (eqb (get_or (digits 64 n) k 0) 1) (and_left (not (eqb (get_or (digits 64 n) k 0) 1)) (eqb (get_or (digits 64 gone) k 0) 1) e))),
  eqb-true (get_or (digits 64 gone) k 0) 1 (and_right (not (eqb (get_or (digits 64 n) k 0) 1)) (eqb (get_or (digits 64 gone) k 0) 1) e),
)

-- it is free, or not in the map
pub stays_free : (n gone k : ℕ) → k < 64 → (not (eqb (get_or (digits 64 n) k 0) 1) && eqb (get_or (digits 64 gone) k 0) 1) ≡ false → digits 64 n ≡ mark_if (get_or (digits 64 gone) k 0) (digits 64 n) k
stays_free n gone k h e = go (eqb (get_or (digits 64 n) k 0) 1) refl (eqb (get_or (digits 64 gone) k 0) 1) refl e
  where
    go : (x : Bool) → eqb (get_or (digits 64 n) k 0) 1 ≡ x → (y : Bool) → eqb (get_or (digits 64 gone) k 0) 1 ≡ y → (not x && y) ≡ false → digits 64 n ≡ mark_if (get_or (digits 64 gone) k 0) (digits 64 n) k
    go x ex false ey f = ap (λ (z : ℕ). mark_if z (digits 64 n) k) (sym (digit_zero 64 gone k h (eqb-false (get_or (digits 64 gone) k 0) 1 ey)))
    go true ex true ey f = digit_same (digits 64 n) k (eqb-true (get_or (digits 64 n) k 0) 1 ex) ∙ ap (λ (z : ℕ). mark_if z (digits 64 n) k) (sym (eqb-true (get_or (digits 64 gone) k 0) 1 ey))
    go false ex true ey f = no_way f

-- ---- the loop

pub record Dropping (w : ℕ) (gone : ℕ) (r : Record) (plens paths tlens trees : List ℕ) (k : ℕ) (q : Record) (plens' paths' tlens' trees' : List ℕ) : Type 0 where
  pub within : k ≤ 64
  pub laid : Laid w q plens' paths' tlens' trees'
  pub free : digits 64 q.free ≡ joined (take k (digits 64 gone)) (digits 64 r.free)
  pub others : (j : ℕ) → get_or (digits 64 gone) j 0 ≡ 0 → SameTree plens paths tlens trees plens' paths' tlens' trees' j
  pub same : SameWrite r q

pub dropping_none : (w gone : ℕ) (r : Record) (plens paths tlens trees : List ℕ) → Laid w r plens paths tlens trees → Dropping w gone r plens paths tlens trees 0 r plens paths tlens trees
unfolding joined
dropping_none w gone r plens paths tlens trees L = record {
  within = omega arith;
  laid = L;
  free = refl;
  others = λ j z. record { path = refl; run = refl };
  same = record { «open» = refl; aside = refl; stacked = refl; asked = refl };
}

module _ {w gone : ℕ} {r : Record} {plens paths tlens trees : List ℕ} {k : ℕ} {q : Record} {plens' paths' tlens' trees' : List ℕ} (d : Dropping w gone r plens paths tlens trees k q plens' paths' tlens' trees') where
  pub dropping_more : (s : Record) (pl pb tl tb : List ℕ) → k < 64 → Laid w s pl pb tl tb → ((j : ℕ) → get_or (digits 64 gone) j 0 ≡ 0 → SameTree plens' paths' tlens' trees' pl pb tl tb j) →
      digits 64 s.free ≡ mark_if (get_or (digits 64 gone) k 0) (digits 64 q.free) k → SameWrite q s → Dropping w gone r plens paths tlens trees (k + 1) s pl pb tl tb
  dropping_more s pl pb tl tb h L o ef sw = record {
    within = omega arith;
    laid = L;
    free = ef ∙ ap (λ (l : List ℕ). mark_if (get_or (digits 64 gone) k 0) l k) d.free ∙ sym (joined_more (digits 64 gone) (digits 64 r.free) k (omega (arith, length_digits 64 gone)))
        ∙ ap (λ (x : ℕ). joined (take x (digits 64 gone)) (digits 64 r.free)) (sym (add-one k));
    others = λ j z. record { path = (o j z).path ∙ (d.others j z).path; run = (o j z).run ∙ (d.others j z).run };
    same = record { «open» = sw.«open» ∙ d.same.«open»; aside = sw.aside ∙ d.same.aside; stacked = sw.stacked ∙ d.same.stacked; asked = sw.asked ∙ d.same.asked };
  }

  pub dropping_all : 64 ≤ k → digits 64 q.free ≡ joined (digits 64 gone) (digits 64 r.free)
  dropping_all h = d.free ∙ ap (λ (l : List ℕ). joined l (digits 64 r.free)) (take_all k (digits 64 gone) (omega (arith, length_digits 64 gone)))

-- ---- one taken slot is left

module _ (r : Record) (ks : List ℕ) (m : Marks r ks) (k : ℕ) (i : has k ks ≡ true) where
  pub left_used : Used r k
  left_used = all_has (Used r) ks k m.used i

  pub left_hidden : get_or (digits 64 r.hidden) k 0 ≡ 1
  left_hidden = ap (λ (x : List ℕ). get_or x k 0) m.hidden ∙ marked_here ks (digits 64 r.free) k (omega (arith, left_used.low, length_digits 64 r.free)) i

  -- the map of the others
  module _ (gone : ℕ) (eg : digits 64 gone ≡ set (digits 64 r.hidden) k 0) where
    pub left_out : (j : ℕ) → get_or (digits 64 r.hidden) j 0 ≡ 0 → get_or (digits 64 gone) j 0 ≡ 0
    left_out j z = ap (λ (x : List ℕ). get_or x j 0) eg ∙ get_or-set_other (digits 64 r.hidden) k j 0 0 (λ e. omega (arith, left_hidden, z, ap (λ (x : ℕ). get_or (digits 64 r.hidden) x 0) e)) ∙ z

    pub left_self : get_or (digits 64 gone) k 0 ≡ 0
    left_self = ap (λ (x : List ℕ). get_or x k 0) eg ∙ get_or-set_same (digits 64 r.hidden) k 0 0 (omega (arith, left_used.low, length_digits 64 r.hidden))

    module _ (q : Record) (ef : digits 64 q.free ≡ joined (digits 64 gone) (digits 64 r.free)) where
      free_at : (j : ℕ) → j < 64 → get_or (digits 64 q.free) j 0 ≡ either (get_or (digits 64 gone) j 0) (get_or (digits 64 r.free) j 0)
      free_at j h = ap (λ (x : List ℕ). get_or x j 0) ef ∙ joined_at (digits 64 gone) (digits 64 r.free) j (omega (arith, length_digits 64 gone)) (omega (arith, length_digits 64 r.free))

      pub left_still : Used q k
      left_still = record { low = left_used.low; used = free_at k left_used.low ∙ ap (λ (x : ℕ). either x (get_or (digits 64 r.free) k 0)) left_self ∙ left_used.used }

      -- what is hidden and not free is the slot
      pub left_only : digits 64 r.hidden ≡ set (digits 64 q.free) k 1
      left_only =
          ext_get_or 0 (digits 64 r.hidden) (set (digits 64 q.free) k 1) (length_digits 64 r.hidden ∙ sym (length-set (digits 64 q.free) k 1 ∙ length_digits 64 q.free))
          (λ j h. at_place j (omega (arith, length_digits 64 r.hidden)) (eqb j k) refl)
        where
          other : (j : ℕ) → j < 64 → (j ≡ k → ⊥) → (t : Bool) → eqb (get_or (digits 64 r.hidden) j 0) 1 ≡ t → get_or (digits 64 r.hidden) j 0 ≡ either (get_or (digits 64 r.hidden) j 0) (get_or (digits 64 r.free) j 0)
          other j h n true e = let o = eqb-true (get_or (digits 64 r.hidden) j 0) 1 e in o ∙ ap (λ (x : ℕ). either x (get_or (digits 64 r.free) j 0)) (sym o)
          other j h n false e =
              let z = digit_zero 64 r.hidden j h (eqb-false (get_or (digits 64 r.hidden) j 0) 1 e) in
              let y : get_or (marked ks (digits 64 r.free)) j 0 ≡ 0 = ap (λ (x : List ℕ). get_or x j 0) (sym m.hidden) ∙ z in
              let f = marked_other j ks (digits 64 r.free) (not_marked ks (digits 64 r.free) j (omega (arith, length_digits 64 r.free)) y) in
              z ∙ sym (ap (λ (x : ℕ). either x (get_or (digits 64 r.free) j 0)) z ∙ sym f ∙ y)

          at_place : (j : ℕ) → j < 64 → (t : Bool) → eqb j k ≡ t → get_or (digits 64 r.hidden) j 0 ≡ get_or (set (digits 64 q.free) k 1) j 0
          at_place j h true e =
              let s = eqb-true j k e in
              ap (λ (x : ℕ). get_or (digits 64 r.hidden) x 0) s ∙ left_hidden ∙ sym (ap (λ (x : ℕ). get_or (set (digits 64 q.free) k 1) x 0) s ∙ get_or-set_same (digits 64 q.free) k 1 0 (omega (arith, left_used.low, length_digits 64 q.free)))
          at_place j h false e =
              let n = eqb-false j k e in
              other j h n (eqb (get_or (digits 64 r.hidden) j 0) 1) refl
              ∙ ap (λ (x : ℕ). either x (get_or (digits 64 r.free) j 0)) (sym (ap (λ (x : List ℕ). get_or x j 0) eg ∙ get_or-set_other (digits 64 r.hidden) k j 0 0 n))
              ∙ sym (free_at j h) ∙ sym (get_or-set_other (digits 64 q.free) k j 1 0 n)

      pub left_between : (s : Record) → s.free ≡ q.free → s.hidden ≡ r.hidden → 1 ≤ s.«open» → s.«open» ≤ 2 → s.aside ≡ 0 → s.stacked ≡ 0 → (order : List ℕ) → length order ≡ 64 → Between s order (k ∷ [])
      left_between s fs hs low from ea es order l =
          let z : Record = record { free = s.free; hidden = s.free; paths = s.paths; trees = s.trees; entries = s.entries; names = s.names; «open» = s.«open»; aside = s.aside; stacked = s.stacked; asked = s.asked } in
          open_between z k refl (used_same q z fs k left_still) s refl (ap (digits 64) hs ∙ left_only ∙ ap (λ (x : ℕ). set (digits 64 x) k 1) (sym fs)) ea es low from order l
