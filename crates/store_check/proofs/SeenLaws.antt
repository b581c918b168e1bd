-- A path whose number has not come before is new: equal paths have equal numbers. Assumes nothing.
use mathlib.Core.Path.{◌≡◌, refl, sym, ap, ◌∙◌, subst}
use mathlib.Core.Bool.{Bool, true, false, ◌&&◌}
use mathlib.Core.List.{List, [], ◌∷◌}
use Prim.Native.Nat.{ℕ, zero, suc, ◌+◌, ◌/◌, ◌%◌, ◌<◌}
use native.Mathlib.Omega.{arith}
use Rattle.std.specs.List.{list_all}
use lib.Dec.{eqb}
use lib.ListN.{length, get_or, set, length-set}
use lib.Seq.{get_or-set_same, get_or-set_other}
use borrow.Author.Count.{below_more}
use borrow.Author.Tests.{eqb-true, eqb-false}
use Rattle.model.specs.Bytes.{Bytes}
use Rattle.store_runs.specs.Digits.{digits}
use Rattle.store_runs.proofs.DigitLaws.{length_digits, digit_zero}
use Rattle.store_check.specs.Laid.{First, good_path}
use Rattle.store_check.specs.Tag.{tag_of}

-- the number t is set in the words
abbrev pub Set : List ℕ → ℕ → Type 0
Set seen t = get_or (digits 64 (get_or seen (t / 64) 0)) (t % 64) 0 ≡ 1

-- a number more in the words
module _ (seen : List ℕ) (t w : ℕ) (l : length seen ≡ 64) (h : t < 4096) (e : digits 64 w ≡ set (digits 64 (get_or seen (t / 64) 0)) (t % 64) 1) where
  word_set : get_or (set seen (t / 64) w) (t / 64) 0 ≡ w
  word_set = get_or-set_same seen (t / 64) w 0 (omega (arith, l))

  pub set_now : Set (set seen (t / 64) w) t
  set_now =
      ap (λ (x : ℕ). get_or (digits 64 x) (t % 64) 0) word_set ∙ ap (λ (x : List ℕ). get_or x (t % 64) 0) e
      ∙ get_or-set_same (digits 64 (get_or seen (t / 64) 0)) (t % 64) 1 0 (omega (arith, length_digits 64 (get_or seen (t / 64) 0)))

  -- a digit that is set stays set
  digit_still : (i : ℕ) → get_or (digits 64 (get_or seen (t / 64) 0)) i 0 ≡ 1 → get_or (digits 64 w) i 0 ≡ 1
  digit_still i s = ap (λ (x : List ℕ). get_or x i 0) e ∙ go (eqb i (t % 64)) refl
    where
      go : (b : Bool) → eqb i (t % 64) ≡ b → get_or (set (digits 64 (get_or seen (t / 64) 0)) (t % 64) 1) i 0 ≡ 1
      go true q =
          ap (λ (x : ℕ). get_or (set (digits 64 (get_or seen (t / 64) 0)) (t % 64) 1) x 0) (eqb-true i (t % 64) q)
          ∙ get_or-set_same (digits 64 (get_or seen (t / 64) 0)) (t % 64) 1 0 (omega (arith, length_digits 64 (get_or seen (t / 64) 0)))
      go false q = get_or-set_other (digits 64 (get_or seen (t / 64) 0)) (t % 64) i 1 0 (eqb-false i (t % 64) q) ∙ s

  pub still_set : (s : ℕ) → Set seen s → Set (set seen (t / 64) w) s
  still_set s z = go (eqb (s / 64) (t / 64)) refl
    where
      go : (b : Bool) → eqb (s / 64) (t / 64) ≡ b → Set (set seen (t / 64) w) s
      go true q =
          let r : s / 64 ≡ t / 64 = eqb-true (s / 64) (t / 64) q in
          ap (λ (x : ℕ). get_or (digits 64 (get_or (set seen (t / 64) w) x 0)) (s % 64) 0) r
          ∙ ap (λ (x : ℕ). get_or (digits 64 x) (s % 64) 0) word_set
          ∙ digit_still (s % 64) (ap (λ (x : ℕ). get_or (digits 64 (get_or seen x 0)) (s % 64) 0) (sym r) ∙ z)
      go false q = ap (λ (x : ℕ). get_or (digits 64 x) (s % 64) 0) (get_or-set_other seen (t / 64) (s / 64) w 0 (eqb-false (s / 64) (t / 64) q)) ∙ z

-- the slots before k that are not among `again` are first at their paths if used, and the numbers of the used ones are set
pub record Seen (map : ℕ) (ps : List Bytes) (seen : List ℕ) (again k : ℕ) : Type 0 where
  pub sofar : (j : ℕ) → j < k → get_or (digits 64 again) j 0 ≡ 0 → First (digits 64 map) ps j
  pub words : length seen ≡ 64
  pub known : (j : ℕ) → j < k → get_or (digits 64 map) j 0 ≡ 0 → Set seen (tag_of (get_or ps j []))

pub seen_none : {map : ℕ} {ps : List Bytes} {seen : List ℕ} {again : ℕ} → length seen ≡ 64 → Seen map ps seen again 0
seen_none l = record { sofar = λ j h. absurd (omega arith); words = l; known = λ j h. absurd (omega arith) }

pub seen_as_lem : {map : ℕ} {ps : List Bytes} {seen : List ℕ} {again k : ℕ} → Seen map ps seen again k → (l : List ℕ) (g n : ℕ) → l ≡ seen → g ≡ again → n ≡ k → Seen map ps l g n
seen_as_lem {map} {ps} {seen} {again} {k} at l g n e f q =
    subst (λ (x : List ℕ). Seen map ps x g n) (sym e) (subst (λ (x : ℕ). Seen map ps seen x n) (sym f) (subst (λ (x : ℕ). Seen map ps seen again x) (sym q) at))

module _ {map : ℕ} {ps : List Bytes} {seen : List ℕ} {again k : ℕ} (at : Seen map ps seen again k) where
  pub seen_free : (get_or (digits 64 map) k 0 ≡ 0 → ⊥) → Seen map ps seen again (k + 1)
  seen_free n =
      record {
        sofar = below_more (λ j. get_or (digits 64 again) j 0 ≡ 0 → First (digits 64 map) ps j) k at.sofar (λ z u. absurd (n u));
        words = at.words;
        known = below_more (λ j. get_or (digits 64 map) j 0 ≡ 0 → Set seen (tag_of (get_or ps j []))) k at.known (λ u. absurd (n u));
      }

  module _ (h : k < 64) (p : Bytes) (t : ℕ) (e : p ≡ get_or ps k []) (f : t ≡ tag_of p) where
    its_number : t ≡ tag_of (get_or ps k [])
    its_number = f ∙ ap tag_of e

    -- a number that came before
    pub seen_again : (g : ℕ) → Set seen t → digits 64 g ≡ set (digits 64 again) k 1 → Seen map ps seen g (k + 1)
    seen_again g s d =
        record {
          sofar = below_more (λ j. get_or (digits 64 g) j 0 ≡ 0 → First (digits 64 map) ps j) k (λ j m z. at.sofar j m (earlier j m z)) (λ z. absurd (omega (arith, z, here)));
          words = at.words;
          known = below_more (λ j. get_or (digits 64 map) j 0 ≡ 0 → Set seen (tag_of (get_or ps j []))) k at.known (λ u. subst (Set seen) its_number s);
        }
      where
        here : get_or (digits 64 g) k 0 ≡ 1
        here = ap (λ (x : List ℕ). get_or x k 0) d ∙ get_or-set_same (digits 64 again) k 1 0 (omega (arith, length_digits 64 again))

        earlier : (j : ℕ) → j < k → get_or (digits 64 g) j 0 ≡ 0 → get_or (digits 64 again) j 0 ≡ 0
        earlier j m z = sym (ap (λ (x : List ℕ). get_or x j 0) d ∙ get_or-set_other (digits 64 again) k j 1 0 (λ o. omega (arith, o))) ∙ z

    -- a number that did not
    pub seen_new : (w : ℕ) → t < 4096 → get_or (digits 64 (get_or seen (t / 64) 0)) (t % 64) 0 ≡ 0 → digits 64 w ≡ set (digits 64 (get_or seen (t / 64) 0)) (t % 64) 1 → Seen map ps (set seen (t / 64) w) again (k + 1)
    seen_new w g n d =
        record {
          sofar = below_more (λ j. get_or (digits 64 again) j 0 ≡ 0 → First (digits 64 map) ps j) k at.sofar
              (λ z u j m v q. let o = subst (Set seen) (ap tag_of q ∙ sym its_number) (at.known j m v) in omega (arith, n, o));
          words = length-set seen (t / 64) w ∙ at.words;
          known = below_more (λ j. get_or (digits 64 map) j 0 ≡ 0 → Set (set seen (t / 64) w) (tag_of (get_or ps j []))) k
              (λ j m v. still_set seen t w at.words g d (tag_of (get_or ps j [])) (at.known j m v))
              (λ u. subst (Set (set seen (t / 64) w)) its_number (set_now seen t w at.words g d));
        }

-- no slot is among none
pub none_again : (w k : ℕ) → get_or (digits w 0) k 0 ≡ 0
unfolding digits
none_again zero k = refl
none_again (suc w) zero = refl
none_again (suc w) (suc k) = none_again w k

-- what the test of a slot's digit says
module _ (map k : ℕ) (b : Bool) (e : b ≡ eqb (get_or (digits 64 map) k 0) 1) where
  pub among : b ≡ true → get_or (digits 64 map) k 0 ≡ 1
  among t = eqb-true (get_or (digits 64 map) k 0) 1 (sym e ∙ t)

  pub not_among : k < 64 → b ≡ false → get_or (digits 64 map) k 0 ≡ 0
  not_among h f = digit_zero 64 map k h (eqb-false (get_or (digits 64 map) k 0) 1 (sym e ∙ f))

-- a slot is among those that came again, or it is not
pub again_or_not : {P : Type 0} (again k : ℕ) → k < 64 → (get_or (digits 64 again) k 0 ≡ 0 → P) → (get_or (digits 64 again) k 0 ≡ 1 → P) → P
again_or_not {P} again k h f g = go (eqb (get_or (digits 64 again) k 0) 1) refl
  where
    go : (b : Bool) → eqb (get_or (digits 64 again) k 0) 1 ≡ b → P
    go true e = g (eqb-true (get_or (digits 64 again) k 0) 1 e)
    go false e = f (digit_zero 64 again k h (eqb-false (get_or (digits 64 again) k 0) 1 e))

-- ---- paths that are all good

pub all_pass : (ps : List Bytes) → ((k : ℕ) → k < length ps → good_path (get_or ps k []) ≡ true) → list_all good_path ps ≡ true
all_pass [] f = refl
all_pass (p ∷ ps) f = ap (λ (b : Bool). b && list_all good_path ps) (f 0 (omega arith)) ∙ all_pass ps (λ k h. f (suc k) (omega arith))
