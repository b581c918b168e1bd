-- Laws of numbers read from digits: what a number is cut to decides what it is cut to with more digits behind it, and what is written in decimal is read back. Assumes nothing.
use Prim.Native.Nat.{ℕ, zero, suc, ◌+◌, ◌-◌, ◌*◌, ◌/◌, ◌%◌, ◌^◌, ◌≤◌, ◌<◌}
use mathlib.Core.Path.{◌≡◌, refl, sym, ap, ◌∙◌}
use mathlib.Core.List.{[], ◌∷◌}
use mathlib.Core.Bool.{Bool, true, false, cond, ◌&&◌}
use mathlib.Core.Option.{none, some}
use native.Mathlib.Numerals.{add-one}
use native.Mathlib.Omega.{arith}
use lib.Dec.{leb, ltb, eqb}
use lib.ListN.{length, get_or, drop, drop_of_length-le}
use lib.Seq.{drop-cons}
use borrow.Author.Tests.{le-leb, lt-leb, leb-true, leb-false, lt-ltb, ltb-true, ltb-false, eq-eqb, ne_eqb}
use Rattle.model.specs.Bytes.{Bytes}
use Rattle.lines.specs.Numbers.{is_decimal, says_after, number_of, most, capped, held}
use Rattle.lines.specs.Texts.{decimal_from, decimal}
use Rattle.lines.proofs.PlaceLaws.{if_of, if_none}
use Rattle.lines.proofs.TextLaws.{next_below}

-- Digits
pub digit_test : (b : ℕ) → 48 ≤ b → leb b 57 ≡ is_decimal b
digit_test b h = rw (le-leb 48 b h)

-- The cut
pub cap_is : (n : ℕ) → n ≤ most → n ≡ capped n
cap_is n h = rw (le-leb n most h)

pub cap_over : (n : ℕ) → most < n → most ≡ capped n
cap_over n h = rw (lt-leb n most h)

pub cap_small : (n : ℕ) → capped n ≤ most
cap_small n = go (leb n most) refl
  where
    go : (t : Bool) → leb n most ≡ t → cond t n most ≤ most
    go true e = leb-true n most e
    go false e = omega arith

cap_cap : (n : ℕ) → capped n ≡ capped (capped n)
cap_cap n = cap_is (capped n) (cap_small n)

cap_digit : (m d : ℕ) → capped (m * 10 + d) ≡ capped (capped m * 10 + d)
cap_digit m d = go (leb m most) refl
  where
    go : (t : Bool) → leb m most ≡ t → capped (m * 10 + d) ≡ capped (cond t m most * 10 + d)
    go true e = refl
    go false e =
        let h = leb-false m most e in
        sym (cap_over (m * 10 + d) (omega arith)) ∙ cap_over (most * 10 + d) (omega arith)

one_more : (t : Bool) (s : Bytes) (m d : ℕ) → ((j : ℕ) → held (says_after j s) ≡ held (says_after (capped j) s)) →
    held (cond t (says_after (m * 10 + d) s) none) ≡ held (cond t (says_after (capped m * 10 + d) s) none)
one_more true s m d ih = ih (m * 10 + d) ∙ ap (λ (j : ℕ). held (says_after j s)) (cap_digit m d) ∙ sym (ih (capped m * 10 + d))
one_more false s m d ih = refl

says_capped : (s : Bytes) (m : ℕ) → held (says_after m s) ≡ held (says_after (capped m) s)
unfolding says_after
says_capped [] m = ap some (cap_cap m)
says_capped (b ∷ s) m = one_more (is_decimal b) s m (b - 48) (λ j. says_capped s j)

-- at place i of the digits: the number so far, and what is left decides
pub record Numbering (s : Bytes) (i n : ℕ) : Type 0 where
  pub within : i ≤ length s
  pub small : n ≤ most
  pub rest : held (says_after 0 s) ≡ held (says_after n (drop i s))

module _ {s : Bytes} {i n : ℕ} (at : Numbering s i n) where
  pub numbering_end : length s ≤ i → some n ≡ held (says_after 0 s)
  unfolding says_after
  numbering_end h = ap some (cap_is n at.small) ∙ sym (at.rest ∙ rw (drop_of_length-le s h))

  module _ (h : i < length s) where
    pub numbering_stop : none ≡ cond (is_decimal (get_or s i 0)) (some (capped (n * 10 + (get_or s i 0 - 48)))) none → none ≡ held (says_after 0 s)
    unfolding says_after
    numbering_stop e = sym (at.rest ∙ rw (drop-cons s i 0 h, if_none (is_decimal (get_or s i 0)) (capped (n * 10 + (get_or s i 0 - 48))) (sym e)))

    pub numbering_more : {m : ℕ} → some m ≡ cond (is_decimal (get_or s i 0)) (some (capped (n * 10 + (get_or s i 0 - 48)))) none → Numbering s (i + 1) m
    unfolding says_after
    numbering_more {m} e =
        let (d, q) = if_of (is_decimal (get_or s i 0)) (capped (n * 10 + (get_or s i 0 - 48))) m (sym e) in
        record {
          within = omega arith;
          small = rw (sym q) (cap_small (n * 10 + (get_or s i 0 - 48)));
          rest =
              at.rest ∙ rw (add-one i, drop-cons s i 0 h, d)
              (says_capped (drop (suc i) s) (n * 10 + (get_or s i 0 - 48)) ∙ ap (λ (j : ℕ). held (says_after j (drop (suc i) s))) q);
        }

-- No leading zero
pub number_none : (s : Bytes) → length s ≡ 0 → none ≡ held (number_of s)
unfolding number_of
number_none [] e = refl
number_none (b ∷ s) e = absurd (omega arith)

pub number_padded : (s : Bytes) → get_or s 0 0 ≡ 48 → 1 < length s → none ≡ held (number_of s)
unfolding number_of
number_padded [] e h = absurd (omega arith)
number_padded (b ∷ []) e h = absurd (omega arith)
number_padded (b ∷ c ∷ s) e h = rw (eq-eqb b 48 e)

pub number_short : (s : Bytes) → 0 < length s → length s ≤ 1 → says_after 0 s ≡ number_of s
unfolding number_of
number_short [] h g = absurd (omega arith)
number_short (b ∷ []) h g = go (eqb b 48)
  where
    go : (t : Bool) → says_after 0 (b ∷ []) ≡ cond (t && false) none (says_after 0 (b ∷ []))
    go true = refl
    go false = refl
number_short (b ∷ c ∷ s) h g = absurd (omega arith)

pub number_plain : (s : Bytes) → 0 < length s → (get_or s 0 0 ≡ 48 → ⊥) → says_after 0 s ≡ number_of s
unfolding number_of
number_plain [] h e = absurd (omega arith)
number_plain (b ∷ s) h e = rw (ne_eqb b 48 e)

-- What is written in decimal is read back
digit_back : (n m : ℕ) → n < 10 → (is_decimal (48 + n) ≡ true) × (m * 10 + (48 + n - 48) ≡ m * 10 + n)
digit_back n m h = (sym (digit_test (48 + n) (omega arith)) ∙ le-leb (48 + n) 57 (omega arith), omega arith)

says_digit : (m n : ℕ) (s : Bytes) → n < 10 → says_after m ((48 + n) ∷ s) ≡ says_after (m * 10 + n) s
unfolding says_after
says_digit m n s h =
    let q = digit_back n m h in
    rw (q.0, q.1)

-- the digits of n, before those that follow, say n
abbrev Back : ℕ → Type 0
Back k = (n : ℕ) (after : Bytes) → n < 10 ^ k → says_after 0 (decimal_from k n after) ≡ says_after n after

one_back : (n : ℕ) (after : Bytes) → n < 10 → says_after 0 ((48 + n) ∷ after) ≡ says_after n after
one_back n after h = says_digit 0 n after h ∙ ap (λ (j : ℕ). says_after j after) (omega arith)

more_back : (k n : ℕ) (after : Bytes) → n < 10 ^ suc (suc k) → Back (suc k) → 10 ≤ n → says_after 0 (decimal_from (suc k) (n / 10) ((48 + n % 10) ∷ after)) ≡ says_after n after
more_back k n after h ih g =
    ih (n / 10) ((48 + n % 10) ∷ after) (next_below (suc k) n h)
    ∙ says_digit (n / 10) (n % 10) after (omega arith) ∙ ap (λ (j : ℕ). says_after j after) (omega arith)

pub says_back : (k : ℕ) → Back (suc k)
unfolding decimal_from
says_back zero n after h = rw (lt-ltb n 10 (omega arith)) (one_back n after (omega arith))
says_back (suc k) n after h = go (ltb n 10) refl (says_back k)
  where
    go : (t : Bool) → ltb n 10 ≡ t → Back (suc k) → says_after 0 (cond t ((48 + n) ∷ after) (decimal_from (suc k) (n / 10) ((48 + n % 10) ∷ after))) ≡ says_after n after
    go true e ih = one_back n after (ltb-true n 10 e)
    go false e ih = more_back k n after h ih (ltb-false n 10 e)

-- the digits of a number above 0 begin with none
abbrev Leads : Bytes → Type 0
Leads s = (0 < length s) × (get_or s 0 0 ≡ 48 → ⊥)

one_leads : (n : ℕ) (after : Bytes) → 0 < n → Leads ((48 + n) ∷ after)
one_leads n after p = (omega arith, λ e. omega (arith, e))

leads : (k n : ℕ) (after : Bytes) → 0 < n → n < 10 ^ suc k → Leads (decimal_from (suc k) n after)
unfolding decimal_from
leads zero n after p h = rw (lt-ltb n 10 (omega arith)) (one_leads n after p)
leads (suc k) n after p h = go (ltb n 10) refl (leads k)
  where
    go : (t : Bool) → ltb n 10 ≡ t → ((m : ℕ) (after : Bytes) → 0 < m → m < 10 ^ suc k → Leads (decimal_from (suc k) m after)) →
        Leads (cond t ((48 + n) ∷ after) (decimal_from (suc k) (n / 10) ((48 + n % 10) ∷ after)))
    go true e ih = one_leads n after p
    go false e ih =
        let g = ltb-false n 10 e in
        ih (n / 10) ((48 + n % 10) ∷ after) (omega arith) (next_below (suc k) n h)

number_zero : number_of (decimal 0) ≡ some 0
unfolding number_of says_after decimal decimal_from
number_zero = refl

nothing_more : (n : ℕ) → says_after n [] ≡ some n
unfolding says_after
nothing_more n = refl

pub number_back : (n : ℕ) → n < 2 ^ 64 → number_of (decimal n) ≡ some n
unfolding decimal
number_back zero h = number_zero
number_back (suc n) h =
    let w : suc n < 10 ^ suc 19 = omega arith in
    let (long, first) = leads 19 (suc n) [] (omega arith) w in
    sym (number_plain (decimal_from 20 (suc n) []) long first) ∙ says_back 19 (suc n) [] w ∙ nothing_more (suc n)
