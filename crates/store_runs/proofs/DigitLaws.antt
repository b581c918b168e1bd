-- Laws of the digits of a word: halving it drops the lowest, so what is so of the rest is so of the word; adding or taking away a power of two changes one digit where there is nothing to carry. Assumes nothing.
use mathlib.Core.Path.{◌≡◌, refl, sym, ap, ap₂, ◌∙◌}
use mathlib.Core.List.{List, ◌∷◌}
use Prim.Native.Nat.{ℕ, zero, suc, ◌+◌, ◌-◌, ◌*◌, ◌/◌, ◌%◌, ◌^◌, ◌≤◌, ◌<◌}
use native.Mathlib.Nat.{pow-suc, le_of_suc-le-suc, not-suc-le-zero, one-mul}
use native.Mathlib.Omega.{arith}
use lib.ListN.{length, get_or, set}
use lib.Pow.{shr-shr, shl_exact}
use lib.Seq.{set-get_or}
use lib.Dec.{lit<}
use lib.Arith.{lt-one}
use lib.Count.{ones, ones_step, count_trailing_zeros, under}
use Rattle.store_runs.specs.Digits.{digits, first_set, skip}
use Rattle.store_runs.specs.Runs.{total}

pub length_digits : (w n : ℕ) → length (digits w n) ≡ w
unfolding digits
length_digits zero n = refl
length_digits (suc w) n = ap suc (length_digits w (n / 2))

pub ones_total : (w n : ℕ) → n < 2 ^ w → ones n ≡ total (digits w n)
unfolding digits total ones
ones_total zero n h = ap ones (lt-one h)
ones_total (suc w) n h =
    let e : 2 ^ suc w ≡ 2 ^ w * 2 = pow-suc 2 w in
    ones_step n ∙ ap (λ (x : ℕ). n % 2 + x) (ones_total w (n / 2) (omega arith))

under_skip : (d t u : ℕ) → t ≡ u → under d t ≡ skip d u
under_skip zero t u e = ap suc e
under_skip (suc d) t u e = refl

pub total_few : (w n : ℕ) → total (digits w n) ≤ w
unfolding digits total
total_few zero n = omega arith
total_few (suc w) n = let h = total_few w (n / 2) in omega arith

pub trailing_first : (w n : ℕ) → count_trailing_zeros w n ≡ first_set (digits w n)
unfolding digits first_set count_trailing_zeros
trailing_first zero n = refl
trailing_first (suc w) n = under_skip (n % 2) (count_trailing_zeros w (n / 2)) (first_set (digits w (n / 2))) (trailing_first w (n / 2))

pub digit_at : (w n k : ℕ) → k < w → get_or (digits w n) k 0 ≡ n / 2 ^ k % 2
unfolding digits
digit_at zero n k h = absurd (not-suc-le-zero h)
digit_at (suc w) n zero h = omega arith
digit_at (suc w) n (suc k) h =
    let e : 1 + k ≡ suc k = omega arith in
    digit_at w (n / 2) k (le_of_suc-le-suc h) ∙ ap (λ (x : ℕ). x % 2) (shr-shr n 1 k ∙ ap (λ (x : ℕ). n / 2 ^ x) e)

pub digit_le : (w n k : ℕ) → get_or (digits w n) k 0 ≡ 1 → 2 ^ k ≤ n
unfolding digits
digit_le zero n k h = absurd (omega arith)
digit_le (suc w) n zero h = omega arith
digit_le (suc w) n (suc k) h =
    let e : 2 ^ suc k ≡ 2 ^ k * 2 = pow-suc 2 k in
    let i : 2 ^ k ≤ n / 2 = digit_le w (n / 2) k h in
    omega arith

pub digit_room : (w n k : ℕ) → k < w → n < 2 ^ w → get_or (digits w n) k 0 ≡ 0 → n + 2 ^ k < 2 ^ w
unfolding digits
digit_room zero n k h f z = absurd (not-suc-le-zero h)
digit_room (suc w) n zero h f z =
    let e : 2 ^ suc w ≡ 2 ^ w * 2 = pow-suc 2 w in
    omega arith
digit_room (suc w) n (suc k) h f z =
    let e : 2 ^ suc w ≡ 2 ^ w * 2 = pow-suc 2 w in
    let d : 2 ^ suc k ≡ 2 ^ k * 2 = pow-suc 2 k in
    let i : n / 2 + 2 ^ k < 2 ^ w = digit_room w (n / 2) k (le_of_suc-le-suc h) (omega arith) z in
    omega arith

pub digit_add : (w n k : ℕ) → k < w → get_or (digits w n) k 0 ≡ 0 → digits w (n + 2 ^ k) ≡ set (digits w n) k 1
unfolding digits
digit_add zero n k h z = absurd (not-suc-le-zero h)
digit_add (suc w) n zero h z =
    let a : (n + 1) % 2 ≡ 1 = omega arith in
    let b : (n + 1) / 2 ≡ n / 2 = omega arith in
    ap₂ (λ (x y : ℕ). x ∷ digits w y) a b
digit_add (suc w) n (suc k) h z =
    let e : 2 ^ suc k ≡ 2 ^ k * 2 = pow-suc 2 k in
    let a : (n + 2 ^ suc k) % 2 ≡ n % 2 = omega arith in
    let b : (n + 2 ^ suc k) / 2 ≡ n / 2 + 2 ^ k = omega arith in
    ap₂ (λ (x y : ℕ). x ∷ digits w y) a b ∙ ap (λ (x : List ℕ). n % 2 ∷ x) (digit_add w (n / 2) k (le_of_suc-le-suc h) z)

pub digit_sub : (w n k : ℕ) → k < w → get_or (digits w n) k 0 ≡ 1 → digits w (n - 2 ^ k) ≡ set (digits w n) k 0
unfolding digits
digit_sub zero n k h z = absurd (not-suc-le-zero h)
digit_sub (suc w) n zero h z =
    let a : (n - 1) % 2 ≡ 0 = omega arith in
    let b : (n - 1) / 2 ≡ n / 2 = omega arith in
    ap₂ (λ (x y : ℕ). x ∷ digits w y) a b
digit_sub (suc w) n (suc k) h z =
    let e : 2 ^ suc k ≡ 2 ^ k * 2 = pow-suc 2 k in
    let l : 2 ^ k ≤ n / 2 = digit_le w (n / 2) k z in
    let a : (n - 2 ^ suc k) % 2 ≡ n % 2 = omega arith in
    let b : (n - 2 ^ suc k) / 2 ≡ n / 2 - 2 ^ k = omega arith in
    ap₂ (λ (x y : ℕ). x ∷ digits w y) a b ∙ ap (λ (x : List ℕ). n % 2 ∷ x) (digit_sub w (n / 2) k (le_of_suc-le-suc h) z)

-- a one shifted to a place of the word
pub bit : (k : ℕ) → k < 64 → 1 * 2 ^ k % 18446744073709551616 ≡ 2 ^ k
bit k h = shl_exact 1 k 64 (lit< tt) (omega arith) ∙ one-mul (2 ^ k)

-- the first set digit is set
first_of : (d t : ℕ) (l : List ℕ) (w : ℕ) → d < 2 → skip d t < suc w → (t < w → get_or l t 0 ≡ 1) → get_or (d ∷ l) (skip d t) 0 ≡ 1
first_of zero t l w h k f = f (le_of_suc-le-suc k)
first_of (suc d) t l w h k f = omega arith

pub first_set_lem : (w n : ℕ) → first_set (digits w n) < w → get_or (digits w n) (first_set (digits w n)) 0 ≡ 1
unfolding digits first_set
first_set_lem zero n h = absurd (not-suc-le-zero h)
first_set_lem (suc w) n h = first_of (n % 2) (first_set (digits w (n / 2))) (digits w (n / 2)) w (omega arith) h (first_set_lem w (n / 2))

-- a digit that is not 1 is 0
pub digit_zero : (w n k : ℕ) → k < w → (get_or (digits w n) k 0 ≡ 1 → ⊥) → get_or (digits w n) k 0 ≡ 0
digit_zero w n k h ne = let e = digit_at w n k h in omega (arith, e, ne)

-- a digit that is set may be set again
pub digit_same : (ds : List ℕ) (k : ℕ) → get_or ds k 0 ≡ 1 → ds ≡ set ds k 1
digit_same ds k e = sym (ap (set ds k) (sym e) ∙ set-get_or ds k 0)
