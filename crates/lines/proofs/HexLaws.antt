-- Laws of hex: a text is digits if its first two are, and so is what follows them. Assumes nothing.
use Prim.Native.Nat.{ℕ, ◌+◌, ◌-◌, ◌*◌, ◌/◌, ◌%◌, ◌≤◌, ◌<◌}
use mathlib.Core.Path.{◌≡◌, refl, sym, ap, ◌∙◌}
use mathlib.Core.List.{[], ◌∷◌}
use mathlib.Core.Bool.{Bool, true, false, ◌&&◌}
use native.Mathlib.Omega.{arith}
use lib.Dec.{leb, ltb}
use Rattle.std.specs.List.{list_all}
use lib.ListN.{length}
use borrow.Author.Tests.{le-leb, lt-leb, ltb-true, ltb-false}
use Rattle.model.specs.Bytes.{Bytes}
use Rattle.model.specs.Order.{All}
use Rattle.model.proofs.Basics.{and_right}
use Rattle.lines.specs.Hex.{is_digit, value_of, hexed, bytes_of, digit_for, hex_of}

pub digit_low : (b : ℕ) → b ≤ 57 → is_digit b ≡ leb 48 b
digit_low b h = rw (le-leb b 57 h)

pub digit_high : (b : ℕ) → 57 < b → b ≤ 102 → is_digit b ≡ leb 97 b
digit_high b h g = rw (lt-leb b 57 h, le-leb b 102 g) (go (leb 97 b))
  where
    go : (t : Bool) → (t && true) ≡ t
    go true = refl
    go false = refl

pub value_low : (b : ℕ) → b ≤ 57 → b - 48 ≡ value_of b
value_low b h = rw (le-leb b 57 h)

pub value_high : (b : ℕ) → 57 < b → b - 87 ≡ value_of b
value_high b h = rw (lt-leb b 57 h)

-- a text is hex if it is digits, an even number of them
pub hexed_even : (s : Bytes) → length s % 2 ≡ 0 → list_all is_digit s ≡ hexed s
unfolding hexed
hexed_even [] e = refl
hexed_even (h ∷ []) e = absurd (omega arith)
hexed_even (h ∷ l ∷ s) e = ap (λ (t : Bool). is_digit h && (is_digit l && t)) (hexed_even s (omega arith))

pub hexed_odd : (s : Bytes) → (length s % 2 ≡ 0 → ⊥) → false ≡ hexed s
unfolding hexed
hexed_odd [] e = absurd (e refl)
hexed_odd (h ∷ []) e = refl
hexed_odd (h ∷ l ∷ s) e = go (is_digit h) (is_digit l) ∙ ap (λ (t : Bool). is_digit h && (is_digit l && t)) (hexed_odd s (λ q. e (omega arith)))
  where
    go : (t u : Bool) → false ≡ (t && (u && false))
    go true true = refl
    go true false = refl
    go false u = refl

-- digits are an even number
pub hex_even : (s : Bytes) → hexed s ≡ true → length s ≡ 2 * (length s / 2)
unfolding hexed
hex_even [] e = refl
hex_even (h ∷ []) e = absurd (let z : ◌≡◌ {A = ℕ} 0 1 = cc in omega arith)
hex_even (h ∷ l ∷ s) e =
    let ih = hex_even s (and_right (is_digit l) (hexed s) (and_right (is_digit h) (is_digit l && hexed s) e)) in
    omega arith

-- What is written in hex is read back
digit_back : (n : ℕ) → n < 16 → (is_digit (digit_for n) ≡ true) × (value_of (digit_for n) ≡ n)
digit_back n h = go (ltb n 10) refl
  where
    go : (t : Bool) → ltb n 10 ≡ t → (is_digit (digit_for n) ≡ true) × (value_of (digit_for n) ≡ n)
    go true e =
        let l = ltb-true n 10 e in
        rw e (digit_low (48 + n) (omega arith) ∙ le-leb 48 (48 + n) (omega arith), sym (value_low (48 + n) (omega arith)) ∙ omega arith)
    go false e =
        let l = ltb-false n 10 e in
        rw e (digit_high (87 + n) (omega arith) (omega arith) ∙ le-leb 97 (87 + n) (omega arith), sym (value_high (87 + n) (omega arith)) ∙ omega arith)

pub hex_back : (bs : Bytes) → All (λ b. b < 256) bs → (hexed (hex_of bs) ≡ true) × (bytes_of (hex_of bs) ≡ bs)
unfolding hexed bytes_of hex_of
hex_back [] h = (refl, refl)
hex_back (b ∷ bs) h =
    let ih = hex_back bs h.1 in
    let x = digit_back (b / 16) (omega (arith, h.0)) in
    let y = digit_back (b % 16) (omega arith) in
    let q : b / 16 * 16 + b % 16 ≡ b = omega arith in
    (rw (x.0, y.0, ih.0), rw (x.1, y.1, ih.1, q))
