-- Laws of what is written: where it fits, and what each step writes. Assumes nothing.
use Prim.Native.Nat.{ℕ, zero, suc, ◌+◌, ◌-◌, ◌*◌, ◌/◌, ◌%◌, ◌^◌, ◌≤◌, ◌<◌}
use mathlib.Core.Path.{◌≡◌, refl, sym, ap, ◌∙◌}
use mathlib.Core.List.{List, [], ◌∷◌, ◌++◌}
use mathlib.Core.Bool.{true, false, ◌&&◌}
use mathlib.Core.Option.{none, some}
use native.Mathlib.Omega.{arith}
use lib.Dec.{leb}
use lib.ListN.{length, get_or, drop, set, length-append, length-set, drop_of_length-le}
use Rattle.std.proofs.lemmas.List.{get_or-drop, get_or-take}
use Rattle.std.specs.Simd.{first_chunks}
use lib.Seq.{drop-cons, get_or-set_same, drop-set-lt}
use native.Mathlib.Nat.{pow-suc}
use borrow.Author.Tests.{le-leb, leb-true, lt-ltb, le-ltb}
use Rattle.model.specs.Bytes.{Bytes}
use Rattle.model.proofs.Basics.{and_left, and_right}
use Rattle.names.proofs.WriteLaws.{Putting, put_more, Wrote, wrote, wrote_more}
use Rattle.names.specs.Splice.{splice}
use Rattle.lines.specs.Hex.{is_digit, value_of, digit_for, hexed, bytes_of, hex_of}
use Rattle.lines.specs.Texts.{decimal_from, decimal, written, decoded, key_of, line_of}

pub key_long : (key : Bytes) → length (key_of key) ≡ length key + 1
key_long key = length-append key (61 ∷ [])

pub line_long : (key value : Bytes) → length (line_of key value) ≡ length key + (length value + 2)
line_long key value = simp length-append (omega arith)

-- A line that fits where its key, its value and two bytes more do, written part by part
module _ (d : Bytes) (at : ℕ) (key value : Bytes) {n : ℕ} (e : length value ≡ n) where
  pub line_short : false ≡ leb (at + (length key + (n + 2))) (length d) → record { next = none; out = d } ≡ written d at (line_of key value)
  unfolding written
  line_short t = rw (line_long key value, e, ← t)

  module _ (t : true ≡ leb (at + (length key + (n + 2))) (length d)) where
    fits : at + (length key + (length value + 2)) ≤ length d
    fits = omega (arith, leb-true (at + (length key + (n + 2))) (length d) (sym t), e)

    module _ {d₁ : Bytes} {a : ℕ} (w : (a ≡ at + length (key_of key)) × (d₁ ≡ splice d at (key_of key))) where
      key_there : Wrote d at (key_of key) d₁ a
      key_there = wrote (omega (arith, fits, key_long key)) w

      pub value_fits : a + length value ≤ length d₁
      value_fits = omega (arith, fits, key_there.next, key_there.long, key_long key)

      module _ {d₂ : Bytes} {b : ℕ} (v : (b ≡ a + length value) × (d₂ ≡ splice d₁ a value)) where
        value_there : Wrote d at (key_of key ++ value) d₂ b
        value_there = wrote_more key_there value value_fits v

        pub end_fits : b + 1 ≤ length d₂
        end_fits = omega (arith, fits, value_there.next, value_there.long, length-append (key_of key) value, key_long key)

        pub line_is : {e : Bytes} {r : ℕ} → (r ≡ b + 1) × (e ≡ splice d₂ b (10 ∷ [])) → record { next = some r; out = e } ≡ written d at (line_of key value)
        unfolding written
        line_is u =
            let x = wrote_more value_there (10 ∷ []) end_fits u in
            let h : at + length (line_of key value) ≤ length d = omega (arith, fits, line_long key value) in
            rw (le-leb (at + length (line_of key value)) (length d) h, x.next, x.done)

pub length_bytes : (s : Bytes) → length (bytes_of s) ≡ length s / 2
unfolding bytes_of
length_bytes [] = refl
length_bytes (h ∷ []) = refl
length_bytes (h ∷ l ∷ s) =
    let ih = length_bytes s in
    omega arith

-- What bytes out of hex are, where they fit or not
module _ (d : Bytes) (at : ℕ) (s : Bytes) where
  pub decoded_no : false ≡ hexed s → record { next = none; out = d } ≡ decoded d at s
  unfolding decoded
  decoded_no x = rw (← x)

  module _ (x : true ≡ hexed s) where
    pub decoded_short : false ≡ leb (at + length s / 2) (length d) → record { next = none; out = d } ≡ decoded d at s
    unfolding decoded written
    decoded_short t = rw (← x, length_bytes s, ← t)

    pub decoded_is : true ≡ leb (at + length s / 2) (length d) → {e : Bytes} → e ≡ splice d at (bytes_of s) → record { next = some (at + length s / 2); out = e } ≡ decoded d at s
    unfolding decoded written
    decoded_is t q = rw (← x, length_bytes s, ← t, q)

  pub bytes_fit : true ≡ leb (at + length s / 2) (length d) → at + length (bytes_of s) ≤ length d
  bytes_fit t = omega (arith, leb-true (at + length s / 2) (length d) (sym t), length_bytes s)

-- Bytes in hex
pub length_hex : (bs : Bytes) → length (hex_of bs) ≡ 2 * length bs
unfolding hex_of
length_hex [] = refl
length_hex (b ∷ bs) =
    let ih = length_hex bs in
    omega arith

pub hex_high : (bs : Bytes) (i : ℕ) → i < length bs → get_or (hex_of bs) (2 * i) 0 ≡ digit_for (get_or bs i 0 / 16)
unfolding hex_of
hex_high [] i h = absurd (omega arith)
hex_high (b ∷ bs) zero h = refl
hex_high (b ∷ bs) (suc i) h =
    let q : 2 * suc i ≡ suc (suc (2 * i)) = omega arith in
    rw q (hex_high bs i (omega arith))

pub hex_low : (bs : Bytes) (i : ℕ) → i < length bs → get_or (hex_of bs) (2 * i + 1) 0 ≡ digit_for (get_or bs i 0 % 16)
unfolding hex_of
hex_low [] i h = absurd (omega arith)
hex_low (b ∷ bs) zero h = refl
hex_low (b ∷ bs) (suc i) h =
    let q : 2 * suc i + 1 ≡ suc (suc (2 * i + 1)) = omega arith in
    rw q (hex_low bs i (omega arith))

pub hex_put : {d₀ d : Bytes} {at : ℕ} (bs : Bytes) (i : ℕ) {x y : ℕ} → Putting d₀ d at (hex_of bs) (2 * i) → at + length (hex_of bs) ≤ length d₀ → i < length bs →
    x ≡ digit_for (get_or bs i 0 / 16) → y ≡ digit_for (get_or bs i 0 % 16) → Putting d₀ (set (set d (at + 2 * i) x) (at + 2 * i + 1) y) at (hex_of bs) (2 * (i + 1))
hex_put {d₀} {d} {at} bs i p room h ex ey =
    let l = length_hex bs in
    let p₁ = put_more p room (omega arith) in
    let p₂ = put_more p₁ room (omega arith) in
    let q : at + 2 * i + 1 ≡ at + (2 * i + 1) = omega arith in
    let r : 2 * (i + 1) ≡ 2 * i + 1 + 1 = omega arith in
    rw (ex ∙ sym (hex_high bs i h), ey ∙ sym (hex_low bs i h), q, r) p₂

-- Bytes out of hex
bytes_at_lem : (s : Bytes) (i : ℕ) → i < length s / 2 → get_or (bytes_of s) i 0 ≡ value_of (get_or s (2 * i) 0) * 16 + value_of (get_or s (2 * i + 1) 0)
unfolding bytes_of
bytes_at_lem [] i h = absurd (omega arith)
bytes_at_lem (x ∷ []) i h = absurd (omega arith)
bytes_at_lem (x ∷ y ∷ s) zero h = refl
bytes_at_lem (x ∷ y ∷ s) (suc i) h =
    let q : 2 * suc i ≡ suc (suc (2 * i)) = omega arith in
    let r : 2 * suc i + 1 ≡ suc (suc (2 * i + 1)) = omega arith in
    rw (r, q) (bytes_at_lem s i (omega arith))

high_digit : (s : Bytes) (i : ℕ) → hexed s ≡ true → i < length s / 2 → is_digit (get_or s (2 * i) 0) ≡ true
unfolding hexed
high_digit [] i e h = absurd (omega arith)
high_digit (x ∷ []) i e h = absurd (omega arith)
high_digit (x ∷ y ∷ s) zero e h = and_left (is_digit x) (is_digit y && hexed s) e
high_digit (x ∷ y ∷ s) (suc i) e h =
    let q : 2 * suc i ≡ suc (suc (2 * i)) = omega arith in
    rw q (high_digit s i (and_right (is_digit y) (hexed s) (and_right (is_digit x) (is_digit y && hexed s) e)) (omega arith))

low_digit : (s : Bytes) (i : ℕ) → hexed s ≡ true → i < length s / 2 → is_digit (get_or s (2 * i + 1) 0) ≡ true
unfolding hexed
low_digit [] i e h = absurd (omega arith)
low_digit (x ∷ []) i e h = absurd (omega arith)
low_digit (x ∷ y ∷ s) zero e h = and_left (is_digit y) (hexed s) (and_right (is_digit x) (is_digit y && hexed s) e)
low_digit (x ∷ y ∷ s) (suc i) e h =
    let q : 2 * suc i + 1 ≡ suc (suc (2 * i + 1)) = omega arith in
    rw q (low_digit s i (and_right (is_digit y) (hexed s) (and_right (is_digit x) (is_digit y && hexed s) e)) (omega arith))

chunk_at : (k : ℕ) (s : Bytes) (i j : ℕ) → i < k → j < 2 → get_or (get_or (first_chunks 2 k s) i []) j 0 ≡ get_or s (2 * i + j) 0
chunk_at zero s i j h g = absurd (omega arith)
chunk_at (suc k) s zero j h g = get_or-take 2 s j 0 g ∙ ap (λ (n : ℕ). get_or s n 0) (omega arith)
chunk_at (suc k) s (suc i) j h g = chunk_at k (drop 2 s) i j (omega arith) g ∙ get_or-drop 2 s (2 * i + j) 0 ∙ ap (λ (n : ℕ). get_or s n 0) (omega arith)

length_chunks : (k : ℕ) (s : Bytes) → length (first_chunks 2 k s) ≡ k
length_chunks zero s = refl
length_chunks (suc k) s = ap suc (length_chunks k (drop 2 s))

-- a text by its pairs of digits
module _ (s : Bytes) {i : ℕ} {pairs : List Bytes} (e : pairs ≡ first_chunks 2 (length s / 2) s) (h : i < length pairs) where
  pub inside : i < length s / 2
  inside = omega (arith, ap length e, length_chunks (length s / 2) s)

  high : get_or (get_or pairs i []) 0 0 ≡ get_or s (2 * i) 0
  high = rw e (chunk_at (length s / 2) s i 0 inside (omega arith) ∙ ap (λ (n : ℕ). get_or s n 0) (omega arith))

  low : get_or (get_or pairs i []) 1 0 ≡ get_or s (2 * i + 1) 0
  low = rw e (chunk_at (length s / 2) s i 1 inside (omega arith))

  module _ (x : hexed s ≡ true) where
    pub high_is : is_digit (get_or (get_or pairs i []) 0 0) ≡ true
    high_is = rw high (high_digit s i x inside)

    pub low_is : is_digit (get_or (get_or pairs i []) 1 0) ≡ true
    low_is = rw low (low_digit s i x inside)

  pub byte_put : {d₀ d : Bytes} {at : ℕ} {x y : ℕ} → Putting d₀ d at (bytes_of s) i → at + length (bytes_of s) ≤ length d₀ →
      x ≡ value_of (get_or (get_or pairs i []) 0 0) → y ≡ value_of (get_or (get_or pairs i []) 1 0) → Putting d₀ (set d (at + i) (x * 16 + y)) at (bytes_of s) (i + 1)
  byte_put p room ex ey = rw (ex, ey, high, low, ← bytes_at_lem s i inside) (put_more p room (omega (arith, length_bytes s, inside)))

-- Numbers in decimal: the digits found so far, and those of what is left in the k places before them
pub record Digits (n : ℕ) (d : Bytes) (k m : ℕ) : Type 0 where
  pub small : k ≤ 20
  pub below : m < 10 ^ k
  pub long : length d ≡ 20
  pub rest : decimal n ≡ decimal_from k m (drop k d)

pub digits_begin : (n : ℕ) (d : Bytes) → n < 2 ^ 64 → length d ≡ 20 → Digits n d 20 n
unfolding decimal
digits_begin n d h l =
    let q : length d ≤ 20 = omega arith in
    record { small = omega arith; below = omega arith; long = l; rest = rw (drop_of_length-le d q) }

pub digits_end : {n : ℕ} {d : Bytes} {k m : ℕ} → k ≤ 0 → Digits n d k m → d ≡ decimal n
unfolding decimal_from
digits_end {k = zero} h at = sym at.rest
digits_end {k = suc k} h at = absurd (omega arith)

put_front : (d : Bytes) (i v : ℕ) → i < length d → drop i (set d i v) ≡ v ∷ drop (suc i) d
put_front d i v h = drop-cons (set d i v) i 0 (rw (length-set d i v) h) ∙ rw (get_or-set_same d i v 0 h, drop-set-lt (suc i) d i v (omega arith))

pub next_below : (k m : ℕ) → m < 10 ^ suc k → m / 10 < 10 ^ k
next_below k m h =
    let q : 10 ^ suc k ≡ 10 ^ k * 10 = pow-suc 10 k in
    omega arith

module _ {n : ℕ} {d : Bytes} where
  -- the first digit, and one before which more come
  pub digits_last : (k m : ℕ) → 0 < k → Digits n d k m → m / 10 ≡ 0 → drop (k - 1) (set d (k - 1) (48 + m % 10)) ≡ decimal n
  unfolding decimal_from
  digits_last zero m h at e = absurd (omega arith)
  digits_last (suc k) m h at e =
      let q : suc k - 1 ≡ k = omega arith in
      let r : m % 10 ≡ m = omega arith in
      rw (q, r) (put_front d k (48 + m) (omega (arith, at.small, at.long)) ∙ sym (at.rest ∙ rw (lt-ltb m 10 (omega arith))))

  pub digits_more : (k m : ℕ) → 0 < k → Digits n d k m → (m / 10 ≡ 0 → ⊥) → Digits n (set d (k - 1) (48 + m % 10)) (k - 1) (m / 10)
  unfolding decimal_from
  digits_more zero m h at e = absurd (omega arith)
  digits_more (suc k) m h at e =
      let q : suc k - 1 ≡ k = omega arith in
      let g : 10 ≤ m = omega (arith, e) in
      rw q
      (record {
        small = omega (arith, at.small);
        below = next_below k m at.below;
        long = length-set d k (48 + m % 10) ∙ at.long;
        rest = at.rest ∙ rw (le-ltb m 10 g) (ap (decimal_from k (m / 10)) (sym (put_front d k (48 + m % 10) (omega (arith, at.small, at.long)))));
      })
