-- FIPS 180-4, sections 2.2.2, 3.2, 4.1.1 and 4.1.2: the operations on words of 32 bits.
-- A word is a number below 2 ^ 32. `bit_and`, `bit_or` and `bit_xor` are ∧, ∨ and ⊕, digit by digit. Assumes nothing.
use Rattle.std.specs.Prelude.{ℕ, ◌+◌, ◌-◌, ◌*◌, ◌/◌, ◌%◌, ◌^◌, List, bit_and, bit_or, bit_xor, slice_index}

infixl 65 ◌⊞◌
-- x + y, addition modulo 2 ^ 32
abbrev pub ◌⊞◌ : ℕ → ℕ → ℕ
x ⊞ y = (x + y) % 2 ^ 32

-- ¬ x, the complement
abbrev pub NOT : ℕ → ℕ
NOT x = 2 ^ 32 - 1 - x

-- x << n, with the bits past the word's end dropped
abbrev pub SHL : ℕ → ℕ → ℕ
SHL n x = x * 2 ^ n % 2 ^ 32

-- x >> n
abbrev pub SHR : ℕ → ℕ → ℕ
SHR n x = x / 2 ^ n

-- ROTL n x = (x << n) ∨ (x >> w - n)
abbrev pub ROTL : ℕ → ℕ → ℕ
ROTL n x = bit_or (SHL n x) (SHR (32 - n) x)

-- ROTR n x = (x >> n) ∨ (x << w - n)
abbrev pub ROTR : ℕ → ℕ → ℕ
ROTR n x = bit_or (SHR n x) (SHL (32 - n) x)

-- Ch x y z = (x ∧ y) ⊕ (¬x ∧ z)
abbrev pub Ch : ℕ → ℕ → ℕ → ℕ
Ch x y z = bit_xor (bit_and x y) (bit_and (NOT x) z)

-- Parity x y z = x ⊕ y ⊕ z
abbrev pub Parity : ℕ → ℕ → ℕ → ℕ
Parity x y z = bit_xor (bit_xor x y) z

-- Maj x y z = (x ∧ y) ⊕ (x ∧ z) ⊕ (y ∧ z)
abbrev pub Maj : ℕ → ℕ → ℕ → ℕ
Maj x y z = bit_xor (bit_xor (bit_and x y) (bit_and x z)) (bit_and y z)

-- the word whose four bytes stand at a place of a list, the highest first
abbrev pub word_at : List ℕ → ℕ → ℕ
word_at s at =
    slice_index s at * 16777216 + slice_index s (at + 1) * 65536 + slice_index s (at + 2) * 256 + slice_index s (at + 3)
