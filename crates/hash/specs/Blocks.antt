-- FIPS 180-4, sections 5.1.1, 5.2.1 and 6: what SHA-1 and SHA-256 share. A message is a list of bytes. Assumes nothing.
use Rattle.std.specs.Prelude.{ℕ, zero, suc, ◌-◌, ◌*◌, ◌/◌, ◌%◌, ◌^◌, Bool, true, false, List, [], ◌∷◌, ◌++◌, length, take, drop, replicate, nat_lt, slice_index}
use Rattle.hash.specs.Word.{word_at}

abbrev pub pick : {A : Type 0} → Bool → A → A → A
pick true x y = x
pick false x y = y

-- The message schedule of a block: the first t words. W_t is the block's word M_t for t below 16,
-- and is computed from the words before it by `next` from there on.
unfoldable pub word_of : (List ℕ → ℕ → ℕ) → List ℕ → ℕ → List ℕ → ℕ
word_of next block t ws = pick (nat_lt t 16) (word_at block (4 * t)) (next ws t)

unfoldable pub words : (List ℕ → ℕ → ℕ) → List ℕ → ℕ → List ℕ
words next block zero = []
words next block (suc t) =
    let ws = words next block t in
    ws ++ (word_of next block t ws ∷ [])

-- The first t turns over the words W.
unfoldable pub turns : {S : Type 0} → (ℕ → ℕ → S → S) → List ℕ → S → ℕ → S
turns f W s zero = s
turns f W s (suc t) = f t (slice_index W t) (turns f W s t)

-- The zero bytes between the byte 0x80 and the length: as many as bring a message of n bytes to 8 short of a multiple of 64.
unfoldable pub zeros : ℕ → ℕ
zeros n = (119 - n % 64) % 64

-- x in k bytes, the highest first
unfoldable pub big_endian : ℕ → ℕ → List ℕ
big_endian zero x = []
big_endian (suc k) x = x / 256 ^ k % 256 ∷ big_endian k x

-- words in bytes, the highest of each word first
unfoldable pub in_bytes : List ℕ → List ℕ
in_bytes [] = []
in_bytes (w ∷ ws) = big_endian 4 w ++ in_bytes ws

-- What is appended to a message of n bytes: the bit 1, zeros, and the length in bits, in 64 bits.
unfoldable pub padding : ℕ → List ℕ
padding n = 128 ∷ (replicate (zeros n) 0 ++ big_endian 8 (8 * n))

unfoldable pub padded : List ℕ → List ℕ
padded m = m ++ padding (length m)

-- The hash value after n blocks of 64 bytes, in order, from the hash value h.
unfoldable pub run : {H : Type 0} → (H → List ℕ → H) → H → ℕ → List ℕ → H
run f h zero m = h
run f h (suc n) m = run f (f h (take 64 m)) n (drop 64 m)

-- The hash value of a message: its padded form, block by block.
unfoldable pub hashed : {H : Type 0} → (H → List ℕ → H) → H → List ℕ → H
hashed f h m = run f h (length (padded m) / 64) (padded m)
