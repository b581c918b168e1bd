-- FIPS 180-4: SHA-1 (sections 4.1.1, 4.2.1, 5.3.1 and 6.1). Assumes nothing.
use Rattle.std.specs.Prelude.{◌≡◌, ℕ, ◌-◌, List, ◌++◌, bit_xor, nat_lt, slice_index, refl}
use Rattle.hash.specs.Word.{ROTL, ◌⊞◌, Ch, Parity, Maj}
use Rattle.hash.specs.Blocks.{pick, words, turns, hashed, big_endian}
use Rattle.hash.specs.declared.sha1.Words.{Words}

-- f_t and K_t
unfoldable pub F : ℕ → ℕ → ℕ → ℕ → ℕ
F t x y z =
    pick (nat_lt t 20) (Ch x y z)
    (pick (nat_lt t 40) (Parity x y z) (pick (nat_lt t 60) (Maj x y z) (Parity x y z)))

unfoldable pub K : ℕ → ℕ
K t =
    pick (nat_lt t 20) 0x5a827999
    (pick (nat_lt t 40) 0x6ed9eba1 (pick (nat_lt t 60) 0x8f1bbcdc 0xca62c1d6))

-- W_t from the words before it, for t from 16: from W_(t-3), W_(t-8), W_(t-14) and W_(t-16)
abbrev pub mix : ℕ → ℕ → ℕ → ℕ → ℕ
mix p q r s = ROTL 1 (bit_xor (bit_xor (bit_xor p q) r) s)

unfoldable pub next : List ℕ → ℕ → ℕ
next ws t = mix (slice_index ws (t - 3)) (slice_index ws (t - 8)) (slice_index ws (t - 14)) (slice_index ws (t - 16))

unfoldable pub schedule : List ℕ → List ℕ
schedule block = words next block 80

-- one turn: the function's value x, the constant k and the word w
unfoldable pub step : ℕ → ℕ → ℕ → Words → Words
step x k w s =
    record {
      a = ROTL 5 s.a ⊞ x ⊞ s.e ⊞ k ⊞ w;
      b = s.a;
      c = ROTL 30 s.b;
      d = s.c;
      e = s.d;
    }

unfoldable pub turn : ℕ → ℕ → Words → Words
turn t w s = step (F t s.b s.c s.d) (K t) w s

-- the sums of two hash values, word by word
unfoldable pub sums : Words → Words → Words
sums x y =
    record
    { a = x.a ⊞ y.a; b = x.b ⊞ y.b; c = x.c ⊞ y.c; d = x.d ⊞ y.d; e = x.e ⊞ y.e }

-- H of a block, from the H before it
unfoldable pub compress : Words → List ℕ → Words
compress h block = sums (turns turn (schedule block) h 80) h

unfoldable pub initial : Words
initial =
    record
    { a = 0x67452301; b = 0xefcdab89; c = 0x98badcfe; d = 0x10325476; e = 0xc3d2e1f0 }

-- the five words of the SHA-1 of a message
unfoldable pub sha1 : List ℕ → Words
sha1 m = hashed compress initial m

-- the bytes of a hash value
unfoldable pub bytes : Words → List ℕ
bytes w = big_endian 4 w.a ++ (big_endian 4 w.b ++ (big_endian 4 w.c ++ (big_endian 4 w.d ++ (big_endian 4 w.e))))

-- a message is hashed in its padded form, block by block
pub by_blocks : (m : List ℕ) → hashed compress initial m ≡ sha1 m
unfolding sha1
by_blocks m = refl
