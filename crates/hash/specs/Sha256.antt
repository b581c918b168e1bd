-- FIPS 180-4: SHA-256 (sections 4.1.2, 4.2.2, 5.3.3 and 6.2). Assumes nothing.
use Rattle.std.specs.Prelude.{◌≡◌, ℕ, ◌-◌, List, [], ◌∷◌, ◌++◌, bit_xor, slice_index, refl}
use Rattle.hash.specs.Word.{ROTR, SHR, ◌⊞◌, Ch, Maj}
use Rattle.hash.specs.Blocks.{words, turns, hashed, big_endian}
use Rattle.hash.specs.declared.sha256.Words.{Words}

-- Σ0, Σ1, σ0 and σ1
abbrev pub big0 : ℕ → ℕ
big0 x = bit_xor (bit_xor (ROTR 2 x) (ROTR 13 x)) (ROTR 22 x)

abbrev pub big1 : ℕ → ℕ
big1 x = bit_xor (bit_xor (ROTR 6 x) (ROTR 11 x)) (ROTR 25 x)

abbrev pub small0 : ℕ → ℕ
small0 x = bit_xor (bit_xor (ROTR 7 x) (ROTR 18 x)) (SHR 3 x)

abbrev pub small1 : ℕ → ℕ
small1 x = bit_xor (bit_xor (ROTR 17 x) (ROTR 19 x)) (SHR 10 x)

-- K_0 to K_63: the first 32 bits of the fractional parts of the cube roots of the first 64 primes
abbrev pub K : List ℕ
K =
    0x428a2f98 ∷ 0x71374491 ∷ 0xb5c0fbcf ∷ 0xe9b5dba5 ∷ 0x3956c25b ∷ 0x59f111f1 ∷ 0x923f82a4 ∷ 0xab1c5ed5 ∷
    0xd807aa98 ∷ 0x12835b01 ∷ 0x243185be ∷ 0x550c7dc3 ∷ 0x72be5d74 ∷ 0x80deb1fe ∷ 0x9bdc06a7 ∷ 0xc19bf174 ∷
    0xe49b69c1 ∷ 0xefbe4786 ∷ 0x0fc19dc6 ∷ 0x240ca1cc ∷ 0x2de92c6f ∷ 0x4a7484aa ∷ 0x5cb0a9dc ∷ 0x76f988da ∷
    0x983e5152 ∷ 0xa831c66d ∷ 0xb00327c8 ∷ 0xbf597fc7 ∷ 0xc6e00bf3 ∷ 0xd5a79147 ∷ 0x06ca6351 ∷ 0x14292967 ∷
    0x27b70a85 ∷ 0x2e1b2138 ∷ 0x4d2c6dfc ∷ 0x53380d13 ∷ 0x650a7354 ∷ 0x766a0abb ∷ 0x81c2c92e ∷ 0x92722c85 ∷
    0xa2bfe8a1 ∷ 0xa81a664b ∷ 0xc24b8b70 ∷ 0xc76c51a3 ∷ 0xd192e819 ∷ 0xd6990624 ∷ 0xf40e3585 ∷ 0x106aa070 ∷
    0x19a4c116 ∷ 0x1e376c08 ∷ 0x2748774c ∷ 0x34b0bcb5 ∷ 0x391c0cb3 ∷ 0x4ed8aa4a ∷ 0x5b9cca4f ∷ 0x682e6ff3 ∷
    0x748f82ee ∷ 0x78a5636f ∷ 0x84c87814 ∷ 0x8cc70208 ∷ 0x90befffa ∷ 0xa4506ceb ∷ 0xbef9a3f7 ∷ 0xc67178f2 ∷ []

-- W_t from the words before it, for t from 16: from W_(t-2), W_(t-7), W_(t-15) and W_(t-16)
abbrev pub mix : ℕ → ℕ → ℕ → ℕ → ℕ
mix p q r s = small1 p ⊞ q ⊞ small0 r ⊞ s

unfoldable pub next : List ℕ → ℕ → ℕ
next ws t = mix (slice_index ws (t - 2)) (slice_index ws (t - 7)) (slice_index ws (t - 15)) (slice_index ws (t - 16))

unfoldable pub schedule : List ℕ → List ℕ
schedule block = words next block 64

-- T1 and T2
unfoldable pub T1 : ℕ → ℕ → Words → ℕ
T1 k w s = s.h ⊞ big1 s.e ⊞ Ch s.e s.f s.g ⊞ k ⊞ w

unfoldable pub T2 : Words → ℕ
T2 s = big0 s.a ⊞ Maj s.a s.b s.c

-- one turn, with the constant k and the word w
unfoldable pub step : ℕ → ℕ → Words → Words
step k w s =
    record {
      a = T1 k w s ⊞ T2 s;
      b = s.a;
      c = s.b;
      d = s.c;
      e = s.d ⊞ T1 k w s;
      f = s.e;
      g = s.f;
      h = s.g;
    }

-- turn t
unfoldable pub turn : ℕ → ℕ → Words → Words
turn t w s = step (slice_index K t) w s

-- the sums of two hash values, word by word
unfoldable pub sums : Words → Words → Words
sums x y =
    record {
      a = x.a ⊞ y.a;
      b = x.b ⊞ y.b;
      c = x.c ⊞ y.c;
      d = x.d ⊞ y.d;
      e = x.e ⊞ y.e;
      f = x.f ⊞ y.f;
      g = x.g ⊞ y.g;
      h = x.h ⊞ y.h;
    }

-- H of a block, from the H before it
unfoldable pub compress : Words → List ℕ → Words
compress x block = sums (turns turn (schedule block) x 64) x

unfoldable pub initial : Words
initial =
    record {
      a = 0x6a09e667;
      b = 0xbb67ae85;
      c = 0x3c6ef372;
      d = 0xa54ff53a;
      e = 0x510e527f;
      f = 0x9b05688c;
      g = 0x1f83d9ab;
      h = 0x5be0cd19;
    }

-- the eight words of the SHA-256 of a message
unfoldable pub sha256 : List ℕ → Words
sha256 m = hashed compress initial m

-- the bytes of a hash value
unfoldable pub bytes : Words → List ℕ
bytes w = big_endian 4 w.a ++ (big_endian 4 w.b ++ (big_endian 4 w.c ++ (big_endian 4 w.d ++ (big_endian 4 w.e ++ (big_endian 4 w.f ++ (big_endian 4 w.g ++ (big_endian 4 w.h)))))))

-- a message is hashed in its padded form, block by block
pub by_blocks : (m : List ℕ) → hashed compress initial m ≡ sha256 m
unfolding sha256
by_blocks m = refl
