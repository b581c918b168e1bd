-- Facts of the definition: the padding is the least that gives whole blocks, and each word of a hash is below 2 ^ 32. Assumes nothing.
use Rattle.std.proofs.Common.{◌≡◌, ℕ, zero, suc, ◌+◌, ◌*◌, ◌/◌, ◌%◌, ◌^◌, ◌<◌, ◌≤◌, List, ◌∷◌, ◌++◌, length, take, drop, replicate, ◌∙◌, mod-lt, arith, lit<, length-append}
use lib.ListN.{length-replicate}
use Rattle.hash.specs.Blocks.{zeros, big_endian, padding, padded, run, hashed}
use Rattle.hash.specs.Sha1 as one
use Rattle.hash.specs.Sha256 as two
use Rattle.hash.specs.declared.sha1.Words as words1
use Rattle.hash.specs.declared.sha256.Words as words2

-- the zero bytes are the least number that brings the padded message to a multiple of 64 bytes
pub zeros_fit : (n : ℕ) → (n + 1 + zeros n + 8) % 64 ≡ 0
unfolding zeros
zeros_fit n = omega arith

pub zeros_least : (n k : ℕ) → (n + 1 + k + 8) % 64 ≡ 0 → zeros n ≤ k
unfolding zeros
zeros_least n k h = omega arith

pub padded_length : (m : List ℕ) → length (padded m) ≡ length m + 1 + zeros (length m) + 8
unfolding padded padding big_endian
padded_length m =
    let n = length m in
    let z : List ℕ = replicate (zeros n) 0 in
    length-append m (128 ∷ (z ++ big_endian 8 (8 * n)))
    ∙ omega (arith, length-append z (big_endian 8 (8 * n)), length-replicate {A = ℕ} (zeros n) 0)

pub padded_whole : (m : List ℕ) → length (padded m) % 64 ≡ 0
padded_whole m = omega (arith, padded_length m, zeros_fit (length m))

-- what holds at first, and of the hash of a block, holds of the hash of a message
run_keeps : {H : Type 0} (P : H → Type 0) (f : H → List ℕ → H) → ((h : H) (b : List ℕ) → P (f h b))
    → (h : H) (n : ℕ) (m : List ℕ) → P h → P (run f h n m)
unfolding run
run_keeps P f p h zero m a = a
run_keeps P f p h (suc n) m a = run_keeps P f p (f h (take 64 m)) n (drop 64 m) (p h (take 64 m))

small : (x : ℕ) → x % 2 ^ 32 < 2 ^ 32
small x = mod-lt x (lit< tt)

-- each word of a SHA-1 is below 2 ^ 32
pub below1 : (m : List ℕ) → let w = one.sha1 m in (w.a < 2 ^ 32) × (w.b < 2 ^ 32) × (w.c < 2 ^ 32) × (w.d < 2 ^ 32) × (w.e < 2 ^ 32)
unfolding one.sha1 hashed one.compress one.sums one.initial
below1 m =
    run_keeps
    (λ (w : words1.Words). (w.a < 2 ^ 32) × (w.b < 2 ^ 32) × (w.c < 2 ^ 32) × (w.d < 2 ^ 32) × (w.e < 2 ^ 32))
    one.compress
    (λ h b. (small _, small _, small _, small _, small _))
    one.initial
    (length (padded m) / 64)
    (padded m)
    (lit< tt, lit< tt, lit< tt, lit< tt, lit< tt)

-- and each word of a SHA-256
pub below2 : (m : List ℕ) → let w = two.sha256 m in (w.a < 2 ^ 32) × (w.b < 2 ^ 32) × (w.c < 2 ^ 32) × (w.d < 2 ^ 32) × (w.e < 2 ^ 32) × (w.f < 2 ^ 32) × (w.g < 2 ^ 32) × (w.h < 2 ^ 32)
unfolding two.sha256 hashed two.compress two.sums two.initial
below2 m =
    run_keeps
    (λ (w : words2.Words). (w.a < 2 ^ 32) × (w.b < 2 ^ 32) × (w.c < 2 ^ 32) × (w.d < 2 ^ 32) × (w.e < 2 ^ 32) × (w.f < 2 ^ 32) × (w.g < 2 ^ 32) × (w.h < 2 ^ 32))
    two.compress
    (λ h b. (small _, small _, small _, small _, small _, small _, small _, small _))
    two.initial
    (length (padded m) / 64)
    (padded m)
    (lit< tt, lit< tt, lit< tt, lit< tt, lit< tt, lit< tt, lit< tt, lit< tt)
