-- Bytes as one number. Assumes nothing.
use Rattle.std.specs.Prelude.{ℕ, zero, suc, ◌+◌, ◌*◌, ◌/◌, ◌%◌, ◌≤◌, ◌≡◌, [], ◌∷◌, take, drop}
use Rattle.model.specs.Bytes.{Bytes}

-- the number that the bytes say after those that say n, the first the highest
unfoldable pub number : ℕ → Bytes → ℕ
number n [] = n
number n (x ∷ l) = number (n * 256 + x) l

-- the number that the bytes say, the first the lowest
unfoldable pub low_number : Bytes → ℕ
low_number [] = 0
low_number (x ∷ l) = x + 256 * low_number l

-- and so many bytes of a number, the lowest first
unfoldable pub bytes_of : ℕ → ℕ → Bytes
bytes_of zero w = []
bytes_of (suc n) w = w % 256 ∷ bytes_of n (w / 256)

-- w is the number of the eight bytes from k on, the first the lowest
pub record LowAt (s : Bytes) (k w : ℕ) : Type 0 where
  pub is : w ≡ low_number (take 8 (drop k s))
  pub back : bytes_of 8 w ≡ take 8 (drop k s)

-- two names begin with i bytes alike, and the next eight differ where the first n bytes have eight more
pub record AlikeTo (a b : Bytes) (n i : ℕ) : Type 0 where
  pub within : i ≤ n
  pub same : take i a ≡ take i b
  pub stop : i + 8 ≤ n → take 8 (drop i a) ≡ take 8 (drop i b) → ⊥
