-- A message that comes a part at a time, for any hash of blocks of 64 bytes. Assumes nothing.
use Rattle.std.specs.Prelude.{◌≡◌, ℕ, ◌+◌, ◌*◌, ◌/◌, ◌%◌, List, ◌++◌, length, take, drop}
use Rattle.hash.specs.Blocks.{run}

-- The hash of blocks f from h has taken in the message m, of n bytes: its whole blocks are in `words`, and the rest of it is at the front of `block`.
pub record Holds {H : Type 0} (f : H → List ℕ → H) (h words : H) (block : List ℕ) (n : ℕ) (m : List ℕ) : Type 0 where
  pub count : n ≡ length m
  pub blocks : words ≡ run f h (n / 64) m
  pub rest : take (n % 64) block ≡ drop (64 * (n / 64)) m

-- What has taken in m has taken in m and then s: the hash value, the block and the length go from w, b and n to w', b' and n'.
pub record Grown {H : Type 0} (f : H → List ℕ → H) (h w : H) (b : List ℕ) (n : ℕ) (s : List ℕ) (w' : H) (b' : List ℕ) (n' : ℕ) : Type 0 where
  pub count : n' ≡ n + length s
  pub holds : (m : List ℕ) → Holds f h w b n m → Holds f h w' b' n' (m ++ s)
