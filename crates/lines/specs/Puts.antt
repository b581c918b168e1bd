-- What is written into lent bytes from a place on. Assumes nothing.
use Rattle.std.specs.Prelude.{ℕ, ◌+◌, ◌≤◌, ◌<◌, ◌≡◌, ◌++◌, length, take, Option, Some, None}
use Rattle.model.specs.Bytes.{Bytes}

-- s stands in e behind what d had before the place; n is the place after it
pub record PutAt (d : Bytes) (at : ℕ) (s : Bytes) (n : ℕ) (e : Bytes) : Type 0 where
  pub next : n ≡ at + length s
  pub within : n ≤ length e
  pub long : length e ≡ length d
  pub front : take n e ≡ take at d ++ s

-- it is written whole; or it does not fit
abbrev pub Puts : Bytes → ℕ → Bytes → Option ℕ → Bytes → Type 0
Puts d at s (Some n) e = PutAt d at s n e
Puts d at s None e = length d < at + length s
