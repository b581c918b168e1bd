-- Numbers read from decimal digits: those without leading zeros, of any length. Assumes nothing.
use Rattle.std.specs.Prelude.{ℕ, ◌+◌, ◌-◌, ◌*◌, [], ◌∷◌, Bool, cond, ◌&&◌, not, leb, eqb}
use Rattle.std.proofs.Math.Option.{Option, none, some}
use Rattle.model.specs.Bytes.{Bytes, is_nil}

-- whether a byte is one of 0 to 9 (48 to 57)
abbrev pub is_decimal : ℕ → Bool
is_decimal b = leb 48 b && leb b 57

-- the number that digits say behind those that said m; none where a byte is no digit
unfoldable pub says_after : ℕ → Bytes → Option ℕ
says_after m [] = some m
says_after m (b ∷ s) = cond (is_decimal b) (says_after (m * 10 + (b - 48)) s) none

-- The number that a text says: digits alone, at least one, and the first is 0 only where it is the last. It may be of any size
unfoldable pub number_of : Bytes → Option ℕ
number_of [] = none
number_of (b ∷ s) = cond (eqb b 48 && not (is_nil s)) none (says_after 0 (b ∷ s))

-- A number as code holds it: 2^62 stands for itself and for all above it
abbrev pub most : ℕ
most = 4611686018427387904

abbrev pub capped : ℕ → ℕ
capped n = cond (leb n most) n most

abbrev pub held : Option ℕ → Option ℕ
held none = none
held (some n) = some (capped n)
