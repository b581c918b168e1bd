-- What is written: numbers in decimal, and lines of a key and a value, into lent bytes. Assumes nothing.
use Rattle.std.specs.Prelude.{ℕ, zero, suc, ◌+◌, ◌/◌, ◌%◌, [], ◌∷◌, ◌++◌, cond, leb, ltb, length}
use Rattle.std.proofs.Math.Option.{Option, none, some}
use Rattle.model.specs.Bytes.{Bytes}
use Rattle.names.specs.Splice.{splice}
use Rattle.lines.specs.Hex.{hexed, bytes_of}

-- a number's decimal digits, found from the last one on, before those that are after them; at most so many
unfoldable pub decimal_from : ℕ → ℕ → Bytes → Bytes
decimal_from zero n after = after
decimal_from (suc most) n after =
    let rest = decimal_from most (n / 10) ((48 + n % 10) ∷ after) in
    cond (ltb n 10) ((48 + n) ∷ after) rest

-- a number of at most twenty digits, as each of 64 bits is
unfoldable pub decimal : ℕ → Bytes
decimal n = decimal_from 20 n []

-- a line: its key, `=` (61), its value, a newline (10)
abbrev pub key_of : Bytes → Bytes
key_of key = key ++ (61 ∷ [])

abbrev pub line_of : Bytes → Bytes → Bytes
line_of key value = (key_of key ++ value) ++ (10 ∷ [])

-- What a write gives: the place after it, if it was done, and the bytes afterwards
pub record Written : Type 0 where
  pub next : Option ℕ
  pub out : Bytes

-- a text written from a place on, where it fits; otherwise nothing is changed
unfoldable pub written : Bytes → ℕ → Bytes → Written
written d at s = cond (leb (at + length s) (length d)) (record { next = some (at + length s); out = splice d at s }) (record { next = none; out = d })

-- the bytes that a text in hex says, written so; nothing is changed where it is none
unfoldable pub decoded : Bytes → ℕ → Bytes → Written
decoded d at s = cond (hexed s) (written d at (bytes_of s)) (record { next = none; out = d })
