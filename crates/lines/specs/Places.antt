-- Where the value of a line stands in a text: the same lines, by places. Assumes nothing.
use Rattle.std.specs.Prelude.{ℕ, ◌+◌, ◌-◌, cond, ltb, length, take, drop}
use Rattle.std.proofs.Math.Option.{Option, none, some}
use Rattle.model.specs.Bytes.{Bytes}
use Rattle.names.specs.Places.{index_of}
use Rattle.lines.specs.Lines.{starts}

-- a part of a text, the bytes there, and the place after the newline that follows it
pub record Part : Type 0 where
  pub at : ℕ
  pub len : ℕ

abbrev pub text_at : Bytes → Part → Bytes
text_at s p = take p.len (drop p.at s)

abbrev pub past : Part → ℕ
past p = p.at + p.len + 1

-- how long the line at a place is, and where its value stands, if a newline ends it and it begins with the key
abbrev pub line_len : Bytes → ℕ → ℕ
line_len s at = index_of 10 (drop at s)

unfoldable pub value_at : Bytes → Bytes → ℕ → Option Part
value_at key s at =
    cond (ltb (line_len s at) (length (drop at s)))
    (cond (starts key (take (line_len s at) (drop at s))) (some (record { at = at + length key; len = line_len s at - length key })) none)
    none

-- what a line says, and where the next one starts
pub record Told (A : Type 0) : Type 0 where
  pub what : A
  pub next : ℕ

abbrev pub told : {A : Type 0} → Option A → ℕ → Option (Told A)
told none n = none
told (some a) n = some (record { what = a; next = n })

abbrev pub bind : {A B : Type 0} → Option A → (A → Option B) → Option B
bind none f = none
bind (some a) f = f a
