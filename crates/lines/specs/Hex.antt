-- Lower-case hex: two digits a byte, the high one first. Assumes nothing.
use Rattle.std.specs.Prelude.{ℕ, ◌+◌, ◌-◌, ◌*◌, ◌/◌, ◌%◌, [], ◌∷◌, Bool, true, false, cond, ◌&&◌, leb, ltb}
use Rattle.model.specs.Bytes.{Bytes}

-- whether a byte is one of 0 to 9 (48 to 57) and a to f (97 to 102), and what it says
abbrev pub is_digit : ℕ → Bool
is_digit b = cond (leb b 57) (leb 48 b) (leb 97 b && leb b 102)

abbrev pub value_of : ℕ → ℕ
value_of b = cond (leb b 57) (b - 48) (b - 87)

-- whether a text is digits, an even number of them, and the bytes that it says
unfoldable pub hexed : Bytes → Bool
hexed [] = true
hexed (h ∷ []) = false
hexed (h ∷ l ∷ s) = is_digit h && (is_digit l && hexed s)

unfoldable pub bytes_of : Bytes → Bytes
bytes_of [] = []
bytes_of (h ∷ []) = []
bytes_of (h ∷ l ∷ s) = (value_of h * 16 + value_of l) ∷ bytes_of s

-- the text that says these bytes
abbrev pub digit_for : ℕ → ℕ
digit_for n = cond (ltb n 10) (48 + n) (87 + n)

unfoldable pub hex_of : Bytes → Bytes
hex_of [] = []
hex_of (b ∷ bs) = digit_for (b / 16) ∷ digit_for (b % 16) ∷ hex_of bs
