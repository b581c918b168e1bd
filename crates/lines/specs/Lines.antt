-- Lines: a text cut at its newlines, and what a line says after its key. Assumes nothing.
use Rattle.std.specs.Prelude.{ℕ, List, [], ◌∷◌, Bool, cond, eqb, length, take, drop}
use Rattle.std.proofs.Math.Option.{Option, none, some}
use Rattle.model.specs.Bytes.{Bytes, same}

-- A line is the bytes before its newline (10). Bytes after the last newline are a line too, which none ends: it breaks the form wherever it stands.
pub data Line : Type 0 where
  whole : Bytes → Line
  cut : Line

abbrev pub onto_line : ℕ → List Line → List Line
onto_line b [] = cut ∷ []
onto_line b (whole l ∷ ls) = whole (b ∷ l) ∷ ls
onto_line b (cut ∷ ls) = cut ∷ ls

unfoldable pub lines : Bytes → List Line
lines [] = []
lines (b ∷ bs) = let r = lines bs in cond (eqb b 10) (whole [] ∷ r) (onto_line b r)

-- what a line says after its key, if it begins with that
abbrev pub starts : Bytes → Bytes → Bool
starts key l = same (take (length key) l) key

unfoldable pub said : Bytes → Bytes → Option Bytes
said key l = cond (starts key l) (some (drop (length key) l)) none
