-- Trees that are broken in one way each, with ids of one byte, and what is made of them. Assumes nothing.
use Rattle.std.specs.Prelude.{ℕ, [], ◌∷◌, ◌++◌, replicate}
use Rattle.model.specs.Bytes.{Bytes}
use Rattle.names_salvage.specs.Mending.{Answer}

-- entries `100644 NAME` and `40000 NAME` with an id of one byte
abbrev pub file : Bytes → ℕ → Bytes
file n i = 49 ∷ 48 ∷ 48 ∷ 54 ∷ 52 ∷ 52 ∷ 32 ∷ (n ++ (0 ∷ i ∷ []))

abbrev pub folder : Bytes → ℕ → Bytes
folder n i = 52 ∷ 48 ∷ 48 ∷ 48 ∷ 48 ∷ 32 ∷ (n ++ (0 ∷ i ∷ []))

abbrev pub a : Bytes
a = 97 ∷ []

abbrev pub b : Bytes
b = 98 ∷ []

-- an output of forty bytes
abbrev pub room : Bytes
room = replicate 40 7

abbrev pub done : ℕ → ℕ → ℕ → ℕ → ℕ → ℕ → Bytes → Answer
done len cut bad_name bad_mode double moved out = record { code = 0; len = len; cut = cut; bad_name = bad_name; bad_mode = bad_mode; double = double; moved = moved; out = out }
