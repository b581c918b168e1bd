-- A map of slots: digit s of the word, counted from the lowest, is 1 where the slot s is set. Assumes nothing.
use Rattle.std.specs.Prelude.{ℕ, zero, suc, ◌/◌, ◌%◌, List, [], ◌∷◌}

-- the k lowest binary digits of n, lowest first
unfoldable pub digits : ℕ → ℕ → List ℕ
digits zero n = []
digits (suc k) n = n % 2 ∷ digits k (n / 2)

abbrev pub skip : ℕ → ℕ → ℕ
skip zero t = suc t
skip (suc d) t = zero

-- the place of the first digit that is set; the length where none is
unfoldable pub first_set : List ℕ → ℕ
first_set [] = 0
first_set (d ∷ l) = skip d (first_set l)
