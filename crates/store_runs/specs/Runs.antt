-- Runs of bytes that lie end to end in one slice, with their lengths in another. Assumes nothing.
use Rattle.std.specs.Prelude.{◌≡◌, ℕ, zero, suc, ◌+◌, ◌≤◌, List, [], ◌∷◌, length, take, drop, get_or}
use Rattle.store_runs.specs.Moves.{part}

-- the sum of a list
unfoldable pub total : List ℕ → ℕ
total [] = 0
total (n ∷ l) = n + total l

-- the view: the runs of these lengths, from the front of the bytes
unfoldable pub cut : List ℕ → List ℕ → List (List ℕ)
cut [] b = []
cut (n ∷ l) b = take n b ∷ cut l (drop n b)

-- the run k of the view, read where it lies
abbrev pub run_of : List ℕ → List ℕ → ℕ → List ℕ
run_of lens bytes k = part bytes (total (take k lens)) (get_or lens k 0)

-- the runs with the run s changed by f
unfoldable pub with_run : ℕ → (List ℕ → List ℕ) → List (List ℕ) → List (List ℕ)
with_run s f [] = []
with_run zero f (r ∷ rs) = f r ∷ rs
with_run (suc s) f (r ∷ rs) = r ∷ with_run s f rs

-- what every call asks: the lengths add up to the bytes in use, which the slice has
pub record Sound (lens bytes : List ℕ) (used : ℕ) : Type 0 where
  pub sum : total lens ≡ used
  pub fits : used ≤ length bytes
