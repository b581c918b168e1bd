-- The first used slot with a path. Assumes nothing.
use Rattle.std.specs.Prelude.{Option, Some, None, ℕ, ◌+◌, Bool, true, false, not, ◌&&◌, List, [], ◌∷◌, eqb}
use Rattle.model.specs.Bytes.{same}

-- a slot with the digit d of the free map and the path r is used and at the path p
abbrev pub hit : ℕ → List ℕ → List ℕ → Bool
hit d r p = not (eqb d 1) && same p r

abbrev pub pick : Bool → Option ℕ → Option ℕ → Option ℕ
pick true a b = a
pick false a b = b

-- the first slot from i on that is used and at the path p
unfoldable pub find_from : ℕ → List ℕ → List (List ℕ) → List ℕ → Option ℕ
find_from i [] rs p = None
find_from i (d ∷ ds) [] p = None
find_from i (d ∷ ds) (r ∷ rs) p = pick (hit d r p) (Some i) (find_from (i + 1) ds rs p)
