-- The front parts of a path. Assumes nothing.
use Rattle.std.specs.Prelude.{[], ◌∷◌, ◌++◌}
use Rattle.model.specs.Bytes.{Bytes}

-- what the names below the path p are appended to: p and a slash, or nothing for the root
abbrev pub lead : Bytes → Bytes
lead [] = []
lead (b ∷ bs) = (b ∷ bs) ++ (47 ∷ [])
