-- The id that Git gives an object: the hash of its kind, a space (32), its length in decimal, a NUL and its bytes. Assumes nothing.
use Rattle.std.specs.Prelude.{◌≡◌, refl, ℕ, [], ◌∷◌, ◌++◌, Bool, true, false, eqb, length}
use Rattle.hash.specs.Sha1 as one
use Rattle.hash.specs.Sha256 as two
use Rattle.lines.specs.Texts.{decimal}
use Rattle.model.specs.Bytes.{Bytes}

unfoldable pub header : Bytes → ℕ → Bytes
header kind n = ((kind ++ (32 ∷ [])) ++ decimal n) ++ (0 ∷ [])

-- a hash's bytes: those of SHA-256, or of SHA-1
unfoldable pub hashed_by : Bool → Bytes → Bytes
hashed_by true m = two.bytes (two.sha256 m)
hashed_by false m = one.bytes (one.sha1 m)

pub by_sha1 : (m : Bytes) → one.bytes (one.sha1 m) ≡ hashed_by (eqb 20 32) m
unfolding hashed_by
by_sha1 m = refl

pub by_sha256 : (m : Bytes) → two.bytes (two.sha256 m) ≡ hashed_by (eqb 32 32) m
unfolding hashed_by
by_sha256 m = refl

-- by the width of ids: SHA-256 for 32 bytes, else SHA-1
unfoldable pub object_id : ℕ → Bytes → Bytes → Bytes
object_id w kind body = hashed_by (eqb w 32) (header kind (length body) ++ body)

-- `blob` and `tree`
abbrev pub blob : Bytes
blob = 98 ∷ 108 ∷ 111 ∷ 98 ∷ []

abbrev pub tree : Bytes
tree = 116 ∷ 114 ∷ 101 ∷ 101 ∷ []

abbrev pub tree_id : ℕ → Bytes → Bytes
tree_id w raw = object_id w tree raw
