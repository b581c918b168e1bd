-- Two ids are equal exactly where their bytes are the same; and what the published id of the empty tree is. Assumes nothing.
use mathlib.Core.Path.{◌≡◌, refl, sym, ◌∙◌}
use mathlib.Core.Bool.{Bool, true, false}
use mathlib.Core.List.{[], ◌∷◌}
use lib.Dec.{eqb}
use lib.Pointwise.{pointwise, bytes_decides}
use Rattle.model.specs.Bytes.{Bytes, same}
use Rattle.model.specs.Formats.{sha1}
use Rattle.model.proofs.ByteLaws.{same_eq, same_of}

pub bytes_same : (a b : Bytes) → pointwise eqb a b ≡ same a b
bytes_same a b = go (pointwise eqb a b) refl (same a b) refl
  where
    go : (x : Bool) → pointwise eqb a b ≡ x → (y : Bool) → same a b ≡ y → pointwise eqb a b ≡ same a b
    go true p y q = p ∙ sym (same_of a b ((bytes_decides a b).0 p))
    go false p true q = (bytes_decides a b).1 (same_eq a b q) ∙ sym q
    go false p false q = p ∙ sym q

abbrev empty : Bytes
empty = 0x4b ∷ 0x82 ∷ 0x5d ∷ 0xc6 ∷ 0x42 ∷ 0xcb ∷ 0x6e ∷ 0xb9 ∷ 0xa0 ∷ 0x60 ∷ 0xe5 ∷ 0x4b ∷ 0xf8 ∷ 0xd6 ∷ 0x92 ∷ 0x88 ∷ 0xfb ∷ 0xee ∷ 0x49 ∷ 0x04 ∷ []

pub is_empty_lem : (a : Bytes) → pointwise eqb a empty ≡ same a sha1.empty_id
unfolding sha1
is_empty_lem a = bytes_same a empty

pub sha1_wide : sha1.width ≡ 20
unfolding sha1
sha1_wide = refl
