-- Setting digits keeps their number, and leaves the digits of other places. Assumes nothing.
use mathlib.Core.Path.{◌≡◌, refl, sym, ◌∙◌}
use mathlib.Core.Bool.{false}
use mathlib.Core.List.{List, [], ◌∷◌}
use Prim.Native.Nat.{ℕ}
use lib.ListN.{length, get_or, length-set}
use lib.Seq.{get_or-set_other}
use Rattle.model.specs.Bytes.{has}
use Rattle.model.proofs.Basics.{no_way}
use Rattle.model.proofs.ByteLaws.{has_here, has_past}
use Rattle.store_slots.specs.View.{marked}

pub length_marked : (ks ds : List ℕ) → length (marked ks ds) ≡ length ds
unfolding marked
length_marked [] ds = refl
length_marked (k ∷ ks) ds = length-set (marked ks ds) k 1 ∙ length_marked ks ds

-- the digit of a place that is not among those set
pub marked_other : (j : ℕ) (ks ds : List ℕ) → has j ks ≡ false → get_or (marked ks ds) j 0 ≡ get_or ds j 0
unfolding marked
marked_other j [] ds h = refl
marked_other j (k ∷ ks) ds h = get_or-set_other (marked ks ds) k j 1 0 (λ e. no_way (sym (has_here j k ks (sym e)) ∙ h)) ∙ marked_other j ks ds (sym (has_past j k ks (λ e. no_way (sym (has_here j k ks e) ∙ h))) ∙ h)
