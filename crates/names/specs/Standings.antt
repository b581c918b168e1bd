-- How two entries that stand next to each other stand to each other. Assumes nothing.
use Prim.Native.Nat.{Ordering}
use Rattle.std.specs.Prelude.{◌≡◌, Bool, true, false}
use Rattle.model.specs.Bytes.{Bytes, cmp}
use Rattle.model.specs.Tree.{as_kind}
use Rattle.names.specs.Check.{besides}
use Rattle.names.specs.declared.neighbour.Standing.{Standing}
use Rattle.names.specs.declared.neighbour.Standing.TheVariants.{Apart, Within, Wrong}

-- how an entry stands to the one before it: it may stand there, and comes after the tree of the name of the one before; it may stand there, and the one before is no tree; it may not
abbrev pub StandsIn : Bytes → Bool → Bytes → Bool → Standing → Type 0
StandsIn p pt n t Apart = (besides p pt n t ≡ true) × (cmp (as_kind true p) (as_kind t n) ≡ Ordering.lt)
StandsIn p pt n t Within = (besides p pt n t ≡ true) × (pt ≡ false)
StandsIn p pt n t Wrong = besides p pt n t ≡ false

pub record StandsAs (p : Bytes) (pt : Bool) (n : Bytes) (t : Bool) (r : Standing) : Type 0 where
  pub is : StandsIn p pt n t r
