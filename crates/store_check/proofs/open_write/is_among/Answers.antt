-- `store_check::open_write::is_among` meets its contract: it is the slice's own test. Assumes nothing.
use mathlib.Core.Path.{◌≡◌, refl, sym, ◌∙◌}
use mathlib.Core.Bool.{Bool, true, false, ◌||◌}
use mathlib.Core.List.{List, [], ◌∷◌}
use Prim.Native.Nat.{ℕ}
use borrow.Author.Tests.{eqb-true, eqb-false}
use Rattle.std.specs.List.{list_any}
use lib.Dec.{eqb}
use lib.ListN.{take}
use Rattle.model.specs.Bytes.{has}
use Rattle.model.proofs.ByteLaws.{has_here, has_past}
use Rattle.store_check.proofs.open_write.is_among.Goals as goal

any_has : (k : ℕ) (l : List ℕ) → list_any (λ y. eqb y k) l ≡ has k l
any_has k [] = refl
any_has k (x ∷ l) = go (eqb x k) refl (any_has k l)
  where
    go : (b : Bool) → eqb x k ≡ b → list_any (λ y. eqb y k) l ≡ has k l → (b || list_any (λ y. eqb y k) l) ≡ has k (x ∷ l)
    go true e ih = sym (has_here k x l (eqb-true x k e))
    go false e ih = ih ∙ sym (has_past k x l (eqb-false x k e))

pub returns : goal.returns
returns c = c.contains.ensures.value ∙ any_has c.args.k (take c.args.n c.args.order.now)
