-- A test of two numbers decides what comes to their equality. Assumes nothing.
use mathlib.Core.Path.{◌≡◌}
use Prim.Native.Nat.{ℕ}
use lib.Dec.{eqb}
use borrow.Author.Tests.{eqb-true, eq-eqb}
use Rattle.store_check.specs.Decides.{Decides}

pub decides_eq : {P : Type 0} (a b : ℕ) → (a ≡ b → P) → (P → a ≡ b) → Decides P (eqb a b)
decides_eq a b f g = record { yes = λ e. f (eqb-true a b e); no = λ p. eq-eqb a b (g p) }
