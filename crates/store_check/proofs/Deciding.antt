-- Laws of tests. Assumes nothing.
use mathlib.Core.Path.{◌≡◌, refl, sym, ◌∙◌}
use mathlib.Core.Bool.{Bool, true, false}
use Rattle.model.proofs.Basics.{no_way}
use Rattle.store_check.specs.Decides.{Decides}

pub accepts : {P : Type 0} → P → Decides P true
accepts p = record { yes = λ e. p; no = λ q. refl }

pub refuses : {P : Type 0} → (P → ⊥) → Decides P false
refuses n = record { yes = λ e. no_way (sym e); no = λ p. absurd (n p) }

pub refused : {P : Type 0} {b : Bool} → Decides P b → b ≡ false → P → ⊥
refused d e p = no_way (sym (d.no p) ∙ e)

pub instead : {P Q : Type 0} {b : Bool} → Decides P b → (P → Q) → (Q → P) → Decides Q b
instead d f g = record { yes = λ e. f (d.yes e); no = λ q. d.no (g q) }
