-- `store_check::tag::by_four` meets its contract: it takes the four words. Assumes nothing.
use mathlib.Core.Path.{◌≡◌, ap₂, ◌∙◌, refl}
use Prim.Native.Nat.{ℕ, ◌-◌, ◌*◌, ◌/◌, ◌%◌}
use lib.ListN.{length}
use Rattle.model.specs.Bytes.{Bytes}
use Rattle.store_check.specs.Tag.{word_at, turned, by_four}
use Rattle.store_check.proofs.tag.by_four.Goals as goal

-- one word more
more : {h g v w r : ℕ} → h ≡ g → v ≡ w → r ≡ turned h v → r ≡ turned g w
more e f q = q ∙ ap₂ turned e f

four : (p : Bytes) (u₁ h₁ u₂ h₂ u₃ h₃ u₄ h₄ : ℕ) → u₁ ≡ word_at p 0 → h₁ ≡ turned (length p % 65536) u₁ → u₂ ≡ word_at p (length p / 8 * 4) → h₂ ≡ turned h₁ u₂ →
    u₃ ≡ word_at p (length p - 4 - length p / 8 * 4) → h₃ ≡ turned h₂ u₃ → u₄ ≡ word_at p (length p - 4) → h₄ ≡ turned h₃ u₄ → h₄ ≡ by_four p
four p u₁ h₁ u₂ h₂ u₃ h₃ u₄ h₄ a b c d e f g h = more (more (more (more {h = length p % 65536} refl a b) c d) e f) g h

pub returns : goal.returns
returns c =
    four c.args.path.now _ _ _ _ _ _ _ _ c.word_at.ensures c.rotate_xor-h.ensures c.word_at-2.ensures c.rotate_xor-g.ensures c.word_at-3.ensures c.rotate_xor.ensures
    c.word_at-4.ensures c.rotate_xor-2.ensures
