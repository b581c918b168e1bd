-- `editor_write_steps::scan::put_name` meets its contract: the name stands behind the path's lead. Assumes nothing.
use native.Mathlib.Omega.{arith}
use mathlib.Core.Path.{◌≡◌, ap, ◌∙◌}
use lib.ListN.{length, take}
use Prim.Native.Nat.{ℕ, ◌+◌, ◌≤◌}
use Rattle.model.specs.Bytes.{Bytes}
use Rattle.model.specs.Paths.{join}
use Rattle.names.specs.Splice.{splice}
use Rattle.names.specs.Fronts.{lead}
use Rattle.names.proofs.FrontLaws.{name_after, lead_stays}
use Rattle.editor_write_steps.proofs.scan.put_name.Goals as goal

-- a name behind the lead
behind : (d d₁ m : Bytes) (n e : ℕ) → n ≤ length d → e ≡ n + length m → d₁ ≡ splice d n m → (p : Bytes) → take n d ≡ lead p → (take e d₁ ≡ join p m) × (take n d₁ ≡ lead p)
behind d d₁ m n e h l w p f = (ap (λ (k : ℕ). take k d₁) l ∙ ap (take (n + length m)) w ∙ name_after d p n f h m, ap (take n) w ∙ lead_stays d p n f h m)

pub returns : goal.returns
returns c = (omega (arith, c.put.ensures.value, c.requires), omega (arith, c.put.auto.out, c.told-buf), behind _ _ _ c.args.n _ (omega (arith, c.requires, c.told-buf)) c.put.ensures.value c.put.ensures.out_after)
