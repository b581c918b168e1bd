-- The slots that a write has taken are used, different and hidden exactly where they can be set in the free map, which is the hidden one then. Assumes nothing.
use mathlib.Core.Path.{◌≡◌, refl, sym, ap, ◌∙◌}
use mathlib.Core.Bool.{true}
use mathlib.Core.List.{List}
use Prim.Native.Nat.{ℕ, ◌+◌, ◌^◌, ◌≤◌, ◌<◌}
use native.Mathlib.Omega.{arith}
use Rattle.std.specs.Prelude.{Option, Some, None}
use Rattle.std.specs.Option.{option_eq}
use Rattle.model.proofs.Basics.{all_map, no_way}
use Rattle.store_runs.specs.Digits.{digits}
use Rattle.store_runs.proofs.DigitLaws.{length_digits}
use Rattle.store_slots.specs.View.{Used, taken_of, Opened}
use Rattle.store_slots.specs.declared.Record.{Record}
use lib.Dec.{eqb}
use Rattle.store_check.specs.Decides.{Decides}
use Rattle.store_check.specs.Written.{markable, Marks}
use Rattle.store_check.proofs.Deciding.{refuses}
use Rattle.store_check.proofs.DecideLaws.{decides_eq}
use Rattle.store_check.proofs.MarkLaws.{Clear, markable_clear, clear_markable, digits_tell}

module _ (r : Record) (order : List ℕ) where
  abbrev D : List ℕ
  D = digits 64 r.free

  may : Opened r order → markable (taken_of r order) D ≡ true
  may o = clear_markable (taken_of r order) D (all_map (Used r) (Clear D) (λ k u. record { low = omega (arith, length_digits 64 r.free, u.low); unset = u.used }) (taken_of r order) o.used) o.apart

  pub not_opened : Marks (taken_of r order) r.free None → Opened r order → ⊥
  not_opened m o = no_way (sym (may o) ∙ m)

  module _ (map : ℕ) (m : Marks (taken_of r order) r.free (Some map)) where
    pub opened_of : r.«open» ≤ 2 → r.aside + r.stacked ≤ 63 → map ≡ r.hidden → Opened r order
    opened_of f g e =
        let (c, d) = markable_clear (taken_of r order) D m.0 in
        record {
          from = f;
          room = g;
          used = all_map (Clear D) (Used r) (λ k x. record { low = omega (arith, length_digits 64 r.free, x.low); used = x.unset }) (taken_of r order) c;
          apart = d;
          hidden = ap (digits 64) (sym e) ∙ m.1;
        }

    pub hidden_of : map < 2 ^ 64 → r.hidden < 2 ^ 64 → Opened r order → map ≡ r.hidden
    hidden_of f g o = digits_tell 64 map r.hidden f g (m.1 ∙ sym o.hidden)

-- the test of the map
pub taken_decides : (r : Record) (order : List ℕ) (o : Option ℕ) → r.«open» ≤ 2 → r.aside + r.stacked ≤ 63 → r.hidden < 2 ^ 64 → ((map : ℕ) → o ≡ Some map → map < 2 ^ 64) → Marks (taken_of r order) r.free o → Decides (Opened r order) (option_eq eqb o (Some r.hidden))
taken_decides r order None f g h k m = refuses (not_opened r order m)
taken_decides r order (Some map) f g h k m = decides_eq map r.hidden (opened_of r order map m f g) (hidden_of r order map m (k map refl) h)
