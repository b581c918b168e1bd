-- An answer is decided by what it means, so that each contract of this crate admits but one. Assumes nothing.
use Prim.Native.Nat.{ℕ}
use mathlib.Core.Path.{◌≡◌, refl, ap}
use Rattle.std.specs.Prelude.{Option, Some, None}
use Rattle.model.specs.Bytes.{Bytes}
use Rattle.model.proofs.Basics.{none_some, some_none, some_inj}
use Rattle.lines.specs.Answers.{value_read, number_read, outcome}
use Rattle.lines.specs.Places.{Part}
use Rattle.lines.specs.Texts.{Written}
use Rattle.lines.specs.declared.line.Span.{Span}

abbrev of_part : Part → Option Span
of_part p = Some (record { at = p.at; len = p.len })

pub one_value : (a b : Option Span) → value_read a ≡ value_read b → a ≡ b
one_value (Some s) (Some t) e = ap of_part (some_inj (record { at = s.at; len = s.len }) (record { at = t.at; len = t.len }) e)
one_value (Some s) None e = some_none (record { at = s.at; len = s.len }) e
one_value None (Some t) e = none_some (record { at = t.at; len = t.len }) e
one_value None None e = refl

pub one_number : (a b : Option ℕ) → number_read a ≡ number_read b → a ≡ b
one_number (Some m) (Some n) e = ap Some (some_inj m n e)
one_number (Some m) None e = some_none m e
one_number None (Some n) e = none_some n e
one_number None None e = refl

pub one_outcome : (a b : Option ℕ) (d e : Bytes) → outcome a d ≡ outcome b e → (a ≡ b) × (d ≡ e)
one_outcome (Some m) (Some n) d e q = (ap Some (some_inj m n (ap (λ (w : Written). w.next) q)), ap (λ (w : Written). w.out) q)
one_outcome (Some m) None d e q = some_none m (ap (λ (w : Written). w.next) q)
one_outcome None (Some n) d e q = none_some n (ap (λ (w : Written). w.next) q)
one_outcome None None d e q = (refl, ap (λ (w : Written). w.out) q)
