-- What a call's arguments mean, by whether the id has 20 bytes and the mode is one of the five. Assumes nothing.
use Prim.Native.Nat.{ℕ}
use mathlib.Core.Path.{◌≡◌, sym, ap, ◌∙◌, subst}
use mathlib.Core.Bool.{Bool, false, cond}
use mathlib.Core.Option.{Option, none, some}
use lib.ListN.{length, take, drop}
use lib.Seq.{take_all}
use native.Mathlib.Omega.{arith}
use borrow.Author.Tests.{eq-eqb}
use Rattle.std.specs.Prelude.{Option as Opt, Some}
use Rattle.model.specs.Bytes.{Bytes}
use Rattle.model.specs.Tree.{Mode}
use Rattle.model.specs.Table.{Table}
use Rattle.model.specs.Editor.{Editor as Model}
use Rattle.model.specs.Formats.{sha1}
use Rattle.model.specs.Walk.{upsert}
use Rattle.model.specs.Calls.{Answer, edited}
use Rattle.model.specs.Write.{answered}
use Rattle.names.specs.Answers.{as_mode, mode_read}
use Rattle.names.specs.Bits.{mode_of_bits}
use Rattle.names.specs.declared.mode.EntryKind.{EntryKind}
use Rattle.editor_terms.specs.Ids.{id_bytes}
use Rattle.editor_terms.specs.declared.id.Id.{Id}
use Rattle.editor.specs.Lent.{Lent, Does}
use Rattle.adapter_numbers.specs.Numbers.{Numbers, put_as, put_by, answer_by}

-- the number of an answer is said in its place
pub does_number : {f : Model → Answer} {s q : Lent} {n code : ℕ} → n ≡ code → Does f s code q → Does f s n q
does_number {f} {s} {q} e d = subst (λ (k : ℕ). Does f s k q) (sym e) d

-- an id of 20 bytes is read whole
pub whole_id : (i : Id) (id : Bytes) → length id ≡ 20 → id_bytes i ≡ take 20 (drop 0 id) → id_bytes i ≡ id
whole_id i id l e = e ∙ take_all 20 id (omega (arith, l))

module _ (T : Table) (bits : ℕ) (id prefix path : Bytes) where
  -- with 20 bytes the mode decides
  by_mode : (s : Lent) (n : ℕ) (q : Lent) (o : Option Mode) → length id ≡ 20 → o ≡ mode_of_bits bits → Numbers (put_as T id prefix path o) s n q → Numbers (put_by T bits id prefix path) s n q
  by_mode s n q o l e h =
      subst (λ (b : Bool). Numbers (cond b (put_as T id prefix path (mode_of_bits bits)) none) s n q) (sym (eq-eqb (length id) 20 l)) (subst (λ (p : Option Mode). Numbers (put_as T id prefix path p) s n q) e h)

  pub good_put : (s : Lent) (n : ℕ) (q : Lent) (r : Opt EntryKind) (kind : EntryKind) (i : Id) → length id ≡ 20 → mode_read r ≡ mode_of_bits bits → r ≡ Some kind → id_bytes i ≡ take 20 (drop 0 id)
      → Does (edited sha1 T (upsert (as_mode kind) (id_bytes i)) false prefix path) s n q → Numbers (put_by T bits id prefix path) s n q
  good_put s n q r kind i l e k w d =
      by_mode s n q (some (as_mode kind)) l (sym (ap mode_read k) ∙ e) (subst (λ (x : Bytes). Does (edited sha1 T (upsert (as_mode kind) x) false prefix path) s n q) (whole_id i id l w) d)

module _ (id : Bytes) where
  pub good_answer : (s : Lent) (n : ℕ) (q : Lent) (i : Id) → length id ≡ 20 → id_bytes i ≡ take 20 (drop 0 id) → Does (answered sha1 (id_bytes i)) s n q → Numbers (answer_by id) s n q
  good_answer s n q i l w d =
      subst (λ (b : Bool). Numbers (cond b (some (answered sha1 id)) none) s n q) (sym (eq-eqb (length id) 20 l)) (subst (λ (x : Bytes). Does (answered sha1 x) s n q) (whole_id i id l w) d)
