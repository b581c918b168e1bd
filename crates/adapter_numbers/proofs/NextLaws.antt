-- An answer and the reading after it, together: 255 where the arguments are not whole, and else the two calls one after the other. Assumes nothing.
use Prim.Native.Nat.{ℕ}
use mathlib.Core.Path.{◌≡◌, refl, subst}
use lib.ListN.{take, drop, set}
use Rattle.model.specs.Bytes.{Bytes}
use Rattle.model.specs.Formats.{sha1}
use Rattle.model.specs.Write.{answered}
use Rattle.editor_terms.specs.Ids.{id_bytes}
use Rattle.editor_terms.specs.declared.id.Id.{Id}
use Rattle.editor.specs.Lent.{Lent, Does}
use Rattle.adapter_numbers.specs.Asks.{Slices, Whole, Reads, AnswersAndAsks}
use Rattle.adapter_numbers.proofs.NumberLaws.{whole_id}

module _ (id : Bytes) (s : Lent) (d : Slices) (next : Bytes) where
  pub turns : (n m : ℕ) (q : Lent) (e : Slices) (i : Id) → Whole id d.path d.lens next → id_bytes i ≡ take 20 (drop 0 id) → Does (answered sha1 (id_bytes i)) s n q → Reads q d m e
      → AnswersAndAsks id s d next n q e (set next 0 m)
  turns n m q e i w b does reads =
      record {
        bad = λ z. absurd (z w);
        good = λ z. record { does = subst (λ (x : Bytes). Does (answered sha1 x) s n q) (whole_id i id w.id b) does; number = m; reads = reads; given = refl };
      }
