-- `small_records::record::id_ok` meets its contract: an upsert has an id of the width in hex, and a removal none. Assumes nothing.
use mathlib.Core.Path.{sym, ap, ◌∙◌}
use mathlib.Core.Logic.{inl, inr}
use Rattle.model.specs.Walk.{ANY, LEAF}
use Rattle.small_records.proofs.PlaceLaws.{id_of_upsert, id_no_hex, id_of_removal}
use Rattle.small_records.specs.Answers.{as_op}
use Rattle.small_records.proofs.record.id_ok.Goals as goal

pub returns-then-is_hex : goal.returns-then-is_hex
returns-then-is_hex c = id_of_upsert _ _ _ (ap as_op c.in-Upsert.is) (sym c.if-is_hex.ensures)

pub returns-else-is_hex : goal.returns-else-is_hex
returns-else-is_hex c = c.if-is_hex.false ∙ id_no_hex _ _ _ (ap as_op c.in-Upsert.is) (sym c.if-is_hex.ensures)

pub returns-in-Remove : goal.returns-in-Remove
returns-in-Remove c =
    c.is_empty.ensures ∙
    elim c.in-Remove.is [
      | inl e ↦ id_of_removal _ _ ANY (ap as_op e)
      | inr e ↦ id_of_removal _ _ LEAF (ap as_op e)
    ]
