-- `editor_walk::apply::apply` meets its contract, by the turns. Assumes nothing.
use mathlib.Core.Logic.{inl, inr}
use mathlib.Core.Path.{refl, ap}
use Rattle.store_slots.specs.Stores.{tree_in_slot}
use Rattle.store_entries.proofs.EditLaws.{unchanged}
use Rattle.editor_terms.specs.Edits.{changed}
use Rattle.editor_terms.specs.declared.edit.Turn.{Turn}
use Rattle.editor_walk.proofs.apply.apply.Goals as goal

pub returns-in-Stop : goal.returns-in-Stop
returns-in-Stop c =
    let a = c.args in
    let made = λ (z : Turn). changed z a.name.now (tree_in_slot 20 a.s.now a.slot) in
    record {
      edit = elim c.in-Stop.is [ inl x ↦ unchanged c.requires.0 c.requires.1 (made a.turn) (ap made x.1) | inr x ↦ unchanged c.requires.0 c.requires.1 (made a.turn) (ap made x.1) ];
      keys = record { plens = refl; paths = refl };
      lent = record { plens = refl; paths = refl; tlens = refl; trees = refl };
    }
