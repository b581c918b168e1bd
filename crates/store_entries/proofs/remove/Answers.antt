-- `store_entries::remove` meets its contract: a name is removed as a tree and as another. Assumes nothing.
use mathlib.Core.Path.{ap}
use mathlib.Core.Bool.{false}
use Rattle.model.specs.Map.{del}
use Rattle.model.specs.Tree.{key, as_kind, without}
use Rattle.store_slots.specs.Stores.{tree_in_slot}
use Rattle.store_entries.proofs.StoreLaws.{edit_is, edits_twice}
use Rattle.store_entries.proofs.remove.Goals as goal

pub returns : goal.returns
returns c =
    let a = c.args in
    edit_is (edits_twice c.remove_key.ensures c.remove_key-2.ensures) (without a.name.now (tree_in_slot a.width a.s.now a.slot)) (ap (del key (as_kind false a.name.now)) c.remove_key.ensures.edit.tree)
