-- `store_entries::replace` meets its contract: the model removes the twin and puts the entry in. Assumes nothing.
use Rattle.model.specs.Tree.{with_entry}
use Rattle.names.specs.Answers.{as_mode, entry}
use Rattle.store_slots.specs.Stores.{tree_in_slot}
use Rattle.store_entries.proofs.EditLaws.{put_then, fresh_kept, fits_then}
use Rattle.store_entries.proofs.StoreLaws.{edit_is, edits_twice, fits_after, laid_after}
use Rattle.store_entries.proofs.replace.Goals as goal

pub insert_key-requires : goal.insert_key-requires
insert_key-requires c =
    let g = c.args.given in
    let e = c.remove_key.ensures in
    (laid_after e, c.requires.1, e.edit.used, c.requires.3, c.requires.4, fresh_kept c.requires.0 c.requires.2 (as_mode g.kind) g.name.now g.id.now c.is_tree.result c.is_tree.ensures e.edit c.requires.5, fits_after e _ (fits_then c.requires.0 c.requires.2 (as_mode g.kind) g.name.now g.id.now c.is_tree.result c.is_tree.ensures e.edit c.requires.6))

pub returns : goal.returns
returns c =
    let a = c.args in
    let g = a.given in
    edit_is (edits_twice c.remove_key.ensures c.insert_key.ensures) (with_entry (entry g.kind g.name.now g.id.now) (tree_in_slot a.width a.s.now a.slot)) (put_then c.requires.0 c.requires.2 (as_mode g.kind) g.name.now g.id.now c.is_tree.result c.is_tree.ensures c.remove_key.ensures.edit)
