-- `editor_write_steps::links::remove_entry` meets its contract: the slot found at the parent's path is the parent's. Assumes nothing.
use mathlib.Core.Path.{◌≡◌}
use mathlib.Core.List.{[], ◌∷◌}
use lib.ListN.{take}
use Rattle.model.specs.Paths.{base}
use Rattle.store_slots.specs.Stores.{path_in_slot}
use Rattle.editor_write_steps.proofs.LinkLaws.{AtParent, unlink_going, between_kept}
use Rattle.editor_write_steps.proofs.LinkRoom.{name_asked, parent_asked}
use Rattle.editor_write_steps.proofs.links.remove_entry.Goals as goal
use Rattle.editor_write_steps.proofs.links.remove_entry.Goals.{After-parent_of-parent}

pub copy_name-n-requires : goal.copy_name-n-requires
copy_name-n-requires c = let e = c.view-v.ensures in rw (e.ed, e.plens, e.paths) (name_asked c.args.s.now c.requires.0 c.requires.2.1)

pub parent_of-parent-requires : goal.parent_of-parent-requires
parent_of-parent-requires c = let e = c.view-v.ensures in rw (e.ed, e.plens, e.paths) (parent_asked c.args.s.now c.requires.0 c.requires.2.1)

-- the name and the parent's slot
named : (c : After-parent_of-parent) → take c.copy_name-n.result c.copy_name-n.new.name ≡ base (path_in_slot c.args.s.now c.args.slot)
named c = let e = c.view-v.ensures in rw (e.plens, e.paths) at c.copy_name-n.ensures.1

above : (c : After-parent_of-parent) → AtParent c.args.s.now c.args.slot c.parent_of-parent.result
above c = let e = c.view-v.ensures in rw (e.ed, e.plens, e.paths) at c.parent_of-parent.ensures

pub returns-clause-going : goal.returns-clause-going
returns-clause-going c =
    let d = (goal.at.returns-clause-going c).After-parent_of-parent in
    unlink_going c.args.s.now c.requires.0 (above d) (rw (named d) at c.remove.ensures)

pub returns-clause-between : goal.returns-clause-between
returns-clause-between c order h = between_kept c.args.s.now.ed c.remove.new.s.ed order (c.args.slot ∷ []) c.remove.ensures.edit.kept h.between
