-- `editor_write_steps::links::set_entry` meets its contract: the slot found at the parent's path is the parent's, and the new entry takes no room. Assumes nothing.
use mathlib.Core.Path.{◌≡◌}
use mathlib.Core.List.{[], ◌∷◌}
use lib.ListN.{take}
use Rattle.model.specs.Paths.{base}
use Rattle.store_slots.specs.Stores.{path_in_slot}
use Rattle.editor_write_steps.proofs.LinkLaws.{AtParent, link_going, between_kept}
use Rattle.editor_write_steps.proofs.LinkRoom.{name_asked, parent_asked, name_good, link_fits}
use Rattle.editor_write_steps.proofs.links.set_entry.Goals as goal
use Rattle.editor_write_steps.proofs.links.set_entry.Goals.{After-parent_of-parent}

pub copy_name-n-requires : goal.copy_name-n-requires
copy_name-n-requires c = let e = c.view-v.ensures in rw (e.ed, e.plens, e.paths) (name_asked c.args.s.now c.requires.0 c.requires.2.1)

pub parent_of-parent-requires : goal.parent_of-parent-requires
parent_of-parent-requires c = let e = c.view-v.ensures in rw (e.ed, e.plens, e.paths) (parent_asked c.args.s.now c.requires.0 c.requires.2.1)

-- the name and the parent's slot
named : (c : After-parent_of-parent) → take c.copy_name-n.result c.copy_name-n.new.name ≡ base (path_in_slot c.args.s.now c.args.slot)
named c = let e = c.view-v.ensures in rw (e.plens, e.paths) at c.copy_name-n.ensures.1

above : (c : After-parent_of-parent) → AtParent c.args.s.now c.args.slot c.parent_of-parent.result
above c = let e = c.view-v.ensures in rw (e.ed, e.plens, e.paths) at c.parent_of-parent.ensures

pub set-requires : goal.set-requires
set-requires c =
    let d = (goal.at.set-requires c).After-parent_of-parent in
    let u = above d in
    let h = c.requires.2.1 in
    rw (named d) (c.requires.0, c.requires.1, u.0, c.requires.3, name_good c.args.s.now c.requires.0 h u, link_fits c.args.s.now c.requires.0 h u c.args.id.now c.requires.4)

pub returns-clause-going : goal.returns-clause-going
returns-clause-going c =
    let d = (goal.at.returns-clause-going c).After-parent_of-parent in
    link_going c.args.s.now c.requires.0 (above d) c.args.id.now (rw (named d) at c.set.ensures)

pub returns-clause-between : goal.returns-clause-between
returns-clause-between c order h = between_kept c.args.s.now.ed c.set.new.s.ed order (c.args.slot ∷ []) c.set.ensures.edit.kept h.between
