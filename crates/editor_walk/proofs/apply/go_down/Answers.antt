-- `editor_walk::apply::go_down` meets its contract: what is found is gone down to. Assumes nothing.
use Rattle.model.specs.Formats.{sha1}
use Rattle.model.specs.Walk.{is_leaf_removal}
use Rattle.store_runs.specs.Digits.{digits}
use Rattle.store_runs.specs.Runs.{cut}
use Rattle.editor_terms.specs.Edits.{wanted_by}
use Rattle.editor_walk.specs.Landings.{planned, LandsAs}
use Rattle.editor_walk.specs.Tasks.{edit_for, table_for}
use Rattle.editor_walk.proofs.DownLaws.{land_fits, stepped_down}
use Rattle.editor_walk.proofs.apply.go_down.Goals as goal
use Rattle.editor_walk.proofs.apply.go_down.Goals.{After-land-landing}

-- what is found, as the store has it
lands : (c : After-land-landing) → LandsAs (planned sha1 (table_for c.args.task) (is_leaf_removal (edit_for c.args.task)) (wanted_by c.args.turn)) (digits 64 c.args.s.now.ed.hidden) (cut c.args.s.now.plens.now c.args.s.now.paths.now) c.args.below.now c.land-landing.result
lands c = rw (← c.view.ensures.ed, ← c.view.ensures.plens, ← c.view.ensures.paths, ← c.is_leaf_removal-leaf.ensures, ← c.wanted-wanted.ensures) c.land-landing.ensures

pub descend-requires : goal.descend-requires
descend-requires c =
    let a = c.args in
    (c.requires.0, c.requires.1, land_fits (table_for a.task) (edit_for a.task) (wanted_by a.turn) a.s.now c.requires.0 c.requires.1 a.below.now c.land-landing.result (lands (goal.at.descend-requires c).After-land-landing) c.requires.2)

pub returns-clause-done : goal.returns-clause-done
returns-clause-done c =
    let a = c.args in
    stepped_down (table_for a.task) (edit_for a.task) (wanted_by a.turn) a.s.now c.requires.0 c.requires.1 a.below.now c.descend.result _ c.land-landing.result (lands (goal.at.returns-clause-done c).After-land-landing) c.descend.ensures.done
