-- `editor_walk::apply::settle` meets its contract: the first pass decides whether the second is made. Assumes nothing.
use mathlib.Core.Path.{ap}
use native.Mathlib.Omega.{arith}
use lib.ListN.{length}
use Rattle.store_slots.specs.Stores.{path_in_slot}
use Rattle.editor_terms.specs.Edits.{as_edit}
use Rattle.editor_terms.specs.Tables.{objects_in}
use Rattle.editor_walk.proofs.SettleLaws.{short_path, view_fits, walk_kept, settle_none, settle_walk}
use Rattle.editor_walk.proofs.MeasureLaws.{passed_on}
use Rattle.editor_walk.proofs.apply.settle.Goals as goal

pub measure-measured-requires : goal.measure-measured-requires
measure-measured-requires c =
    let a = c.args in
    let v = c.view.ensures in
    let h = short_path (path_in_slot a.s.now a.slot) a.path.now c.requires.4 in
    rw (v.ed, v.plens, v.paths, v.tlens, v.trees)
    (c.requires.0, c.requires.1, view_fits (objects_in a.table) (as_edit a.edit) a.opening a.s.now c.requires.0 c.requires.1 a.slot c.requires.2 a.path.now c.requires.5, c.requires.2, c.requires.3, omega (arith, h, ap length c.requires.3))

pub returns-in_err-measured-clause-done : goal.returns-in_err-measured-clause-done
returns-in_err-measured-clause-done c =
    let a = c.args in
    let v = c.view.ensures in
    rw (passed_on _ c.from_residual.ensures.1)
    (settle_none (objects_in a.table) (as_edit a.edit) a.opening a.s.now c.requires.0 c.requires.1 a.slot c.requires.2 a.path.now c.requires.5 (rw (v.ed, v.plens, v.paths, v.tlens, v.trees) at c.measure-measured.ensures) c.in_err-measured.was)

pub walk-requires : goal.walk-requires
walk-requires c =
    let a = c.args in
    let v = c.view.ensures in
    (c.requires.0, c.requires.1, c.requires.2, c.requires.3, c.requires.4, walk_kept (objects_in a.table) (as_edit a.edit) a.opening a.s.now c.requires.0 c.requires.1 a.slot c.requires.2 a.path.now c.requires.5 (rw (v.ed, v.plens, v.paths, v.tlens, v.trees) at c.measure-measured.ensures) c.in_ok-measured.was)

pub returns-clause-done : goal.returns-clause-done
returns-clause-done c =
    let a = c.args in
    let v = c.view.ensures in
    settle_walk (objects_in a.table) (as_edit a.edit) a.opening a.s.now c.requires.0 c.requires.1 a.slot c.requires.2 a.path.now c.requires.5 (rw (v.ed, v.plens, v.paths, v.tlens, v.trees) at c.measure-measured.ensures) c.in_ok-measured.was c.walk.ensures.done
