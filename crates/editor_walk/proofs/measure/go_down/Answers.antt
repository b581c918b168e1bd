-- `editor_walk::measure::go_down` meets its contract: what is found below decides. Assumes nothing.
use mathlib.Core.Path.{refl, ap₂, subst}
use mathlib.Core.Bool.{Bool}
use mathlib.Core.Option.{Option}
use Rattle.model.specs.Bytes.{Bytes}
use Rattle.model.specs.Formats.{sha1}
use Rattle.model.specs.Walk.{is_leaf_removal}
use Rattle.store_runs.specs.Digits.{digits}
use Rattle.store_runs.specs.Runs.{cut}
use Rattle.store_runs.proofs.DigitLaws.{length_digits}
use Rattle.editor_terms.specs.Edits.{wanted_by}
use Rattle.editor_walk.specs.Tasks.{edit_for, table_for}
use Rattle.editor_walk.specs.Counted.{counts_as}
use Rattle.editor_walk.specs.Landings.{Plan, planned, LandsAs}
use Rattle.editor_walk.proofs.MeasureLaws.{land_is}
use Rattle.editor_walk.proofs.measure.go_down.Goals as goal

pub returns : goal.returns
returns c =
    let ds = digits 64 c.args.v.ed.hidden in
    let ps = cut c.args.v.plens.now c.args.v.paths.now in
    let l : LandsAs (planned sha1 (table_for c.args.task) (is_leaf_removal (edit_for c.args.task)) (wanted_by c.args.turn)) ds ps c.args.below.now c.land-landing.result =
    subst (λ (z : Plan). LandsAs z ds ps c.args.below.now c.land-landing.result) (ap₂ (λ (b : Bool) (i : Option Bytes). planned sha1 (table_for c.args.task) b i) c.is_leaf_removal-leaf.ensures c.wanted-wanted.ensures) c.land-landing.ensures in
    λ tlens trees lt.
    c.landed.ensures.is tlens trees c.args.below.now _ refl
    (land_is (table_for c.args.task) (edit_for c.args.task) (wanted_by c.args.turn) ds ps c.args.below.now (counts_as c.args.u) tlens trees (length_digits 64 c.args.v.ed.hidden) lt c.land-landing.result l)
