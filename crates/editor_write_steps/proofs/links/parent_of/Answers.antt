-- `editor_write_steps::links::parent_of` meets its contract: some used slot is at the parent's path, so one is found. Assumes nothing.
use mathlib.Core.Path.{◌≡◌, sym, ap, ◌∙◌}
use native.Mathlib.Omega.{arith}
use Rattle.model.specs.Paths.{dir}
use Rattle.store_runs.specs.Digits.{digits}
use Rattle.store_runs.specs.Runs.{cut}
use Rattle.store_runs.specs.Find.{find_from}
use Rattle.store_runs.proofs.FindLaws.{cut_at}
use Rattle.store_slots.specs.View.{path_of}
use Rattle.editor_write_steps.proofs.LinkLaws.{slot_at}
use Rattle.editor_write_steps.proofs.links.parent_of.Goals as goal

pub returns : goal.returns
returns c =
    let v = c.args.v in
    let p = path_of v.plens.now v.paths.now c.args.slot in
    let read : c.parent-path.result.now ≡ dir p =
    c.parent-path.ensures ∙ ap dir (c.path_in.ensures ∙ sym (cut_at v.plens.now v.paths.now c.args.slot (omega (arith, c.requires.1, c.requires.2)))) in
    rw (c.unwrap_or.ensures) (slot_at v.ed v.plens.now v.paths.now (dir p) c.find_used.result c.args.slot c.requires.1 (c.find_used.ensures ∙ ap (find_from 0 (digits 64 v.ed.free) (cut v.plens.now v.paths.now)) read) c.requires.3)
