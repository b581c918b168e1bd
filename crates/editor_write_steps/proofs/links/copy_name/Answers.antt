-- `editor_write_steps::links::copy_name` meets its contract: the name is the end of the slot's path, and fits. Assumes nothing.
use mathlib.Core.Path.{◌≡◌, sym, ap, ◌∙◌}
use native.Mathlib.Omega.{arith}
use lib.ListN.{length, take}
use Rattle.model.specs.Paths.{base}
use Rattle.names.proofs.WriteLaws.{splice_front}
use Rattle.store_runs.proofs.FindLaws.{cut_at}
use Rattle.store_slots.specs.View.{path_of}
use Rattle.editor_write_steps.proofs.links.copy_name.Goals as goal
use Rattle.editor_write_steps.proofs.links.copy_name.Goals.{After-filename}

-- the name was read
name_read : (c : After-filename) → c.filename.result.now ≡ base (path_of c.args.v.plens.now c.args.v.paths.now c.args.slot)
name_read c = c.filename.ensures ∙ ap base (c.path_in.ensures ∙ sym (cut_at c.args.v.plens.now c.args.v.paths.now c.args.slot c.requires.1))

pub put-requires : goal.put-requires
put-requires c = omega (arith, ap length (name_read (goal.at.put-requires c).After-filename), c.requires.2, c.told-name)

pub returns : goal.returns
returns c =
    let q = name_read (goal.at.returns c).After-filename in
    (omega (arith, c.put.ensures.value, ap length q), ap (take c.put.result) c.put.ensures.out_after ∙ splice_front c.args.name.now c.filename.result.now c.put.result (omega (arith, c.put.ensures.value)) ∙ q)
