-- `store_slots::find` meets its contract: the search of the paths finds what stands in the view. Assumes nothing.
use Rattle.store_slots.proofs.Where.{slot_is}
use Rattle.store_slots.specs.View.{SlotIs}
use Rattle.store_runs.proofs.RunLaws.{length_cut}
use Rattle.store_runs.specs.Runs.{cut}
use Rattle.store_runs.proofs.DigitLaws.{length_digits}
use Rattle.store_runs.specs.Digits.{digits}
use mathlib.Core.Path.{sym, ◌∙◌, subst}
use Rattle.store_slots.proofs.View.find.Goals as goal

pub returns : goal.returns
returns c w runs l =
    let a = c.args in
    let s = c.args.self in
    subst (SlotIs w (digits 64 s.ed.hidden) (cut s.plens.now s.paths.now) runs a.path.now) (sym c.find.ensures)
    (slot_is w s.ed.hidden (cut s.plens.now s.paths.now) runs a.path.now (length_cut s.plens.now s.paths.now ∙ c.requires.1 ∙ sym (length_digits 64 s.ed.hidden)) (l ∙ sym (length_digits 64 s.ed.hidden)))
