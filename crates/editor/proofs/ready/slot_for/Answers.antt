-- `editor::ready::slot_for` meets its contract: the slot of the prefix is looked for first, then the path is judged. Assumes nothing.
use Rattle.store_runs.specs.Digits.{digits}
use Rattle.store_runs.specs.Runs.{cut}
use Rattle.editor_terms.specs.declared.refusal.Refusal.TheVariants.{CursorStale}
use Rattle.editor.proofs.LookLaws.{missing_as, no_slot, no_path, slot_in}
use Rattle.editor.proofs.ready.slot_for.Goals as goal

pub returns-in_err-slot : goal.returns-in_err-slot
returns-in_err-slot c w runs l =
    let a = c.args in
    let e = c.in_err-slot.ensures in
    rw (missing_as c.from_residual.result c.find.result CursorStale c.from_residual.ensures.1 e.ok_part e.value)
    (no_slot w (digits 64 a.v.ed.hidden) (cut a.v.plens.now a.v.paths.now) runs a.prefix.now a.path.now c.find.result (c.find.ensures w runs l) e.ok_part)

pub returns-then-is_refused : goal.returns-then-is_refused
returns-then-is_refused c w runs l =
    let a = c.args in
    no_path w (digits 64 a.v.ed.hidden) (cut a.v.plens.now a.v.paths.now) runs a.prefix.now a.path.now c.find.result c.in_ok-slot.slot c.is_refused.result (c.find.ensures w runs l) c.in_ok-slot.ensures.ok_part c.is_refused.ensures c.if-is_refused.true

pub returns : goal.returns
returns c w runs l =
    let a = c.args in
    slot_in w (digits 64 a.v.ed.hidden) (cut a.v.plens.now a.v.paths.now) runs a.prefix.now a.path.now c.find.result c.in_ok-slot.slot c.is_refused.result (c.find.ensures w runs l) c.in_ok-slot.ensures.ok_part c.is_refused.ensures c.if-is_refused.false
