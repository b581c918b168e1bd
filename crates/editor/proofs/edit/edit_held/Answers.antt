-- `editor::edit::edit_held` meets its contract: the refusals come in their order, then both passes. Assumes nothing.
use mathlib.Core.Path.{sym, ap, ◌∙◌}
use native.Mathlib.Omega.{arith}
use Rattle.model.specs.Bytes.{Bytes}
use Rattle.model.specs.Paths.{full, refused}
use Rattle.editor_terms.specs.Edits.{as_edit}
use Rattle.editor_terms.specs.Tables.{table_in}
use Rattle.editor_terms.specs.declared.refusal.Refusal.TheVariants.{BadTable}
use Rattle.names.proofs.FrontLaws.{full_short}
use Rattle.editor.proofs.LookLaws.{passed_on, missing_as, ready_in, Begun, begun}
use Rattle.editor.proofs.EditLaws.{no_table, good_objects, same_objects, is_open, bad_table, not_ready, is_settled}
use Rattle.editor.proofs.edit.edit_held.Goals as goal
use Rattle.editor.proofs.edit.edit_held.Goals.{In_ok-slot}

pub returns-then-s-ne0-clause-done : goal.returns-then-s-ne0-clause-done
returns-then-s-ne0-clause-done c order =
    let a = c.args in
    is_open (table_in a.table) (as_edit a.edit) a.opening a.prefix.now a.path.now a.s.now order c.if-s-ne0.true

pub returns-in_err-table-clause-done : goal.returns-in_err-table-clause-done
returns-in_err-table-clause-done c order =
    let a = c.args in
    let e = c.in_err-table.ensures in
    rw (missing_as c.from_residual.result c.checked.result BadTable c.from_residual.ensures.1 e.ok_part e.value)
    (bad_table (table_in a.table) (as_edit a.edit) a.opening a.prefix.now a.path.now a.s.now order c.if-s-ne0.false (no_table a.table c.checked.result c.checked.ensures e.ok_part))

pub returns-in_err-slot-clause-done : goal.returns-in_err-slot-clause-done
returns-in_err-slot-clause-done c order =
    let a = c.args in
    rw (passed_on c.from_residual-in_err-slot.result c.from_residual-in_err-slot.ensures.1)
    (not_ready (table_in a.table) (as_edit a.edit) a.opening a.prefix.now a.path.now a.s.now order c.slot_for.result c.requires.0 c.if-s-ne0.false (c.requires.1 c.if-s-ne0.false)
    (good_objects a.table c.checked.result c.in_ok-table.table c.checked.ensures c.in_ok-table.ensures.ok_part) (ready_in a.prefix.now a.path.now c.slot_for.result c.view.ensures c.slot_for.ensures) _ c.in_err-slot.was)

-- the walk begins in the slot of the prefix
begins : (c : In_ok-slot) → Begun c.args.s.now.ed c.args.s.now.plens.now c.args.s.now.paths.now c.args.s.now.tlens.now c.args.s.now.trees.now c.args.prefix.now c.args.path.now c.in_ok-slot.slot
begins c =
    let a = c.args in
    let s = a.s.now in
    begun s.ed s.plens.now s.paths.now s.tlens.now s.trees.now a.prefix.now a.path.now c.slot_for.result c.requires.0 (c.requires.1 c.if-s-ne0.false) (ready_in a.prefix.now a.path.now c.slot_for.result c.view.ensures c.slot_for.ensures) c.in_ok-slot.slot c.in_ok-slot.was

pub put_full-n-requires : goal.put_full-n-requires
put_full-n-requires c = omega (arith, full_short c.args.prefix.now c.args.path.now (begins (goal.at.put_full-n-requires c).In_ok-slot).fine)

pub settle-requires : goal.settle-requires
settle-requires c =
    let a = c.args in
    let b = begins (goal.at.settle-requires c).In_ok-slot in
    (c.requires.0, c.requires.1 c.if-s-ne0.false, b.used, c.put_full-n.ensures.1 ∙ ap (λ (p : Bytes). full p a.path.now) (sym b.stands), ap (λ (p : Bytes). refused p a.path.now) b.stands ∙ b.fine, c.requires.2 c.if-s-ne0.false)

pub returns-clause-done : goal.returns-clause-done
returns-clause-done c order =
    let a = c.args in
    let t = c.in_ok-table in
    is_settled (table_in a.table) (as_edit a.edit) a.opening a.prefix.now a.path.now a.s.now order c.slot_for.result c.requires.0 c.if-s-ne0.false (c.requires.1 c.if-s-ne0.false)
    (good_objects a.table c.checked.result t.table c.checked.ensures t.ensures.ok_part) (ready_in a.prefix.now a.path.now c.slot_for.result c.view.ensures c.slot_for.ensures) c.in_ok-slot.slot c.in_ok-slot.was (c.requires.2 c.if-s-ne0.false) c.settle.result c.settle.new.s
    (rw (← same_objects a.table c.checked.result t.table c.checked.ensures t.ensures.ok_part) c.settle.ensures.done)
