-- `editor_write::begin::begin_held` meets its contract: the search says whether a tree is cached at the path, and in which slot. Assumes nothing.
use Rattle.editor.specs.Lent.{lent_in}
use Rattle.editor.proofs.LookLaws.{missing_as}
use Rattle.editor_terms.specs.declared.refusal.Refusal.TheVariants.{CursorStale}
use Rattle.editor_write.specs.Starts.{start_as}
use Rattle.editor_write.proofs.BeginLaws.{found_in, begin_stale, slot_cached, slot_starts}
use Rattle.editor_write.proofs.begin.begin_held.Goals as goal

pub returns-in_err-slot-clause-done : goal.returns-in_err-slot-clause-done
returns-in_err-slot-clause-done c =
    let e = c.in_err-slot.ensures in
    rw (missing_as c.from_residual.result c.find.result CursorStale c.from_residual.ensures.1 e.ok_part e.value)
    (begin_stale (lent_in c.args.s.now c.args.order.now) c.requires.0 c.requires.1 (start_as c.args.start) c.find.result (found_in c.find.result c.view.ensures c.path.ensures c.find.ensures) e.ok_part)

pub begin_slot-requires : goal.begin_slot-requires
begin_slot-requires c =
    let s = lent_in c.args.s.now c.args.order.now in
    let f = found_in c.find.result c.view.ensures c.path.ensures c.find.ensures in
    let e = c.in_ok-slot.ensures.ok_part in (
      c.requires.0,
      c.requires.1,
      slot_cached s c.requires.0 c.requires.1 (start_as c.args.start) c.find.result f c.in_ok-slot.slot e,
      slot_starts s c.requires.0 c.requires.1 (start_as c.args.start) c.find.result f c.in_ok-slot.slot e,
    )
