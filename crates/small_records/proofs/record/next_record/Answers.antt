-- `small_records::record::next_record` meets its contract: the lines are read in their order, so the first that is not good gives its number. Assumes nothing.
use native.Mathlib.Omega.{arith}
use mathlib.Core.Path.{◌∙◌}
use Rattle.small_records.proofs.NextLaws.{passed_on, at_end, bad_op, bad_path_lem, bad_kind, bad_id, whole_record, path_inside, id_inside}
use Rattle.lines.proofs.PlaceLaws.{from}
use Rattle.lines.specs.Answers.{value_read}
use Rattle.small_records.specs.Answers.{as_op, op_line, kind_line}
use Rattle.small_records.proofs.record.next_record.Goals as goal

pub returns-then-input-at : goal.returns-then-input-at
returns-then-input-at c = at_end _ _ _ c.if-input-at.true

pub returns-in_err-verb : goal.returns-in_err-verb
returns-in_err-verb c =
    let n = c.in_err-verb.ensures.ok_part in
    passed_on _ n c.in_err-verb.ensures.value c.from_residual.result c.from_residual.ensures.1
    ∙ bad_op _ _ _ c.if-input-at.false (from op_line c.op_at.ensures n)

pub returns-in_err-path : goal.returns-in_err-path
returns-in_err-path c =
    let n = c.in_err-path.ensures.ok_part in
    passed_on _ n c.in_err-path.ensures.value c.from_residual-in_err-path.result c.from_residual-in_err-path.ensures.1
    ∙ bad_path_lem _ _ _ c.if-input-at.false (from op_line c.op_at.ensures c.in_ok-verb.ensures.ok_part) (from value_read c.path_at.ensures n)

pub past-requires : goal.past-requires
past-requires c =
    let i = path_inside c.args.input.now c.in_ok-verb.verb.next (from value_read c.path_at.ensures c.in_ok-path.ensures.ok_part) in
    omega arith

pub returns-in_err-op : goal.returns-in_err-op
returns-in_err-op c =
    let n = c.in_err-op.ensures.ok_part in
    passed_on _ n c.in_err-op.ensures.value c.from_residual-in_err-op.result c.from_residual-in_err-op.ensures.1
    ∙ bad_kind _ _ _ c.if-input-at.false (from op_line c.op_at.ensures c.in_ok-verb.ensures.ok_part) (from value_read c.path_at.ensures c.in_ok-path.ensures.ok_part) (rw c.past.ensures at (from kind_line c.kind_at.ensures n))

pub returns-in_err-id : goal.returns-in_err-id
returns-in_err-id c =
    let n = c.in_err-id.ensures.ok_part in
    passed_on _ n c.in_err-id.ensures.value c.from_residual-in_err-id.result c.from_residual-in_err-id.ensures.1
    ∙ bad_id _ _ _ c.if-input-at.false (from op_line c.op_at.ensures c.in_ok-verb.ensures.ok_part) (from value_read c.path_at.ensures c.in_ok-path.ensures.ok_part) (rw c.past.ensures at (from kind_line c.kind_at.ensures c.in_ok-op.ensures.ok_part)) (from value_read c.id_at.ensures n)

pub past-requires-2 : goal.past-requires-2
past-requires-2 c =
    let i = id_inside c.args.input.now c.in_ok-op.op.next c.args.width (as_op c.in_ok-op.op.what) (from value_read c.id_at.ensures c.in_ok-id.ensures.ok_part) in
    omega arith

pub returns : goal.returns
returns c = rw c.past-2.ensures (whole_record _ _ _ c.if-input-at.false (from op_line c.op_at.ensures c.in_ok-verb.ensures.ok_part) (from value_read c.path_at.ensures c.in_ok-path.ensures.ok_part) (rw c.past.ensures at (from kind_line c.kind_at.ensures c.in_ok-op.ensures.ok_part)) (from value_read c.id_at.ensures c.in_ok-id.ensures.ok_part))
