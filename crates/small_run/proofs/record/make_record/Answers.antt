-- `small_run::record::make_record` meets its contract: the digits of the record say its edit. Assumes nothing.
use Rattle.small_run.proofs.RecordLaws.{id_digits, path_digits}
use Rattle.small_run.proofs.record.make_record.Goals as goal

pub edit_of-edit-requires : goal.edit_of-edit-requires
edit_of-edit-requires c =
    let (at, q) = c.requires.3 in
    id_digits c.args.input.now at q c.text.result.now c.text.ensures

pub apply-answer-requires : goal.apply-answer-requires
apply-answer-requires c =
    let (at, q) = c.requires.3 in
    let p = path_digits c.args.input.now at q c.text-2.result.now c.text-2.ensures c.requires.1 in
    (c.requires.0, p.0, p.1)
