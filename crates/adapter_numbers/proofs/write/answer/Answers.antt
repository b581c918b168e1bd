-- `adapter_numbers::write::answer` meets its contract: an id of 20 bytes means the answer that is made. Assumes nothing.
use Rattle.editor.specs.Lent.{lent_in}
use Rattle.adapter_numbers.proofs.NumberLaws.{does_number, good_answer}
use Rattle.adapter_numbers.proofs.write.answer.Goals as goal

pub returns-clause-done : goal.returns-clause-done
returns-clause-done c = good_answer c.args.id.now (lent_in c.args.s.now c.args.order.now) _ _ _ c.if-id-ne-WIDTH.false c.id_at-id.ensures (does_number c.number.ensures c.answer.ensures.done)
