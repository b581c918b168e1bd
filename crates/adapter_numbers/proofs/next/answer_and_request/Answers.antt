-- `adapter_numbers::next::answer_and_request` meets its contract: whole arguments mean the answer that is made, and what is told of the request that is open then. Assumes nothing.
use Rattle.editor.specs.Lent.{lent_in}
use Rattle.adapter_numbers.specs.Asks.{slices}
use Rattle.adapter_numbers.proofs.AskLaws.{reads}
use Rattle.adapter_numbers.proofs.NextLaws.{turns}
use Rattle.adapter_numbers.proofs.NumberLaws.{does_number}
use Rattle.adapter_numbers.proofs.next.answer_and_request.Goals as goal

pub returns-clause-done : goal.returns-clause-done
returns-clause-done c =
    let a = c.args in
    turns a.id.now (lent_in a.s.now a.order.now) (slices a.out.now a.path.now a.lens.now) a.next.now _ _ _ _ _ (c.arguments_ok.ensures.yes c.if-not-arguments_ok.false) c.id_at-id.ensures (does_number c.number.ensures c.answer_and_request-both.ensures.done.0)
    (reads _ _ _ _ _ _ _ _ _ _ _ c.tell_request.ensures c.answer_and_request-both.ensures.done.1)
