-- `editor_write::next::answer_and_request` meets its contract: a store that holds an editor is answered, and holds one then, of which the request is read. Assumes nothing.
use Rattle.editor_write.proofs.BackLaws.{accepts, stays_good}
use Rattle.editor_write.proofs.RequestLaws.{reads_on}
use Rattle.editor_write.proofs.next.answer_and_request.Goals as goal

pub returns-clause-done : goal.returns-clause-done
returns-clause-done c =
    let d = c.answer_accepted-answer.ensures.done in
    let g = stays_good d (accepts c.view.ensures c.args.order.now c.holds.result c.holds.ensures c.if-not-holds.false) in
    (d, reads_on c.view-2.ensures c.answer_accepted-answer.new.order g c.request_accepted.result c.args.out.now c.request_accepted.new.out c.request_accepted.ensures)
