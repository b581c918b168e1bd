-- `editor_write::answer::answer_accepted` meets its contract: a store with no open write is refused. Assumes nothing.
use Rattle.editor_terms.specs.Ids.{id_bytes}
use Rattle.editor.specs.Lent.{lent_in}
use Rattle.editor_write.proofs.AnswerLaws.{answer_refused}
use Rattle.editor_write.proofs.answer.answer_accepted.Goals as goal

pub returns-then-s-eq0-clause-done : goal.returns-then-s-eq0-clause-done
returns-then-s-eq0-clause-done c = answer_refused (id_bytes c.args.id) (lent_in c.args.s.now c.args.order.now) c.requires c.if-s-eq0.true
