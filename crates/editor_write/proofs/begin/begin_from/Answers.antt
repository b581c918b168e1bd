-- `editor_write::begin::begin_from` meets its contract: a store with an open write is refused. Assumes nothing.
use Rattle.editor.specs.Lent.{lent_in}
use Rattle.editor_write.specs.Starts.{start_as}
use Rattle.editor_write.proofs.BackLaws.{accepts}
use Rattle.editor_write.proofs.BeginLaws.{begin_refused}
use Rattle.editor_write.proofs.begin.begin_from.Goals as goal

pub returns-then-s-ne0-clause-done : goal.returns-then-s-ne0-clause-done
returns-then-s-ne0-clause-done c = begin_refused (start_as c.args.start) (lent_in c.args.s.now c.args.order.now) (accepts c.view.ensures c.args.order.now c.holds.result c.holds.ensures c.if-not-holds.false) c.if-s-ne0.true
