-- `editor_write::fail::fail` meets its contract: a store with no open write is refused. Assumes nothing.
use Rattle.editor.specs.Lent.{lent_in}
use Rattle.editor_write.proofs.BackLaws.{accepts}
use Rattle.editor_write.proofs.FailLaws.{fail_refused}
use Rattle.editor_write.proofs.fail.fail.Goals as goal

pub returns-then-s-eq0-clause-done : goal.returns-then-s-eq0-clause-done
returns-then-s-eq0-clause-done c = fail_refused (lent_in c.args.s.now c.args.order.now) (accepts c.view.ensures c.args.order.now c.holds.result c.holds.ensures c.if-not-holds.false) c.if-s-eq0.true
