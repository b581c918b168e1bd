-- `store_check::holds::exact` meets its contract: the two halves are all that an editor has to be. Assumes nothing.
use mathlib.Core.Path.{subst}
use Rattle.store_check.specs.Decides.{Decides}
use Rattle.store_check.specs.Lending.{LaidOut, WrittenOut}
use Rattle.store_check.proofs.StoredLaws.{not_laid, then_written}
use Rattle.store_check.proofs.holds.exact.Goals as goal

pub returns-in-None : goal.returns-in-None
returns-in-None c F e =
    let s = c.args.s in
    not_laid F s.record s.plens.now s.paths.now s.tlens.now s.trees.now s.order.now s.width e c.in-None.ensures

pub returns-in-Some : goal.returns-in-Some
returns-in-Some c F e =
    let s = c.args.s in
    let q = c.in-Some.ensures in
    then_written F s.record s.plens.now s.paths.now s.tlens.now s.trees.now s.order.now s.width e (subst LaidOut q c.in-Some.laid.laid) (subst (λ x. Decides (WrittenOut x s.order.now) c.write_ok.result) q c.write_ok.ensures)
