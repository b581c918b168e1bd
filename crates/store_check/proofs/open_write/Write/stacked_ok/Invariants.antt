use Rattle.store_check.specs.Lending.{ParentedIn}
use Rattle.store_check.proofs.open_write.Write.stacked_ok.Given as goal

abbrev pub invariant-loop-i : goal.invariant-loop-i
invariant-loop-i l = ParentedIn l.self.store l.self.order.now l.i
