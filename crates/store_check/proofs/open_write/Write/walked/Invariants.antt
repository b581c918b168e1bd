use Rattle.store_check.specs.Lending.{HangingIn}
use Rattle.store_check.proofs.open_write.Write.walked.Given as goal

abbrev pub invariant-loop-slot : goal.invariant-loop-slot
invariant-loop-slot l = HangingIn l.self.store l.self.order.now l.known
