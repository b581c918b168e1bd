use Rattle.model.specs.Tree.{as_kind}
use Rattle.names.proofs.OrderLaws.{Comparing}
use Rattle.names.proofs.order.order_from.Given as goal

abbrev pub invariant-loop-i : goal.invariant-loop-i
invariant-loop-i l = Comparing (as_kind l.a.tree l.a.name.now) (as_kind l.b.tree l.b.name.now) l.i
