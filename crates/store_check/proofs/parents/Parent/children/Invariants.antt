use Rattle.store_check.proofs.ChildLaws.{Going}
use Rattle.store_check.proofs.parents.Parent.children.Given as goal

abbrev pub invariant-loop-i : goal.invariant-loop-i
invariant-loop-i l = Going l.self.home.now l.self.tree.width l.self.tree.bytes.now l.stack.paths.lens.now l.stack.paths.bytes.now l.stack.slots.now l.stack.low l.high l.i l.at
