-- `store_check::parents::Parent::after_child` meets its contract: the name of a tree entry has no slash, so that the path is one component below. Assumes nothing.
use mathlib.Core.Path.{sym}
use borrow.Author.Tests.{eqb-false}
use Rattle.store_check.proofs.ChildLaws.{child_of, some_byte, where_some}
use Rattle.store_check.proofs.parents.Parent.after_child.Goals as goal

pub returns : goal.returns
returns c =
    let n = c.below-name.result.now in
    where_some c.entry_after.result c.entry_after.ensures (λ z t. (t.0, child_of t.1 (c.below-name.ensures (some_byte n (eqb-false _ 0 (sym c.if-is_empty.ensures))))))
