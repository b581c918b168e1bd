-- `store_check::parents::Parent::entry_after` meets its contract: each turn starts at an entry, and a tree entry of the name ends the walk. Assumes nothing.
use native.Mathlib.Omega.{arith}
use Rattle.store_check.proofs.ChildLaws.{starts_at, starts_next, starts_named}
use Rattle.store_check.proofs.parents.Parent.entry_after.Goals as goal

pub bounds-tree-a : goal.bounds-tree-a
bounds-tree-a c =
    let m = starts_at c.loop-a.invariant c.args.self.read c.loop-a-test.true in
    omega (arith, m.room)

pub is_tree-requires : goal.is_tree-requires
is_tree-requires c =
    let m = starts_at c.loop-a.invariant c.args.self.read c.loop-a-test.true in
    (c.loop-a-test.true, omega arith, m.room)

pub returns-then-is_tree : goal.returns-then-is_tree
returns-then-is_tree c =
    let t = c.loop-a-test.true in
    let r = c.args.self.read in
    (starts_next c.loop-a.invariant r t, starts_named c.loop-a.invariant r t c.args.name.now c.is_tree.result c.is_tree.ensures c.if-is_tree.true)

pub loop-a-preserved : goal.loop-a-preserved
loop-a-preserved c = starts_next c.loop-a.invariant c.args.self.read c.loop-a-test.true
