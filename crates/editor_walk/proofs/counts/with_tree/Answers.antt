-- `editor_walk::counts::with_tree` meets its contract: each count grows by the tree's own; within the limits no sum passes a word. Assumes nothing.
use native.Mathlib.Omega.{arith}
use Rattle.model.proofs.LimitLaws.{roomy}
use Rattle.editor_walk.specs.Counted.{counts_as}
use Rattle.editor_walk.proofs.CountLaws.{plus_tree_lem}
use Rattle.editor_walk.proofs.counts.with_tree.Goals as goal

pub overflow_add-result : goal.overflow_add-result
overflow_add-result c =
    let r = roomy (counts_as c.args.u) c.requires.0 in
    omega (arith, r.trees)

pub overflow_add-result-2 : goal.overflow_add-result-2
overflow_add-result-2 c =
    let r = roomy (counts_as c.args.u) c.requires.0 in
    omega (arith, r.entries, c.requires.1)

pub overflow_add-result-3 : goal.overflow_add-result-3
overflow_add-result-3 c =
    let r = roomy (counts_as c.args.u) c.requires.0 in
    omega (arith, r.names, c.requires.2)

pub overflow_add-result-4 : goal.overflow_add-result-4
overflow_add-result-4 c =
    let r = roomy (counts_as c.args.u) c.requires.0 in
    omega (arith, r.paths, c.requires.3)

pub returns : goal.returns
returns c =
    let a = c.args in
    λ q t en ee em. plus_tree_lem (counts_as a.u) a.n a.size.entries a.size.name_bytes q t en ee em
