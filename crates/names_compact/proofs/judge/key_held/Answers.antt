-- `names_compact::judge::key_held` meets its contract: the name ends where the entry does, and a kind of 0 is a tree's. Assumes nothing.
use native.Mathlib.Omega.{arith}
use Rattle.names_compact.proofs.JudgeLaws.{ends, whole_name, whole_short, zero_is_tree}
use Rattle.names_compact.proofs.judge.key_held.Goals as goal

pub overflow_add-result : goal.overflow_add-result
overflow_add-result c =
    let x = ends _ _ _ c.requires in
    omega (arith, x.is)

pub overflow_add-result-2 : goal.overflow_add-result-2
overflow_add-result-2 c =
    let x = ends _ _ _ c.requires in
    omega (arith, x.is)

pub slice_bounds-result-count : goal.slice_bounds-result-count
slice_bounds-result-count c =
    let x = ends _ _ _ c.requires in
    omega (arith, x.is)

pub slice_bounds-result-start : goal.slice_bounds-result-start
slice_bounds-result-start c =
    let x = ends _ _ _ c.requires in
    omega (arith, x.is)

pub slice_bounds-result-end : goal.slice_bounds-result-end
slice_bounds-result-end c =
    let x = ends _ _ _ c.requires in
    omega (arith, x.inside)

pub bounds-tree-at : goal.bounds-tree-at
bounds-tree-at c =
    let x = ends _ _ _ c.requires in
    omega (arith, x.is, x.inside)

pub returns-clause-name : goal.returns-clause-name
returns-clause-name c = whole_name _ _ _ c.requires

pub returns-clause-tree : goal.returns-clause-tree
returns-clause-tree c = zero_is_tree _

pub returns-clause-short : goal.returns-clause-short
returns-clause-short c = whole_short _ _ _ c.requires (whole_name _ _ _ c.requires) (λ i. omega (arith, c.type_inv.tree i))
