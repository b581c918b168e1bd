-- `store_trees::raw::raw_len_of` meets its contract: the slot's run is its tree's packed form. Assumes nothing.
use mathlib.Core.Path.{ap, ◌∙◌}
use native.Mathlib.Omega.{arith}
use lib.ListN.{length}
use Rattle.model.specs.Raw.{raw_tree}
use Rattle.model.specs.Tree.{Tree}
use Rattle.store_trees.proofs.Reading.{run_there, run_small, tree_there}
use Rattle.store_trees.proofs.raw.raw_len_of.Goals as goal

pub tree_in-requires : goal.tree_in-requires
tree_in-requires c = (c.requires.sound, c.requires.low)

pub invariant_of-tree : goal.invariant_of-tree
invariant_of-tree c = record { run = run_there c.requires c.tree_in.ensures; narrow = c.requires.narrow }

pub raw_len-requires : goal.raw_len-requires
raw_len-requires c = omega (arith, ap length c.tree_in.ensures, run_small c.requires)

pub returns : goal.returns
returns c = c.raw_len.ensures ∙ ap (λ (t : Tree). length (raw_tree t)) (tree_there c.requires c.tree_in.ensures)
