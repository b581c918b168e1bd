-- `store_trees::raw::put_raw` meets its contract: the slot's run is its tree's packed form. Assumes nothing.
use mathlib.Core.Path.{ap, ◌∙◌}
use native.Mathlib.Omega.{arith}
use lib.ListN.{length}
use Rattle.model.specs.Raw.{raw_tree}
use Rattle.model.specs.Tree.{Tree}
use Rattle.names.specs.Splice.{splice}
use Rattle.store_trees.proofs.Reading.{run_there, tree_there}
use Rattle.store_trees.proofs.raw.put_raw.Goals as goal

pub tree_in-requires : goal.tree_in-requires
tree_in-requires c = (c.requires.0.sound, c.requires.0.low)

pub invariant_of-tree : goal.invariant_of-tree
invariant_of-tree c = record { run = run_there c.requires.0 c.tree_in.ensures; narrow = c.requires.0.narrow }

pub put_raw-requires : goal.put_raw-requires
put_raw-requires c = omega (arith, ap (λ (t : Tree). length (raw_tree t)) (tree_there c.requires.0 c.tree_in.ensures), c.requires.1)

pub returns : goal.returns
returns c =
    let h = tree_there c.requires.0 c.tree_in.ensures in
    record { value = c.put_raw.ensures.value ∙ ap (λ (t : Tree). length (raw_tree t)) h; out_after = c.put_raw.ensures.out_after ∙ ap (λ (t : Tree). splice c.args.out.now 0 (raw_tree t)) h }
