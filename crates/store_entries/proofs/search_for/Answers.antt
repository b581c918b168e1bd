-- `store_entries::search_for` meets its contract: the tree that is searched is the slot's run. Assumes nothing.
use Rattle.names.specs.Answers.{as_mode}
use Rattle.store_slots.proofs.StoreLaws.{tree_seen}
use Rattle.store_entries.proofs.EditLaws.{good_run, told}
use Rattle.store_entries.proofs.search_for.Goals as goal

pub invariant_of-tree : goal.invariant_of-tree
invariant_of-tree c = record { run = good_run c.requires.0 c.requires.2 (tree_seen _ _ _ _ c.view.ensures c.tree_in.ensures); narrow = c.requires.1 }

pub returns : goal.returns
returns c = told c.requires.0 c.requires.2 (tree_seen _ _ _ _ c.view.ensures c.tree_in.ensures) _ (as_mode c.args.given.kind) c.is_tree.ensures c.search.ensures
