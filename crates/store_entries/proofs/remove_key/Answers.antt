-- `store_entries::remove_key` meets its contract: what the search finds is what the model deletes. Assumes nothing.
use mathlib.Core.Path.{◌≡◌, refl, ap}
use native.Mathlib.Omega.{arith}
use lib.ListN.{length}
use Rattle.model.proofs.SoundTrees.{del_absent}
use Rattle.model.specs.Tree.{key}
use Rattle.names_compact.specs.Compact.{entry_at}
use Rattle.store_slots.specs.View.{tree_of}
use Rattle.store_slots.proofs.StoreLaws.{tree_seen}
use Rattle.store_entries.proofs.EditLaws.{good_run, missed, unchanged, index_in, in_run, some_entry, some_names, removing}
use Rattle.store_entries.proofs.remove_key.Goals as goal
use Rattle.store_entries.proofs.remove_key.Goals.{After-name_at-n}

pub invariant_of-tree : goal.invariant_of-tree
invariant_of-tree c = record { run = good_run c.requires.0 c.requires.2 (tree_seen _ _ _ _ c.view.ensures c.tree_in.ensures); narrow = c.requires.1 }

pub returns-in_default : goal.returns-in_default
returns-in_default c =
    let a = c.args in
    let s = c.args.s.now in
    record { edit = unchanged c.requires.0 c.requires.2 _ (del_absent key _ (tree_of a.width s.tlens.now s.trees.now a.slot) (missed c.requires.0 c.requires.2 (tree_seen _ _ _ _ c.view.ensures c.tree_in.ensures) _ c.in_default.ensures)); keys = record { plens = refl; paths = refl }; lent = record { plens = refl; paths = refl; tlens = refl; trees = refl } }

pub name_at-n-requires : goal.name_at-n-requires
name_at-n-requires c = (c.in-Ok.ensures.start, index_in c.requires.0 c.requires.2 (tree_seen _ _ _ _ c.view.ensures c.tree_in.ensures) _ c.in-Ok.ensures)

-- the length of the name that was found
named : (c : After-name_at-n) → length c.name_at-n.result.now ≡ length (entry_at c.args.width c.tree_in.result.now c.in-Ok.place.index).name
named c = ap length c.name_at-n.ensures

pub remove-s-requires : goal.remove-s-requires
remove-s-requires c =
    let n = named (goal.at.remove-s-requires c).After-name_at-n in
    (c.requires.0.trees_sound, omega (arith, c.requires.0.tlens_64, c.requires.2.low), omega (arith, n, in_run c.requires.0 c.requires.2 (tree_seen _ _ _ _ c.view.ensures c.tree_in.ensures) _ c.in-Ok.ensures))

pub overflow_sub-left : goal.overflow_sub-left
overflow_sub-left c = some_entry c.requires.0 c.requires.2 (tree_seen _ _ _ _ c.view.ensures c.tree_in.ensures) _ c.in-Ok.ensures

pub overflow_sub-names : goal.overflow_sub-names
overflow_sub-names c = omega (arith, named (goal.at.overflow_sub-names c).After-name_at-n, some_names c.requires.0 c.requires.2 (tree_seen _ _ _ _ c.view.ensures c.tree_in.ensures) _ c.in-Ok.ensures)

pub returns-in-Ok : goal.returns-in-Ok
returns-in-Ok c =
    record {
      edit = removing c.requires.0 c.requires.2 (tree_seen _ _ _ _ c.view.ensures c.tree_in.ensures) _ c.in-Ok.ensures (length c.name_at-n.result.now) (named (goal.at.returns-in-Ok c).After-name_at-n) _ c.remove-s.new.lens c.remove-s.new.bytes
          c.remove-s.ensures.view c.remove-s.auto.lens c.remove-s.auto.bytes c.remove-s.ensures.sound.0 (record { free = refl; hidden = refl; paths = refl; write = record { «open» = refl; aside = refl; stacked = refl; asked = refl } }) refl refl;
      keys = record { plens = refl; paths = refl };
      lent = record { plens = refl; paths = refl; tlens = refl; trees = refl };
    }
