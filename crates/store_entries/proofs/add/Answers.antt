-- `store_entries::add` meets its contract: with no twin to go, the place that the search of the key gave is the entry's. Assumes nothing.
use mathlib.Core.Path.{◌≡◌, refl, sym, ◌∙◌}
use mathlib.Core.Bool.{false, not}
use Rattle.std.specs.Prelude.{Result, Ok, Err}
use Rattle.std.specs.Result.{is_ok}
use Rattle.model.specs.Map.{del}
use Rattle.model.specs.Tree.{key, as_kind, with_entry}
use Rattle.names.specs.Answers.{as_mode, entry}
use Rattle.names_compact.specs.Compact.{found_of}
use Rattle.names_compact.specs.declared.compact.Place.{Place}
use Rattle.store_slots.specs.View.{tree_of}
use Rattle.store_entries.specs.Entries.{Edited}
use Rattle.store_slots.proofs.StoreLaws.{tree_seen}
use Rattle.store_entries.proofs.EditLaws.{absent, good_run, rising_run, told_back, put_then, fresh_kept, fits_then}
use Rattle.store_entries.proofs.StoreLaws.{edit_is}
use Rattle.store_entries.proofs.add.Goals as goal
use Rattle.store_entries.proofs.add.Goals.{Else-is_ok}

pub invariant_of-tree : goal.invariant_of-tree
invariant_of-tree c = record { run = good_run c.requires.0 c.requires.2 (tree_seen _ _ _ _ c.view.ensures c.tree_in.ensures); narrow = c.requires.1 }

pub search_twin-twin-requires : goal.search_twin-twin-requires
search_twin-twin-requires c =
    let g = c.args.given in
    (rising_run c.requires.0 c.requires.2 (tree_seen _ _ _ _ c.view.ensures c.tree_in.ensures), told_back c.requires.0 c.requires.2 (tree_seen _ _ _ _ c.view.ensures c.tree_in.ensures) c.is_tree.result g.name.now (as_mode g.kind) c.is_tree.ensures c.requires.7)

none_found : (a : Result Place Place) → is_ok a ≡ false → found_of a ≡ false
none_found (Ok p) e = e
none_found (Err p) e = refl

-- the search of the twin found none: the tree without it is the tree
first : (c : Else-is_ok) → Edited c.args.width c.args.s.now.ed c.args.s.now.plens.now c.args.s.now.paths.now c.args.s.now.tlens.now c.args.s.now.trees.now c.args.slot (del key (as_kind (not c.is_tree.result) c.args.given.name.now) (tree_of c.args.width c.args.s.now.tlens.now c.args.s.now.trees.now c.args.slot)) c.args.s.now.ed c.args.s.now.tlens.now c.args.s.now.trees.now
first c =
    absent c.requires.0 c.requires.2 (tree_seen _ _ _ _ c.view.ensures c.tree_in.ensures) (as_kind (not c.is_tree.result) c.args.given.name.now) (c.search_twin-twin.ensures.nowhere (none_found _ (sym c.is_ok.ensures.value ∙ c.if-is_ok.false)))

pub insert_at-requires : goal.insert_at-requires
insert_at-requires c =
    let g = c.args.given in
    let f = first (goal.at.insert_at-requires c).Else-is_ok in
    (c.requires.0, c.requires.1, c.requires.2, c.requires.3, c.requires.4, fresh_kept c.requires.0 c.requires.2 (as_mode g.kind) g.name.now g.id.now c.is_tree.result c.is_tree.ensures f c.requires.5, fits_then c.requires.0 c.requires.2 (as_mode g.kind) g.name.now g.id.now c.is_tree.result c.is_tree.ensures f c.requires.6, c.requires.7)

pub returns-else-is_ok : goal.returns-else-is_ok
returns-else-is_ok c =
    let a = c.args in
    let s = c.args.s.now in
    let g = a.given in
    edit_is c.insert_at.ensures (with_entry (entry g.kind g.name.now g.id.now) (tree_of a.width s.tlens.now s.trees.now a.slot))
    (put_then c.requires.0 c.requires.2 (as_mode g.kind) g.name.now g.id.now c.is_tree.result c.is_tree.ensures (first (goal.at.returns-else-is_ok c).Else-is_ok))
