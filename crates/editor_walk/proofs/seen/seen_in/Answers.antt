-- `editor_walk::seen::seen_in` meets its contract: each search finds what the model's map finds in its order, and the second is made only where the first finds nothing. Assumes nothing.
use mathlib.Core.Path.{refl, sym, ap, ◌∙◌}
use mathlib.Core.Bool.{not}
use mathlib.Core.Option.{none}
use Rattle.model.specs.Tree.{as_kind}
use Rattle.names_compact.specs.Compact.{unpack}
use Rattle.editor_terms.specs.Edits.{parts_of}
use Rattle.editor_walk.proofs.SeenLaws.{search_hit, search_miss, by_first, by_second}
use Rattle.editor_walk.proofs.seen.seen_in.Goals as goal

pub entry_seen-requires : goal.entry_seen-requires
entry_seen-requires c =
    let s = c.in-Ok.ensures in
    let h = search_hit 20 c.args.tree.now (as_kind c.args.tree_first c.args.name.now) s c.requires.1 refl in
    (refl, s.start, h.0)

pub returns-in-Ok : goal.returns-in-Ok
returns-in-Ok c =
    let h = search_hit 20 c.args.tree.now (as_kind c.args.tree_first c.args.name.now) c.in-Ok.ensures c.requires.1 refl in
    c.entry_seen.ensures ∙ ap parts_of (sym (by_first c.args.name.now (unpack 20 c.args.tree.now) c.args.tree_first _ h.1))

pub entry_seen-requires-in-Ok-search_twin : goal.entry_seen-requires-in-Ok-search_twin
entry_seen-requires-in-Ok-search_twin c =
    let s = c.in-Ok-search_twin.ensures.there refl in
    let h = search_hit 20 c.args.tree.now (as_kind (not c.args.tree_first) c.args.name.now) s c.requires.1 refl in
    (refl, s.start, h.0)

pub returns-in-Ok-search_twin : goal.returns-in-Ok-search_twin
returns-in-Ok-search_twin c =
    let m = search_miss 20 c.args.tree.now (as_kind c.args.tree_first c.args.name.now) c.in-Err.ensures c.requires.1 refl in
    let h = search_hit 20 c.args.tree.now (as_kind (not c.args.tree_first) c.args.name.now) (c.in-Ok-search_twin.ensures.there refl) c.requires.1 refl in
    c.entry_seen-in-Ok-search_twin.ensures ∙ ap parts_of (sym (by_second c.args.name.now (unpack 20 c.args.tree.now) c.args.tree_first _ m h.1))

pub returns-in-Err-search_twin : goal.returns-in-Err-search_twin
returns-in-Err-search_twin c =
    let m = search_miss 20 c.args.tree.now (as_kind c.args.tree_first c.args.name.now) c.in-Err.ensures c.requires.1 refl in
    sym (ap parts_of (by_second c.args.name.now (unpack 20 c.args.tree.now) c.args.tree_first none m (c.in-Err-search_twin.ensures.nowhere refl)))
