-- `editor_walk::measure::seen_at` meets its contract, by the tree at hand. Assumes nothing.
use mathlib.Core.Path.{sym, ap, ◌∙◌, subst}
use Rattle.model.specs.Map.{rising}
use Rattle.model.specs.Tree.{Tree, key, entry_of}
use Rattle.names_compact.specs.Compact.{Run, unpack}
use Rattle.editor_terms.specs.Edits.{parts_of}
use Rattle.editor_walk.proofs.MeasureLaws.{stored_tree, stands_as}
use Rattle.editor_walk.proofs.measure.seen_at.Goals as goal

pub seen_in-requires : goal.seen_in-requires
seen_in-requires c =
    let k = c.in-Slot.slot in
    let y = stands_as c.args.v.tlens.now c.args.v.trees.now c.requires.1.0 c.in-Slot.is c.requires.1.1 in (
      subst (Run 20) (sym c.tree_in.ensures) (c.requires.0.runs k y.0),
      ap (λ (t : Tree). rising key t) (ap (unpack 20) c.tree_in.ensures ∙ stored_tree c.requires.0 k y.0) ∙ c.requires.0.order k y.0,
    )

pub returns-in-Slot : goal.returns-in-Slot
returns-in-Slot c =
    record {
      is = λ t h.
          let y = stands_as c.args.v.tlens.now c.args.v.trees.now t c.in-Slot.is h in
          c.seen_in.ensures ∙ ap (λ (z : Tree). parts_of (entry_of c.args.name.now z)) (ap (unpack 20) c.tree_in.ensures ∙ stored_tree c.requires.0 c.in-Slot.slot y.0 ∙ sym y.1);
    }
