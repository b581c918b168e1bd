-- `store_trees::load::load` meets its contract: an empty tree is cached under the path, then filled. Assumes nothing.
use mathlib.Core.Path.{◌≡◌, ◌∙◌}
use mathlib.Core.List.{[]}
use Rattle.std.proofs.Math.Option.{some}
use Rattle.model.specs.Raw.{read_tree}
use Rattle.model.specs.Tree.{Tree}
use Rattle.model.specs.Map.{put}
use Rattle.model.specs.Editor.{at}
use Rattle.store_runs.specs.Digits.{digits}
use Rattle.store_slots.specs.View.{Laid, view_of, held_as}
use Rattle.store_slots.specs.Stores.{view_in}
use Rattle.store_entries.specs.Entries.{Edited}
use Rattle.store_trees.proofs.Loads.{takes, less_fits, still_blank, still_fits, loaded_view, loaded_hidden, loaded_write, loaded_digits}
use Rattle.store_trees.proofs.load.load.Goals as goal
use Rattle.store_trees.proofs.load.load.Goals.{After-fill_slot}

pub add_empty-slot-requires : goal.add_empty-slot-requires
add_empty-slot-requires c =
    let a = c.args in
    let s = c.args.s.now in
    let k = takes a.width a.raw.now a.size.entries a.size.name_bytes c.requires.3 in
    (c.requires.0, c.requires.2, c.requires.4, less_fits a.path.now k.tree (view_of a.width s.ed s.plens.now s.paths.now s.tlens.now s.trees.now) c.requires.4 (c.requires.5 k.tree k.reads))

pub fill_slot-requires : goal.fill_slot-requires
fill_slot-requires c =
    let a = c.args in
    let s = c.args.s.now in
    let n = c.add_empty-slot.new.self in
    let k = c.add_empty-slot.result in
    let e = c.add_empty-slot.ensures in
    let L : Laid a.width n.ed n.plens.now n.paths.now s.tlens.now s.trees.now = rw (e.trees.tlens, e.trees.trees) at e.laid in
    let V : view_of a.width n.ed n.plens.now n.paths.now s.tlens.now s.trees.now ≡ put at (held_as a.path.now []) (view_in a.width s) = rw (e.trees.tlens, e.trees.trees) at e.view in (
      e.laid,
      c.requires.1,
      e.slot.0,
      rw (e.trees.tlens, e.trees.trees) (still_blank a.width s.ed n.ed s.plens.now s.paths.now s.tlens.now s.trees.now n.plens.now n.paths.now a.path.now k L e.slot.0 e.slot.1 V),
      c.requires.3,
      λ t r. rw (e.trees.tlens, e.trees.trees) (still_fits a.width s.ed n.ed s.plens.now s.paths.now s.tlens.now s.trees.now n.plens.now n.paths.now a.path.now k L e.slot.0 e.slot.1 V t (c.requires.5 t r)),
    )

-- the edit of the slot that was blank, over the runs of trees as they were
edited : (c : After-fill_slot) (t : Tree) → read_tree c.args.width c.args.raw.now ≡ some t
    → Edited c.args.width c.add_empty-slot.new.self.ed c.add_empty-slot.new.self.plens.now c.add_empty-slot.new.self.paths.now c.args.s.now.tlens.now c.args.s.now.trees.now c.add_empty-slot.result t
    c.fill_slot.new.s.ed c.fill_slot.new.s.tlens.now c.fill_slot.new.s.trees.now
edited c t r = let e = c.add_empty-slot.ensures in rw (e.trees.tlens, e.trees.trees) at (c.fill_slot.ensures.edited t r).edit

pub returns : goal.returns
returns c =
    let a = c.args in
    let s = c.args.s.now in
    let n = c.add_empty-slot.new.self in
    let k = c.add_empty-slot.result in
    let e = c.add_empty-slot.ensures in
    let q = c.fill_slot.new.s in
    let g = takes a.width a.raw.now a.size.entries a.size.name_bytes c.requires.3 in
    let f = c.fill_slot.ensures.edited g.tree g.reads in
    let x = edited (goal.at.returns c).After-fill_slot g.tree g.reads in
    let L : Laid a.width n.ed n.plens.now n.paths.now s.tlens.now s.trees.now = rw (e.trees.tlens, e.trees.trees) at e.laid in
    let V : view_of a.width n.ed n.plens.now n.paths.now s.tlens.now s.trees.now ≡ put at (held_as a.path.now []) (view_in a.width s) = rw (e.trees.tlens, e.trees.trees) at e.view in
    record {
      view = λ t r. rw (f.keys.plens, f.keys.paths) (loaded_view a.width s.ed n.ed s.plens.now s.paths.now s.tlens.now s.trees.now n.plens.now n.paths.now a.path.now k L e.slot.0 e.slot.1 V q.ed q.tlens.now q.trees.now t (edited (goal.at.returns c).After-fill_slot t r));
      slot = (x.used, rw (f.keys.plens, f.keys.paths) e.slot.1, λ t r. (c.fill_slot.ensures.edited t r).edit.tree);
      laid = rw (f.keys.plens, f.keys.paths) x.laid;
      others = (rw (f.keys.plens, f.keys.paths) e.others.0, x.others, loaded_digits a.width s.ed n.ed s.plens.now s.paths.now s.tlens.now s.trees.now n.plens.now n.paths.now a.path.now k L e.slot.0 e.slot.1 V q.ed q.tlens.now q.trees.now g.tree x (digits 64 s.ed.free) e.others.1);
      same = (
        loaded_hidden a.width s.ed n.ed s.plens.now s.paths.now s.tlens.now s.trees.now n.plens.now n.paths.now a.path.now k L e.slot.0 e.slot.1 V q.ed q.tlens.now q.trees.now g.tree x e.same.0,
        loaded_write a.width s.ed n.ed s.plens.now s.paths.now s.tlens.now s.trees.now n.plens.now n.paths.now a.path.now k L e.slot.0 e.slot.1 V q.ed q.tlens.now q.trees.now g.tree x e.same.1,
      );
      lent =
          let l = c.fill_slot.ensures.lent in
          record { plens = l.plens ∙ e.lent.plens; paths = l.paths ∙ e.lent.paths; tlens = l.tlens ∙ e.lent.tlens; trees = l.trees ∙ e.lent.trees };
    }
