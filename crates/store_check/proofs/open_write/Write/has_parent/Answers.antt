-- `store_check::open_write::Write::has_parent` meets its contract: the parent's slot is found by its path, and one slot has it. Assumes nothing.
use mathlib.Core.Path.{sym, ap, ap₂, ◌∙◌}
use mathlib.Core.Bool.{Bool, ◌&&◌}
use lib.ListN.{take}
use Rattle.model.specs.Bytes.{Bytes, has}
use Rattle.model.specs.Tree.{Tree, entry_of}
use Rattle.model.specs.Paths.{base, dir}
use Rattle.model.specs.Valid.{is_tree_entry}
use Rattle.model.proofs.DirBaseLaws.{base_plain}
use Rattle.names_compact.specs.Compact.{unpack}
use Rattle.store_slots.specs.View.{path_of, tree_of}
use Rattle.store_check.proofs.ParentLaws.{parent_slot, below_slot, below_none, aside_used}
use Rattle.store_check.proofs.open_write.Write.has_parent.Goals as goal

pub returns-in_default : goal.returns-in_default
returns-in_default c =
    let s = c.args.self.store in
    let T = c.args.self.taken in
    sym (below_none s.width s.record s.plens.now s.paths.now s.tlens.now s.trees.now T.lays (path_of s.plens.now s.paths.now c.args.slot) c.parent-parent.result.now
    (c.parent-parent.ensures ∙ ap dir c.path-path.ensures) c.find.result c.find.ensures c.in_default.is (take c.args.n c.args.self.order.now) (aside_used T.opened c.args.n c.requires.0))

pub tree-requires : goal.tree-requires
tree-requires c =
    let s = c.args.self.store in
    let T = c.args.self.taken in
    let p = parent_slot s.width s.record s.plens.now s.paths.now s.tlens.now s.trees.now T.lays (path_of s.plens.now s.paths.now c.args.slot) c.parent-parent.result.now
    (c.parent-parent.ensures ∙ ap dir c.path-path.ensures) c.find.result c.find.ensures c.in-Some.k c.in-Some.is in
    p.0.low

pub has_tree-requires : goal.has_tree-requires
has_tree-requires c = (c.tree.ensures.2.well, ap (has 47) c.filename.ensures ∙ base_plain c.path-path.result.now)

pub returns-then-is_among : goal.returns-then-is_among
returns-then-is_among c =
    let s = c.args.self.store in
    let T = c.args.self.taken in
    let b = below_slot s.width s.record s.plens.now s.paths.now s.tlens.now s.trees.now T.lays (path_of s.plens.now s.paths.now c.args.slot) c.parent-parent.result.now
    (c.parent-parent.ensures ∙ ap dir c.path-path.ensures) c.find.result c.find.ensures c.in-Some.k c.in-Some.is (take c.args.n c.args.self.order.now) (aside_used T.opened c.args.n c.requires.0) in
    c.has_tree.ensures ∙ ap₂ (λ (x : Bytes) (y : Tree). is_tree_entry (entry_of x y)) (c.filename.ensures ∙ ap base c.path-path.ensures) (ap₂ unpack c.tree.ensures.0 c.tree.ensures.1)
    ∙ sym (b ∙ ap (λ (x : Bool). x && is_tree_entry (entry_of (base (path_of s.plens.now s.paths.now c.args.slot)) (tree_of s.width s.tlens.now s.trees.now c.in-Some.k))) (sym c.is_among.ensures ∙ c.if-is_among.true))

pub returns-else-is_among : goal.returns-else-is_among
returns-else-is_among c =
    let s = c.args.self.store in
    let T = c.args.self.taken in
    let b = below_slot s.width s.record s.plens.now s.paths.now s.tlens.now s.trees.now T.lays (path_of s.plens.now s.paths.now c.args.slot) c.parent-parent.result.now
    (c.parent-parent.ensures ∙ ap dir c.path-path.ensures) c.find.result c.find.ensures c.in-Some.k c.in-Some.is (take c.args.n c.args.self.order.now) (aside_used T.opened c.args.n c.requires.0) in
    c.if-is_among.false
    ∙ sym (b ∙ ap (λ (x : Bool). x && is_tree_entry (entry_of (base (path_of s.plens.now s.paths.now c.args.slot)) (tree_of s.width s.tlens.now s.trees.now c.in-Some.k))) (sym c.is_among.ensures ∙ c.if-is_among.false))
