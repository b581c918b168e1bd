-- `editor::look::get` meets its contract: a store that holds no editor is refused, and the fronts of the others decide. Assumes nothing.
use mathlib.Core.Path.{sym}
use lib.ListN.{take}
use lib.Seq.{length-take-le}
use Rattle.std.proofs.Common.{rules}
use Rattle.model.specs.Paths.{base}
use Rattle.editor_walk.specs.Lookups.{looked_as}
use Rattle.editor.specs.Lent.{Good, lent_seen}
use Rattle.editor.proofs.LookLaws.{trees_long, front_laid, front_closed, answers}
use Rattle.editor.proofs.look.get.Goals as goal
use Rattle.editor.proofs.look.get.Goals.{Else-not-holds}

-- the store holds an editor
good : (c : Else-not-holds) → Good (lent_seen c.args.v c.args.order.now)
good c = c.holds.ensures.yes (search rules)

pub slice_bounds-fronts-end-4 : goal.slice_bounds-fronts-end-4
slice_bounds-fronts-end-4 c =
    let v = c.args.v in
    sym (length-take-le 38912 v.trees.now (trees_long v.ed v.plens.now v.paths.now v.tlens.now v.trees.now c.args.order.now (good (goal.at.slice_bounds-fronts-end-4 c).Else-not-holds)))

pub look_held-requires : goal.look_held-requires
look_held-requires c =
    let v = c.args.v in
    let g = good (goal.at.look_held-requires c).Else-not-holds in
    (front_laid v.ed v.plens.now v.paths.now v.tlens.now v.trees.now c.args.order.now g, front_closed v.ed v.plens.now v.paths.now v.tlens.now v.trees.now c.args.order.now g)

pub returns : goal.returns
returns c =
    let a = c.args in
    answers a.prefix.now a.path.now (lent_seen a.v a.order.now) (good (goal.at.returns c).Else-not-holds) (looked_as (base a.path.now) c.look_held.result) (c.look_held.ensures (take 64 a.order.now))
