-- `editor::root::set_root` meets its contract: a store that holds no editor and an open write are refused, then it is a new root. Assumes nothing.
use lib.ListN.{take}
use Rattle.std.proofs.Common.{rules}
use Rattle.editor.specs.Lent.{Good, lent_in}
use Rattle.editor.proofs.LookLaws.{opened, shut, trees_long}
use Rattle.editor.proofs.RootLaws.{refuses_open, sets_root}
use Rattle.editor.proofs.root.set_root.Goals as goal
use Rattle.editor.proofs.root.set_root.Goals.{Else-not-holds}

-- the store holds an editor, as what it shows does
good : (c : Else-not-holds) → Good (lent_in c.args.s.now c.args.order.now)
good c = let v = c.view.ensures in rw (v.ed, v.plens, v.paths, v.tlens, v.trees) at (c.holds.ensures.yes (search rules))

pub returns-then-s-ne0-clause-done : goal.returns-then-s-ne0-clause-done
returns-then-s-ne0-clause-done c =
    let a = c.args in
    let s = a.s.now in
    refuses_open a.raw.now (lent_in s a.order.now) (good (goal.at.returns-then-s-ne0-clause-done c).Else-not-holds) (opened s.ed (take 64 s.plens.now) (take 8192 s.paths.now) (take 64 s.tlens.now) (take 38912 s.trees.now) (take 64 a.order.now) c.if-s-ne0.true)

pub rooted-requires : goal.rooted-requires
rooted-requires c =
    let s = c.args.s.now in
    let g = good (goal.at.rooted-requires c).Else-not-holds in
    (g.plens_room, g.paths_room, g.tlens_room, trees_long s.ed s.plens.now s.paths.now s.tlens.now s.trees.now c.args.order.now g)

pub returns-clause-done : goal.returns-clause-done
returns-clause-done c =
    let a = c.args in
    let s = a.s.now in
    let g = good (goal.at.returns-clause-done c).Else-not-holds in
    sets_root a.raw.now (lent_in s a.order.now) _ _ (c.rooted.ensures.done a.order.now g.order_room) g (shut s.ed (take 64 s.plens.now) (take 8192 s.paths.now) (take 64 s.tlens.now) (take 38912 s.trees.now) (take 64 a.order.now) c.if-s-ne0.false)
