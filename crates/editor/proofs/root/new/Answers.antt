-- `editor::root::new` meets its contract: slices that are too short are refused, and any others take the root. Assumes nothing.
use Rattle.std.proofs.Common.{rules}
use Rattle.editor.specs.Lent.{Long, lent_in}
use Rattle.editor.proofs.RootLaws.{makes_short, makes}
use Rattle.editor.proofs.root.new.Goals as goal
use Rattle.editor.proofs.root.new.Goals.{Else-not-long_enough}

-- what the view shows is what the store holds
long : (c : Else-not-long_enough) → Long (lent_in c.args.s.now c.args.order.now)
long c = let v = c.view.ensures in rw (v.plens, v.paths, v.tlens, v.trees) at ((c.long_enough.ensures c.args.s.now.ed).yes (search rules))

pub returns-then-not-long_enough-clause-done : goal.returns-then-not-long_enough-clause-done
returns-then-not-long_enough-clause-done c =
    let a = c.args in
    let v = c.view.ensures in
    makes_short a.raw.now (lent_in a.s.now a.order.now) c.long_enough.result (rw (v.plens, v.paths, v.tlens, v.trees) at (c.long_enough.ensures a.s.now.ed)) (search rules)

pub rooted-requires : goal.rooted-requires
rooted-requires c = let l = long (goal.at.rooted-requires c).Else-not-long_enough in (l.plens, l.paths, l.tlens, l.trees)

pub returns-clause-done : goal.returns-clause-done
returns-clause-done c =
    let a = c.args in
    let l = long (goal.at.returns-clause-done c).Else-not-long_enough in
    makes a.raw.now (lent_in a.s.now a.order.now) _ _ (c.rooted.ensures.done a.order.now l.order) l
