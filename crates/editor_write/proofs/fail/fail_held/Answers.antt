-- `editor_write::fail::fail_held` meets its contract: all taken trees but the start tree are dropped, and it is cached again. Assumes nothing.
use mathlib.Core.List.{[], ◌∷◌}
use native.Mathlib.Omega.{arith}
use Rattle.store_taken.proofs.Steps.{asked_in_hand, laid_same}
use Rattle.editor.specs.Lent.{lent, lent_in}
use Rattle.editor_write.proofs.FailLaws.{laid_20, fails}
use Rattle.editor_write.proofs.fail.fail_held.Goals as goal

pub drop_others-requires : goal.drop_others-requires
drop_others-requires c =
    let s = c.args.s.now in
    let o = c.args.order.now in
    (laid_20 (lent_in s o) c.requires.0, omega arith, (o, s.ed.asked ∷ [], asked_in_hand s.ed o c.requires.0.ordered c.requires.1, c.start-start.ensures.taken))

pub returns-clause-done : goal.returns-clause-done
returns-clause-done c =
    let s = c.args.s.now in
    let o = c.args.order.now in
    let one = c.drop_others.new.s in
    let k = c.start-start.result in
    let q = c.close.new.ed in
    let l = c.requires.0.ordered.order_64 in
    fails (lent_in s o) (lent q one.plens.now one.paths.now one.tlens.now one.trees.now o) one.ed k c.requires.0 c.requires.1 (c.start-start.ensures.start 20 s.plens.now s.paths.now s.tlens.now s.trees.now) c.drop_others.ensures.cache c.drop_others.ensures.others
    (laid_same 20 one.ed q one.plens.now one.paths.now one.tlens.now one.trees.now c.close.ensures.same.0 c.drop_others.ensures.laid) (c.close.ensures.ordered o l)
    (c.close.ensures.cache 20 one.plens.now one.paths.now one.tlens.now one.trees.now o k c.drop_others.ensures.laid (c.drop_others.ensures.between o l) c.drop_others.ensures.same.2 c.drop_others.ensures.same.3)
