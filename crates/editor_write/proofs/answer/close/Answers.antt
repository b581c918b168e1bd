-- `editor_write::answer::close` meets its contract: from the root all but the start tree are dropped, from a cursor it is shown again. Assumes nothing.
use native.Mathlib.Omega.{arith}
use Rattle.store_taken.proofs.Steps.{laid_same}
use Rattle.editor.specs.Lent.{lent, lent_in}
use Rattle.editor_write.proofs.AnswerLaws.{in_hand, none_stacked, ends_root, ends_cursor}
use Rattle.editor_write.proofs.FailLaws.{laid_20}
use Rattle.editor_write.proofs.answer.close.Goals as goal

pub keep_only-requires : goal.keep_only-requires
keep_only-requires c =
    let l = lent_in c.args.s.now c.requires.0.0 in
    (laid_20 l c.requires.0.1, omega arith, (in_hand l c.requires.0.1 c.requires.1).marks.used.0)

pub returns-then-s-eq1-clause-done : goal.returns-then-s-eq1-clause-done
returns-then-s-eq1-clause-done c order id h i =
    ends_root (lent_in c.args.s.now order) h c.requires.1 c.requires.2 id i (lent_in c.keep_only.new.s order) c.keep_only.ensures.laid (c.keep_only.ensures.ordered order h.ordered.order_64) c.if-s-eq1.true (c.keep_only.ensures.editor order)

pub returns-else-s-eq1-clause-done : goal.returns-else-s-eq1-clause-done
returns-else-s-eq1-clause-done c order id h i =
    let s = c.args.s.now in
    let q = c.close.new.ed in
    let l = lent_in s order in
    let n = c.requires.1 in
    let z = c.requires.2 in
    ends_cursor l h n z id i (lent q s.plens.now s.paths.now s.tlens.now s.trees.now order) (laid_same 20 s.ed q s.plens.now s.paths.now s.tlens.now s.trees.now c.close.ensures.same.0 (laid_20 l h)) (c.close.ensures.ordered order h.ordered.order_64) c.if-s-eq1.false
    (c.close.ensures.cache 20 s.plens.now s.paths.now s.tlens.now s.trees.now order s.ed.asked (laid_20 l h) (in_hand l h n) z (none_stacked l h n z))
