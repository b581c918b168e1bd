-- `editor_write::answer::answer_fronts` meets its contract: the fronts hold an editor, and are put back before what lies behind them. Assumes nothing.
use mathlib.Core.Path.{sym}
use lib.Seq.{length-take-le}
use Rattle.model.specs.Formats.{sha1}
use Rattle.model.specs.Write.{answered}
use Rattle.editor_terms.specs.Ids.{id_bytes}
use Rattle.editor.specs.Lent.{lent}
use Rattle.editor.proofs.LookLaws.{trees_long}
use Rattle.editor_write.proofs.BackLaws.{made_whole}
use Rattle.editor_write.proofs.FailLaws.{front_holds}
use Rattle.editor_write.proofs.answer.answer_fronts.Goals as goal

pub slice_bounds-answer_exact-end-7 : goal.slice_bounds-answer_exact-end-7
slice_bounds-answer_exact-end-7 c = trees_long _ _ _ _ _ _ c.requires.0

pub slice_bounds-answer_exact-end-8 : goal.slice_bounds-answer_exact-end-8
slice_bounds-answer_exact-end-8 c = sym (length-take-le 38912 c.args.trees.now (trees_long _ _ _ _ _ _ c.requires.0))

pub answer_exact-requires : goal.answer_exact-requires
answer_exact-requires c =
    let a = c.args in
    (front_holds (lent a.ed.now a.plens.now a.paths.now a.tlens.now a.trees.now a.order.now) c.requires.0, c.requires.1)

pub returns : goal.returns
returns c =
    let a = c.args in
    let x = c.answer_exact in
    made_whole (lent a.ed.now a.plens.now a.paths.now a.tlens.now a.trees.now a.order.now) c.requires.0 x.new.ed x.new.plens x.new.paths x.new.tlens x.new.trees x.new.order
    x.auto.plens x.auto.paths x.auto.tlens x.auto.trees x.auto.order (answered sha1 (id_bytes a.id)) x.ensures
