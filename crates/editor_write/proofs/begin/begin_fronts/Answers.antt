-- `editor_write::begin::begin_fronts` meets its contract: the fronts hold an editor, and are put back before what lies behind them. Assumes nothing.
use mathlib.Core.Path.{sym}
use lib.Seq.{length-take-le}
use Rattle.model.specs.Formats.{sha1}
use Rattle.model.specs.Write.{begun}
use Rattle.editor_terms.specs.Answers.{code_number}
use Rattle.editor.specs.Lent.{lent}
use Rattle.editor.proofs.LookLaws.{trees_long}
use Rattle.editor_write.specs.Starts.{start_as}
use Rattle.editor_write.proofs.BackLaws.{does_whole}
use Rattle.editor_write.proofs.FailLaws.{front_holds}
use Rattle.editor_write.proofs.begin.begin_fronts.Goals as goal

pub slice_bounds-begin_exact-end-7 : goal.slice_bounds-begin_exact-end-7
slice_bounds-begin_exact-end-7 c = trees_long _ _ _ _ _ _ c.requires.0

pub slice_bounds-begin_exact-end-8 : goal.slice_bounds-begin_exact-end-8
slice_bounds-begin_exact-end-8 c = sym (length-take-le 38912 c.args.trees.now (trees_long _ _ _ _ _ _ c.requires.0))

pub begin_exact-requires : goal.begin_exact-requires
begin_exact-requires c =
    let a = c.args in
    (front_holds (lent a.ed.now a.plens.now a.paths.now a.tlens.now a.trees.now a.order.now) c.requires.0, c.requires.1)

pub returns : goal.returns
returns c =
    let a = c.args in
    let x = c.begin_exact in
    does_whole (lent a.ed.now a.plens.now a.paths.now a.tlens.now a.trees.now a.order.now) c.requires.0 x.new.ed x.new.plens x.new.paths x.new.tlens x.new.trees x.new.order
    x.auto.plens x.auto.paths x.auto.tlens x.auto.trees x.auto.order (begun sha1 (start_as a.start)) (code_number x.result) x.ensures
