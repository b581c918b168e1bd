-- `editor_write::fail::fail_fronts` meets its contract: the fronts hold an editor, and are put back before what lies behind them. Assumes nothing.
use mathlib.Core.Path.{◌≡◌, sym, ap, ◌∙◌}
use lib.ListN.{length}
use lib.Seq.{length-take-le}
use Rattle.model.specs.Editor.{Editor as Model}
use Rattle.model.specs.Write.{failed}
use Rattle.editor.specs.Lent.{lent}
use Rattle.editor.proofs.LookLaws.{trees_long}
use Rattle.editor.proofs.RootLaws.{back, back_view, back_good, back_behind}
use Rattle.editor_write.proofs.FailLaws.{front_holds, does}
use Rattle.editor_write.proofs.fail.fail_fronts.Goals as goal

pub slice_bounds-fail_exact-end-7 : goal.slice_bounds-fail_exact-end-7
slice_bounds-fail_exact-end-7 c = trees_long _ _ _ _ _ _ c.requires.0

pub slice_bounds-fail_exact-end-8 : goal.slice_bounds-fail_exact-end-8
slice_bounds-fail_exact-end-8 c = sym (length-take-le 38912 c.args.trees.now (trees_long _ _ _ _ _ _ c.requires.0))

pub fail_exact-requires : goal.fail_exact-requires
fail_exact-requires c =
    let a = c.args in
    (front_holds (lent a.ed.now a.plens.now a.paths.now a.tlens.now a.trees.now a.order.now) c.requires.0, c.requires.1)

pub returns : goal.returns
returns c =
    let a = c.args in
    let g = c.requires.0 in
    let x = c.fail_exact in
    let l₁ : length x.new.plens ≡ 64 = x.auto.plens ∙ length-take-le 64 a.plens.now g.plens_room in
    let l₂ : length x.new.paths ≡ 8192 = x.auto.paths ∙ length-take-le 8192 a.paths.now g.paths_room in
    let l₃ : length x.new.tlens ≡ 64 = x.auto.tlens ∙ length-take-le 64 a.tlens.now g.tlens_room in
    let l₄ : length x.new.trees ≡ 38912 = x.auto.trees ∙ length-take-le 38912 a.trees.now (trees_long _ _ _ _ _ _ g) in
    does failed (lent a.ed.now a.plens.now a.paths.now a.tlens.now a.trees.now a.order.now) (back x.new.ed a.plens.now a.paths.now a.tlens.now a.trees.now x.new.plens x.new.paths x.new.tlens x.new.trees a.order.now l₁ l₂ l₃ l₄) g
    (back_good x.new.ed a.plens.now a.paths.now a.tlens.now a.trees.now x.new.plens x.new.paths x.new.tlens x.new.trees a.order.now l₁ l₂ l₃ l₄ g.order_room x.ensures.holds)
    (back_behind x.new.ed a.plens.now a.paths.now a.tlens.now a.trees.now x.new.plens x.new.paths x.new.tlens x.new.trees a.order.now l₁ l₂ l₃ l₄ a.ed.now)
    (ap (λ (E : Model). record { code = 0; editor = E }) (back_view x.new.ed a.plens.now a.paths.now a.tlens.now a.trees.now x.new.plens x.new.paths x.new.tlens x.new.trees a.order.now l₁ l₂ l₃ l₄) ∙ x.ensures.is)
