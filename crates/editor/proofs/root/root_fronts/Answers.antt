-- `editor::root::root_fronts` meets its contract: the fronts are put back before what lies behind them. Assumes nothing.
use mathlib.Core.Path.{◌≡◌, ◌∙◌}
use lib.ListN.{length, take}
use lib.Seq.{length-take-le}
use Rattle.editor.specs.Lent.{lent}
use Rattle.editor.proofs.RootLaws.{root_done, back, back_view, back_good, back_behind}
use Rattle.editor.proofs.root.root_fronts.Goals as goal

pub returns : goal.returns
returns c order o =
    let a = c.args in
    let n = c.root_exact.new in
    let x = c.root_exact.auto in
    let l₁ : length n.plens ≡ 64 = x.plens ∙ length-take-le 64 a.plens.now c.requires.0 in
    let l₂ : length n.paths ≡ 8192 = x.paths ∙ length-take-le 8192 a.paths.now c.requires.1 in
    let l₃ : length n.tlens ≡ 64 = x.tlens ∙ length-take-le 64 a.tlens.now c.requires.2 in
    let l₄ : length n.trees ≡ 38912 = x.trees ∙ length-take-le 38912 a.trees.now c.requires.3 in
    let k = length-take-le 64 order o in
    root_done a.raw.now (lent a.ed.now a.plens.now a.paths.now a.tlens.now a.trees.now order) a.size.entries a.size.name_bytes c.requires.4 c.requires.5 c.requires.6
    (back n.ed a.plens.now a.paths.now a.tlens.now a.trees.now n.plens n.paths n.tlens n.trees order l₁ l₂ l₃ l₄)
    (back_behind n.ed a.plens.now a.paths.now a.tlens.now a.trees.now n.plens n.paths n.tlens n.trees order l₁ l₂ l₃ l₄ a.ed.now)
    (λ t z. (
      back_good n.ed a.plens.now a.paths.now a.tlens.now a.trees.now n.plens n.paths n.tlens n.trees order l₁ l₂ l₃ l₄ o (c.root_exact.ensures.holds t z (take 64 order) k),
      back_view n.ed a.plens.now a.paths.now a.tlens.now a.trees.now n.plens n.paths n.tlens n.trees order l₁ l₂ l₃ l₄ ∙ c.root_exact.ensures.is t z (take 64 order) k,
    ))
