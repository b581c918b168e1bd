-- `editor_write::begin::begin_slot` meets its contract: the tree is stacked in an empty write, and what the turns come to is requested. Assumes nothing.
use mathlib.Core.Path.{◌∙◌}
use mathlib.Core.List.{[]}
use native.Mathlib.Omega.{arith}
use Rattle.store_taken.proofs.Steps.{laid_same}
use Rattle.editor.specs.Lent.{lent, lent_in}
use Rattle.editor_write.proofs.BeginLaws.{opened, opened_between, opened_laid, first_steady, begins}
use Rattle.editor_write.proofs.begin.begin_slot.Goals as goal

pub stack-requires : goal.stack-requires
stack-requires c =
    let s = c.args.s.now in
    (([], opened_between s.ed c.args.order.now c.requires.0.ordered c.requires.1 c.number-s.result c.args.start c.number-s.ensures), record { low = c.requires.2.low; shown = c.requires.2.shown })

pub onward-next-requires : goal.onward-next-requires
onward-next-requires c =
    let s = c.args.s.now in
    let o = c.args.order.now in
    let n = c.number-s.result in
    let l = opened_laid (lent_in s o) c.requires.0 c.requires.1 c.args.slot c.requires.2 n in (
      laid_same 20 (opened s.ed n) c.stack.new.ed s.plens.now s.paths.now s.tlens.now s.trees.now c.stack.ensures.same.0 l,
      omega arith,
      c.stack.ensures.between [] (opened_between s.ed o c.requires.0.ordered c.requires.1 n c.args.start c.number-s.ensures),
      first_steady (lent_in s o) c.requires.0 c.requires.1 c.args.slot c.requires.2 n c.stack.new.ed c.stack.new.order (c.stack.ensures.going 20 s.plens.now s.paths.now s.tlens.now s.trees.now l),
    )

pub returns-clause-done : goal.returns-clause-done
returns-clause-done c =
    let s = c.args.s.now in
    let n = c.number-s.result in
    let two = c.onward-next.new.s in
    let o = c.onward-next.new.order in
    let q = c.ask.new.ed in
    let l = opened_laid (lent_in s c.args.order.now) c.requires.0 c.requires.1 c.args.slot c.requires.2 n in
    begins (lent_in s c.args.order.now) c.requires.0 c.requires.1 c.args.slot c.requires.2 n c.stack.new.ed c.stack.new.order (c.stack.ensures.going 20 s.plens.now s.paths.now s.tlens.now s.trees.now l) c.args.start c.requires.3 two.ed c.onward-next.result
    (lent q two.plens.now two.paths.now two.tlens.now two.trees.now o) c.onward-next.ensures.asks (c.onward-next.ensures.same ∙ c.stack.ensures.same.1 ∙ c.number-s.ensures)
    (laid_same 20 two.ed q two.plens.now two.paths.now two.tlens.now two.trees.now c.ask.ensures.same.0 c.onward-next.ensures.laid) (c.ask.ensures.ordered o c.onward-next.ensures.between) (c.ask.ensures.editor 20 two.plens.now two.paths.now two.tlens.now two.trees.now o c.onward-next.ensures.between)
