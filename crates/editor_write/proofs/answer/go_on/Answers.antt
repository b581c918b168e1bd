-- `editor_write::answer::go_on` meets its contract: the parent's entry gets the id and the tree is dropped, and what the turns then come to is requested. Assumes nothing.
use mathlib.Core.Path.{◌∙◌}
use native.Mathlib.Omega.{arith}
use Rattle.store_taken.proofs.Steps.{laid_same}
use Rattle.editor_terms.specs.Ids.{id_bytes}
use Rattle.editor.specs.Lent.{lent, lent_in}
use Rattle.editor_write.proofs.AnswerLaws.{child, room, linked_steady, goes_on_lem}
use Rattle.editor_write.proofs.FailLaws.{laid_20}
use Rattle.editor_write.proofs.answer.go_on.Goals as goal

pub link-requires : goal.link-requires
link-requires c =
    let o = c.args.order.now in
    let l = lent_in c.args.s.now o in
    (laid_20 l c.requires.0, omega arith, (o, child l c.requires.0 c.requires.1 c.requires.2), omega arith, room l c.requires.0 c.requires.1 c.requires.2)

pub onward-next-requires : goal.onward-next-requires
onward-next-requires c =
    let o = c.args.order.now in
    let l = lent_in c.args.s.now o in
    let one = c.link.new.s in
    let k = child l c.requires.0 c.requires.1 c.requires.2 in
    (c.link.ensures.laid, omega arith, c.link.ensures.between o k, linked_steady l c.requires.0 c.requires.1 c.requires.2 (id_bytes c.args.id) (omega arith) one.ed one.plens.now one.paths.now one.tlens.now one.trees.now (c.link.ensures.going o k))

pub returns-clause-done : goal.returns-clause-done
returns-clause-done c =
    let o = c.args.order.now in
    let l = lent_in c.args.s.now o in
    let one = c.link.new.s in
    let two = c.onward-next.new.s in
    let p = c.onward-next.new.order in
    let q = c.ask.new.ed in
    goes_on_lem l c.requires.0 c.requires.1 c.requires.2 (id_bytes c.args.id) (omega arith) one.ed one.plens.now one.paths.now one.tlens.now one.trees.now (c.link.ensures.going o (child l c.requires.0 c.requires.1 c.requires.2)) two.ed c.onward-next.result
    (lent q two.plens.now two.paths.now two.tlens.now two.trees.now p) c.onward-next.ensures.asks (c.onward-next.ensures.same ∙ c.link.ensures.same.«open»)
    (laid_same 20 two.ed q two.plens.now two.paths.now two.tlens.now two.trees.now c.ask.ensures.same.0 c.onward-next.ensures.laid) (c.ask.ensures.ordered p c.onward-next.ensures.between) (c.ask.ensures.editor 20 two.plens.now two.paths.now two.tlens.now two.trees.now p c.onward-next.ensures.between)
