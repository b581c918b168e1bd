-- `editor_write_steps::scan::take_kid` meets its contract: the search of the cached slots finds what the model's cache has at the path. Assumes nothing.
use mathlib.Core.Path.{sym, ap, ◌∙◌}
use mathlib.Core.Option.{Option}
use Rattle.model.specs.Editor.{Held}
use Rattle.store_taken.specs.Taken.{going_of}
use Rattle.editor_write_steps.specs.Writes.{kid_on}
use Rattle.editor_write_steps.proofs.ScanLaws.{slot_some, slot_none, slot_cached}
use Rattle.editor_write_steps.proofs.scan.take_kid.Goals as goal

pub stack-requires : goal.stack-requires
stack-requires c =
    let v = c.args.v in
    (c.requires.2, slot_cached v.ed v.plens.now v.paths.now c.args.path.now c.find.result c.find.ensures c.in-Some.k c.in-Some.is c.requires.1)

pub returns-in-Some-clause-going : goal.returns-in-Some-clause-going
returns-in-Some-clause-going c w tlens trees L =
    let v = c.args.v in
    rw (c.if-is_tree.true)
    (c.stack.ensures.going w v.plens.now v.paths.now tlens trees L
    ∙ ap (λ (o : Option Held). kid_on o (going_of w v.ed v.plens.now v.paths.now tlens trees c.args.order.now)) (sym (slot_some v.ed v.plens.now v.paths.now c.args.path.now c.find.result c.find.ensures w tlens trees L c.in-Some.k c.in-Some.is)))

pub returns-in_default-clause-going : goal.returns-in_default-clause-going
returns-in_default-clause-going c w tlens trees L =
    let v = c.args.v in
    rw (c.if-is_tree.true)
    (ap (λ (o : Option Held). kid_on o (going_of w v.ed v.plens.now v.paths.now tlens trees c.args.order.now)) (sym (slot_none v.ed v.plens.now v.paths.now c.args.path.now c.find.result c.find.ensures w tlens trees L c.in_default.is)))
