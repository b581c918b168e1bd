-- `editor_write_steps::turn::onward` meets its contract: each turn is one of the model's, and the write gets lighter with each that makes no request. Assumes nothing.
use mathlib.Core.Path.{refl, ◌∙◌}
use Rattle.store_slots.specs.Stores.{held_in_slot}
use Rattle.store_taken.specs.Taken.{going_in}
use Rattle.editor_write_steps.proofs.OnwardLaws.{onward_begin, onward_ready, onward_asks, onward_more, onward_less}
use Rattle.editor_write_steps.proofs.turn.onward.Goals as goal

pub loop-slot-init : goal.loop-slot-init
loop-slot-init c =
    let s = c.args.s.now in
    (onward_begin c.args.width s.ed s.plens.now s.paths.now s.tlens.now s.trees.now c.args.order.now c.requires.0 c.requires.2 c.requires.3, record { plens = refl; paths = refl; tlens = refl; trees = refl })

pub next-requires : goal.next-requires
next-requires c =
    let n = c.loop-slot.invariant.0 in
    (n.laid, c.requires.1, n.between, onward_ready n)

pub returns-in-Some-clause-asks : goal.returns-in-Some-clause-asks
returns-in-Some-clause-asks c =
    let q = c.next.new.s in
    onward_asks c.loop-slot.invariant.0 (held_in_slot c.args.width q c.in-Some.slot) (going_in c.args.width q c.next.new.order) (rw (c.in-Some.is) at c.next.ensures.step)

pub loop-slot-smaller : goal.loop-slot-smaller
loop-slot-smaller c =
    let q = c.next.new.s in
    onward_less c.loop-slot.invariant.0 q.ed q.plens.now q.paths.now q.tlens.now q.trees.now c.next.new.order (rw (c.in_default.is) at c.next.ensures.step)

pub loop-slot-preserved : goal.loop-slot-preserved
loop-slot-preserved c =
    let q = c.next.new.s in
    let l = c.loop-slot.invariant.1 in
    let e = c.next.ensures in (
      onward_more c.loop-slot.invariant.0 q.ed q.plens.now q.paths.now q.tlens.now q.trees.now c.next.new.order (rw (c.in_default.is) at e.step) e.laid (rw (c.in_default.is) at e.between) e.same,
      record { plens = e.lent.plens ∙ l.plens; paths = e.lent.paths ∙ l.paths; tlens = e.lent.tlens ∙ l.tlens; trees = e.lent.trees ∙ l.trees },
    )
