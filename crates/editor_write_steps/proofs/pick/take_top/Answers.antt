-- `editor_write_steps::pick::take_top` meets its contract: as many are stacked after the scan as before it where no cached tree lies under the one in hand. Assumes nothing.
use mathlib.Core.Path.{◌≡◌, sym, ap, ◌∙◌}
use mathlib.Core.Bool.{false}
use mathlib.Core.List.{[], ◌∷◌}
use Rattle.model.specs.Write.{Going}
use Rattle.store_slots.specs.Stores.{held_in_slot}
use Rattle.store_taken.specs.Taken.{going_of}
use Rattle.editor_write_steps.specs.Writes.{turned, scanned_on}
use Rattle.editor_write_steps.proofs.TurnLaws.{stack_long, top_finished, top_aside}
use Rattle.editor_write_steps.proofs.pick.take_top.Goals as goal
use Rattle.editor_write_steps.proofs.pick.take_top.Goals.{After-scan-s}

-- the write without the tree in hand
abbrev popped : After-scan-s → Going
popped c = let s = c.args.s.now in going_of c.args.width c.pop-slot.new.ed s.plens.now s.paths.now s.tlens.now s.trees.now c.args.order.now

-- the same after the scan
abbrev left : After-scan-s → Going
left c = let s = c.args.s.now in going_of c.args.width c.scan-s.result s.plens.now s.paths.now s.tlens.now s.trees.now c.scan-s.new.order

scanned : (c : After-scan-s) → left c ≡ scanned_on (held_in_slot c.args.width c.args.s.now c.pop-slot.result).path (held_in_slot c.args.width c.args.s.now c.pop-slot.result).held (popped c)
scanned c = let e = c.view.ensures in rw (e.ed, e.plens, e.paths, e.tlens, e.trees) at c.scan-s.ensures.going

pub returns-then-s-left-clause-turn : goal.returns-then-s-left-clause-turn
returns-then-s-left-clause-turn c =
    let w = c.args.width in
    let s = c.args.s.now in
    let one = stack_long c.pop-slot.new.ed c.args.order.now (c.pop-slot.result ∷ []) c.pop-slot.ensures.between w s.plens.now s.paths.now s.tlens.now s.trees.now in
    let two = stack_long c.scan-s.result c.scan-s.new.order (c.pop-slot.result ∷ []) c.scan-s.ensures.between w s.plens.now s.paths.now s.tlens.now s.trees.now in
    let d = (goal.at.returns-then-s-left-clause-turn c).After-scan-s in
    top_finished (held_in_slot w s c.pop-slot.result) (popped d) (left d) (scanned d) (two ∙ c.if-s-left.true ∙ sym one)
    ∙ sym (ap turned (c.pop-slot.ensures.going w s.plens.now s.paths.now s.tlens.now s.trees.now))

pub returns-else-s-left-clause-turn : goal.returns-else-s-left-clause-turn
returns-else-s-left-clause-turn c =
    let w = c.args.width in
    let s = c.args.s.now in
    let one = stack_long c.pop-slot.new.ed c.args.order.now (c.pop-slot.result ∷ []) c.pop-slot.ensures.between w s.plens.now s.paths.now s.tlens.now s.trees.now in
    let two = stack_long c.scan-s.result c.scan-s.new.order (c.pop-slot.result ∷ []) c.scan-s.ensures.between w s.plens.now s.paths.now s.tlens.now s.trees.now in
    let d = (goal.at.returns-else-s-left-clause-turn c).After-scan-s in
    ap (λ (g : Going). record { finish = false; hand = held_in_slot w s c.pop-slot.result; rest = g }) (c.set_aside.ensures.going w s.plens.now s.paths.now s.tlens.now s.trees.now)
    ∙ top_aside (held_in_slot w s c.pop-slot.result) (popped d) (left d) (scanned d) (λ q. c.if-s-left.false (sym two ∙ q ∙ one))
    ∙ sym (ap turned (c.pop-slot.ensures.going w s.plens.now s.paths.now s.tlens.now s.trees.now))
