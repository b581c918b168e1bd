-- `store_taken::stack` meets its contract: the slot is hidden, and the new first word of the table's back. Assumes nothing.
use mathlib.Core.Path.{refl}
use Prim.Native.Nat.{◌+◌}
use native.Mathlib.Omega.{arith}
use Rattle.store_slots.specs.declared.Record.{Record}
use Rattle.store_taken.proofs.Steps.{room_more, stack_between, stack_going}
use Rattle.store_taken.proofs.stack.Goals as goal

pub overflow_sub-order : goal.overflow_sub-order
overflow_sub-order c =
    let a = c.args in
    omega (arith, room_more a.ed.now a.order.now c.requires.0.0 c.requires.0.1 a.slot c.requires.1)

pub returns : goal.returns
returns c =
    let a = c.args in
    let q : Record = record { free = a.ed.now.free; hidden = c.set-ed.result; paths = a.ed.now.paths; trees = a.ed.now.trees; entries = a.ed.now.entries; names = a.ed.now.names; «open» = a.ed.now.«open»; aside = a.ed.now.aside; stacked = a.ed.now.stacked + 1; asked = a.ed.now.asked } in record { going = λ w plens paths tlens trees L. stack_going a.ed.now a.order.now c.requires.0.0 c.requires.0.1 a.slot c.requires.1 q refl c.set-ed.ensures.0 refl refl refl w plens paths tlens trees L; between = λ hand b. stack_between a.ed.now a.order.now hand b a.slot c.requires.1 q refl c.set-ed.ensures.0 refl refl refl; same = (record { free = refl; paths = refl; trees = refl; entries = refl; names = refl }, refl, refl, refl, refl) }
