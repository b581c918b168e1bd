-- `store_slots::start` meets its contract: it is the first that was set aside, or the requested one where none was. Assumes nothing.
use mathlib.Core.Path.{refl}
use Prim.Native.Nat.{◌-◌}
use native.Mathlib.Omega.{arith}
use mathlib.Core.List.{◌++◌}
use lib.ListN.{take, drop}
use Rattle.model.proofs.ByteLaws.{has_here}
use Rattle.store_slots.specs.View.{held_at}
use Rattle.store_slots.proofs.StartLaws.{start_asked, start_first, first_taken, start_now, start_later}
use Rattle.store_slots.proofs.start.Goals as goal

pub returns-then-r-eq0 : goal.returns-then-r-eq0
returns-then-r-eq0 c =
    let r = c.args.r in
    let order = c.args.order.now in record { start = λ w plens paths tlens trees. start_asked (held_at w plens paths tlens trees) order r.aside r.asked c.if-r-eq0.true; taken = has_here r.asked r.asked (take r.aside order ++ drop (64 - r.stacked) order) refl; slot = start_now r.aside r.asked order c.if-r-eq0.true }

pub returns-else-r-eq0 : goal.returns-else-r-eq0
returns-else-r-eq0 c =
    let r = c.args.r in
    let order = c.args.order.now in record { start = λ w plens paths tlens trees. start_first (held_at w plens paths tlens trees) order r.aside r.asked c.if-r-eq0.false (omega (arith, c.requires)); taken = first_taken order r.aside r.asked (drop (64 - r.stacked) order) c.if-r-eq0.false (omega (arith, c.requires)); slot = start_later r.aside r.asked order c.if-r-eq0.false }
