-- `store_taken::latest` meets its contract: the last word at the front of the table is its slot. Assumes nothing.
use mathlib.Core.Path.{refl}
use Prim.Native.Nat.{◌-◌}
use Rattle.store_slots.specs.declared.Record.{Record}
use Rattle.store_taken.proofs.Steps.{latest_between, latest_going}
use Rattle.store_taken.proofs.latest.Goals as goal

pub returns : goal.returns
returns c =
    let a = c.args in
    let q : Record = record { free = a.ed.now.free; hidden = a.ed.now.hidden; paths = a.ed.now.paths; trees = a.ed.now.trees; entries = a.ed.now.entries; names = a.ed.now.names; «open» = a.ed.now.«open»; aside = a.ed.now.aside - 1; stacked = a.ed.now.stacked; asked = a.ed.now.asked } in record { going = latest_going a.ed.now a.order.now c.requires.0 q (record { free = refl; hidden = refl; «open» = refl; aside = refl; stacked = refl }) c.requires.1; between = latest_between a.ed.now a.order.now c.requires.0 q (record { free = refl; hidden = refl; «open» = refl; aside = refl; stacked = refl }) c.requires.1; same = (record { free = refl; paths = refl; trees = refl; entries = refl; names = refl }, refl, refl, refl, refl, refl) }
