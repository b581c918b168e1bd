-- `store_taken::ask` meets its contract: the tree in hand is the requested one. Assumes nothing.
use mathlib.Core.Path.{refl}
use Rattle.store_slots.specs.declared.Record.{Record}
use Rattle.store_taken.proofs.Steps.{ask_ordered, ask_editor}
use Rattle.store_taken.proofs.ask.Goals as goal

pub returns : goal.returns
returns c =
    let a = c.args in
    let q : Record = record { free = a.ed.now.free; hidden = a.ed.now.hidden; paths = a.ed.now.paths; trees = a.ed.now.trees; entries = a.ed.now.entries; names = a.ed.now.names; «open» = a.ed.now.«open»; aside = a.ed.now.aside; stacked = a.ed.now.stacked; asked = a.slot } in record { ordered = λ order b. ask_ordered a.ed.now order a.slot b q (record { free = refl; hidden = refl; «open» = refl; aside = refl; stacked = refl }) refl; editor = λ w plens paths tlens trees order b. ask_editor a.ed.now order a.slot b w plens paths tlens trees; same = (record { free = refl; paths = refl; trees = refl; entries = refl; names = refl }, refl, refl, refl, refl, refl) }
