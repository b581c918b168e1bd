-- `store_taken::close` meets its contract: just the free slots are hidden again. Assumes nothing.
use mathlib.Core.Path.{refl, ap}
use mathlib.Core.Option.{none}
use Rattle.model.specs.Editor.{Cache}
use Rattle.model.specs.Editor.{Editor as Model}
use Rattle.store_slots.specs.declared.Record.{Record}
use Rattle.store_taken.proofs.Ends.{closed_cache, closed_ordered}
use Rattle.store_taken.proofs.close.Goals as goal

abbrev empty : Cache → Model
empty x = record { cached = x; writing = none }

pub returns : goal.returns
returns c =
    let a = c.args in
    let q : Record = record { free = a.ed.now.free; hidden = a.ed.now.free; paths = a.ed.now.paths; trees = a.ed.now.trees; entries = a.ed.now.entries; names = a.ed.now.names; «open» = 0; aside = 0; stacked = 0; asked = 0 } in record { cache = λ w plens paths tlens trees order slot L b ea es. ap empty (closed_cache a.ed.now order slot b w plens paths tlens trees L ea es); ordered = λ order l. closed_ordered q order l refl (record { hidden = refl; aside = refl; stacked = refl; asked = refl }); same = (record { free = refl; paths = refl; trees = refl; entries = refl; names = refl }, refl) }
