-- `names_salvage::table::Table::insert` meets its contract: the slots from the place on have moved up, and those before it stand as they were. Assumes nothing.
use Prim.Native.Nat.{◌+◌}
use mathlib.Core.Path.{◌≡◌, subst}
use mathlib.Core.List.{List, ◌∷◌, ◌++◌}
use lib.ListN.{take, drop}
use Rattle.names_salvage.specs.declared.table.Slot.{Slot}
use Rattle.names_salvage.proofs.table.Table.insert.Goals as goal

pub returns : goal.returns
returns c =
    let a = c.args in
    let s = c.self.inside in
    subst (λ (l : List Slot). take (s.len + 1) c.put_before.new.slots ≡ take a.i l ++ (a.slot ∷ drop a.i l)) c.self.view_is c.put_before.ensures
