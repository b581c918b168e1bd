-- `names_salvage::table::Slot::order` meets its contract: the first bytes that differ decide. Assumes nothing.
use mathlib.Core.Path.{ap, ◌∙◌}
use mathlib.Core.Bool.{Bool}
use lib.ListN.{drop}
use Prim.Native.Nat.{ℕ}
use Rattle.names_salvage.specs.Slots.{order_byte}
use Rattle.names_salvage.proofs.StandLaws.{slot_order_is}
use Rattle.names_salvage.proofs.table.Slot.order.Goals as goal

pub returns : goal.returns
returns c =
    let a = c.args in
    c.cmp.ensures
    ∙ slot_order_is a.raw.now a.sought.name.now a.sought.tree a.self.word (c.after-there.ensures ∙ ap (λ (k : ℕ). drop k a.raw.now) c.name_at.ensures) c.shared-i.ensures
    (c.order_byte.ensures ∙ ap (λ (b : Bool). order_byte c.after-there.result.now b c.shared-i.result) c.is_tree.ensures)
    c.order_byte-2.ensures
