use lib.ListN.{length}
use Prim.Native.Nat.{◌-◌}
use Rattle.store_check.proofs.MarkLaws.{Setting}
use Rattle.store_check.proofs.open_write.mark_all.Given as goal

abbrev pub invariant-loop-slot : goal.invariant-loop-slot
invariant-loop-slot l = Setting l.map l.slots (length l.slots - length l.yielded) l.all
