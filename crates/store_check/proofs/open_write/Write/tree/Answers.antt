-- `store_check::open_write::Write::tree` meets its contract: the tree of a slot is well formed. Assumes nothing.
use mathlib.Core.Path.{refl}
use Rattle.store_check.proofs.ChildLaws.{slot_read}
use Rattle.store_check.proofs.open_write.Write.tree.Goals as goal

pub invariant_of-result : goal.invariant_of-result
invariant_of-result c =
    let q = slot_read c.args.self.taken c.args.k c.run.result.now c.requires c.run.ensures in
    record { run = q.run; narrow = q.narrow }

pub returns : goal.returns
returns c = (refl, c.run.ensures, slot_read c.args.self.taken c.args.k c.run.result.now c.requires c.run.ensures)
