use lib.ListN.{length}
use Prim.Native.Nat.{◌-◌}
use Rattle.model.specs.Raw.{read_tree}
use Rattle.names.specs.Check.{size_of, Checking}
use Rattle.names.specs.Places.{entries_at}
use Rattle.names.proofs.tree.well_formed.Given as goal

abbrev pub invariant-loop-at : goal.invariant-loop-at
invariant-loop-at l = Checking (size_of (read_tree l.width l.raw)) (length l.raw) (entries_at l.raw l.width l.at) l.at l.entries l.name_bytes l.prev.name.now l.prev.tree

abbrev pub decreases-loop-at : goal.decreases-loop-at
decreases-loop-at l = length l.raw - l.at
