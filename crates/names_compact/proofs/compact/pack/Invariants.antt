use Prim.Native.Nat.{◌-◌}
use lib.ListN.{length}
use Rattle.names_compact.proofs.PackLaws.{Packing}
use Rattle.names_compact.proofs.compact.pack.Given as goal

abbrev pub invariant-loop-read : goal.invariant-loop-read
invariant-loop-read l = Packing l.width l.raw l.initial.dst l.dst l.at l.to

abbrev pub decreases-loop-read : goal.decreases-loop-read
decreases-loop-read l = length l.raw - l.at
