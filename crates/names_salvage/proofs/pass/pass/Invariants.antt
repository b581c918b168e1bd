use Prim.Native.Nat.{◌-◌}
use lib.ListN.{length}
use Rattle.names_salvage.proofs.PassLaws.{Knows}
use Rattle.names_salvage.proofs.pass.pass.Given as goal

abbrev pub invariant-loop-piece : goal.invariant-loop-piece
invariant-loop-piece l = Knows l.raw l.width l.table l.t

abbrev pub decreases-loop-piece : goal.decreases-loop-piece
decreases-loop-piece l = length l.raw - l.t.at
