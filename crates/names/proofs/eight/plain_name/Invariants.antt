use Prim.Native.Nat.{◌-◌}
use lib.ListN.{length}
use Rattle.names.proofs.EightLaws.{Seen}
use Rattle.names.proofs.eight.plain_name.Given as goal

abbrev pub invariant-loop-i : goal.invariant-loop-i
invariant-loop-i l = Seen l.s l.i

abbrev pub decreases-loop-i : goal.decreases-loop-i
decreases-loop-i l = length l.s - l.i
