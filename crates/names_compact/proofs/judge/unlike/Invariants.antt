use Prim.Native.Nat.{◌-◌}
use Rattle.names_compact.proofs.AheadLaws.{Together}
use Rattle.names_compact.proofs.judge.unlike.Given as goal

abbrev pub invariant-loop-i : goal.invariant-loop-i
invariant-loop-i l = Together l.a l.b l.i

abbrev pub decreases-loop-i : goal.decreases-loop-i
decreases-loop-i l = l.last - l.i
