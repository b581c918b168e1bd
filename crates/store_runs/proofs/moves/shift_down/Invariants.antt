use Prim.Native.Nat.{◌+◌, ◌-◌}
use Rattle.store_runs.proofs.MoveLaws.{Lowered}
use Rattle.store_runs.proofs.moves.shift_down.Given as goal

abbrev pub invariant-loop-k : goal.invariant-loop-k
invariant-loop-k l = Lowered l.initial.s l.at (l.at + l.n) l.used l.s l.k

abbrev pub decreases-loop-k : goal.decreases-loop-k
decreases-loop-k l = l.used - l.k
