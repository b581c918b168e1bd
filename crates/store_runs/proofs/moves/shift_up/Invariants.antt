use Rattle.store_runs.proofs.MoveLaws.{Raised}
use Rattle.store_runs.proofs.moves.shift_up.Given as goal

abbrev pub invariant-loop-k : goal.invariant-loop-k
invariant-loop-k l = Raised l.initial.s l.at l.used l.n l.s l.k

abbrev pub decreases-loop-k : goal.decreases-loop-k
decreases-loop-k l = l.k
