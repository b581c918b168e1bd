-- What is left of the input is no longer than it.
use Rattle.std.proofs.Common.{◌≤◌, length}
use Rattle.test_hash.proofs.cases.replay.Given as goal

abbrev pub invariant-loop-k : goal.invariant-loop-k
invariant-loop-k g l = length l.rest ≤ length l.input

abbrev pub decreases-loop-k : goal.decreases-loop-k
decreases-loop-k g l = length l.rest
