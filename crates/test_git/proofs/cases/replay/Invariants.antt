-- A line that ends is part of what is left of the input.
use Rattle.std.proofs.Common.{◌≤◌, ◌-◌, length}
use Rattle.test_git.proofs.cases.replay.Given as goal

abbrev pub invariant-loop-k : goal.invariant-loop-k
invariant-loop-k g l = l.at ≤ length l.input

abbrev pub decreases-loop-k : goal.decreases-loop-k
decreases-loop-k g l = length l.input - l.at
