-- What was written ends within the output, whose length stays.
use Rattle.std.proofs.Common.{◌≤◌, length}
use Rattle.test_git.proofs.again.rewrite.Given as goal

abbrev pub invariant-loop : goal.invariant-loop
invariant-loop l = l.to ≤ length l.out
