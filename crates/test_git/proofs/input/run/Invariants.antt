-- What the buffer holds lies within it.
use Rattle.std.proofs.Common.{◌≤◌, length}
use Rattle.test_git.proofs.input.run.Given as goal

abbrev pub invariant-loop : goal.invariant-loop
invariant-loop g l = l.held ≤ length l.buf
