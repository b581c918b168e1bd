-- At most 8,192 bytes a turn are taken in.
use Rattle.std.proofs.Common.{◌*◌, ◌≤◌}
use Rattle.test_hash.proofs.often.often.Given as goal

abbrev pub invariant-loop : goal.invariant-loop
invariant-loop g l = l.state.length ≤ 8192 * l.counter
