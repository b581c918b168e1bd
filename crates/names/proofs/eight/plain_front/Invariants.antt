use Prim.Native.Nat.{◌*◌}
use Rattle.names.proofs.EightLaws.{Front}
use Rattle.names.proofs.eight.plain_front.Given as goal

abbrev pub invariant-loop-k : goal.invariant-loop-k
invariant-loop-k l = Front l.s (8 * l.k)
