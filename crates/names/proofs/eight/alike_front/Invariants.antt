use Prim.Native.Nat.{◌*◌}
use Rattle.names.proofs.EightLaws.{Passed}
use Rattle.names.proofs.eight.alike_front.Given as goal

abbrev pub invariant-loop-k : goal.invariant-loop-k
invariant-loop-k l = Passed l.a l.b l.n (8 * l.k)
