use Prim.Native.Nat.{◌+◌}
use mathlib.Core.Path.{◌≡◌}
use Rattle.names_compact.specs.Compact.{offset}
use Rattle.names_compact.proofs.compact.Tree.skip.Given as goal

abbrev pub invariant-loop : goal.invariant-loop
invariant-loop l = l.a ≡ offset l.fn.self.width l.fn.self.bytes.now (l.i + l.counter)
