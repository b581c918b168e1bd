use Prim.Native.Nat.{◌+◌}
use mathlib.Core.Path.{◌≡◌}
use lib.ListN.{length}
use Rattle.model.specs.Raw.{raw_tree}
use Rattle.names_compact.specs.Compact.{unpack}
use Rattle.names_compact.proofs.compact.Tree.raw_len.Given as goal

abbrev pub invariant-loop-e : goal.invariant-loop-e
invariant-loop-e l = l.n + length (raw_tree l.e-iterator) ≡ length (raw_tree (unpack l.fn.self.width l.fn.self.bytes.now))
