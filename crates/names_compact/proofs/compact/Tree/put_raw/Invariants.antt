use Rattle.names_compact.specs.Compact.{unpack}
use Rattle.names_compact.proofs.CompactRawLaws.{Writing}
use Rattle.names_compact.proofs.compact.Tree.put_raw.Given as goal

abbrev pub invariant-loop-e : goal.invariant-loop-e
invariant-loop-e l = Writing (unpack l.fn.self.width l.fn.self.bytes.now) l.initial.out l.out l.e-iterator l.to
