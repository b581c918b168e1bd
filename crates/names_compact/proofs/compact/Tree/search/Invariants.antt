use Rattle.names_compact.proofs.CompactSearchLaws.{Seeking}
use Rattle.model.specs.Tree.{as_kind}
use Rattle.names_compact.proofs.compact.Tree.search.Given as goal

abbrev pub invariant-loop-len : goal.invariant-loop-len
invariant-loop-len l = Seeking l.self.width l.self.bytes.now (as_kind l.key.tree l.key.name.now) l.len l.index l.at l.compared

abbrev pub decreases-loop-len : goal.decreases-loop-len
decreases-loop-len l = l.len
