use mathlib.Core.Path.{◌≡◌}
use lib.ListN.{length}
use Rattle.tree_id.proofs.StreamLaws.{Streaming}
use Rattle.tree_id.proofs.ids.compact_id.Given as goal

abbrev pub invariant-loop-rest : goal.invariant-loop-rest
invariant-loop-rest g l =
    Streaming g.H.Hash.after_block g.H.Hash.start_value l.state.words l.state.block l.state.length l.tree.width l.tree.bytes.now l.rest.bytes.now
    × (l.rest.width ≡ l.tree.width) × (length l.buf ≡ 512)

abbrev pub decreases-loop-rest : goal.decreases-loop-rest
decreases-loop-rest g l = length l.rest.bytes.now
