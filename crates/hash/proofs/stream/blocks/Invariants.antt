use Rattle.std.proofs.Common.{◌≡◌}
use Rattle.hash.specs.Blocks.{run}
use Rattle.hash.proofs.stream.blocks.Given as goal

abbrev pub invariant-loop-block : goal.invariant-loop-block
invariant-loop-block g l = l.words ≡ run g.H.Hash.after_block l.fn.h l.block-index l.s
