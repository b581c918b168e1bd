-- `hash::stream::blocks` meets its contract: block by block. Assumes nothing.
use Rattle.std.proofs.Common.{◌≡◌, [], length, ◌/◌, refl, arith}
use Rattle.hash.specs.Blocks.{run}
use Rattle.hash.proofs.StreamLaws.{run_more, block_at}
use Rattle.hash.proofs.stream.blocks.Goals as goal

pub loop-block-init : goal.loop-block-init
unfolding run
loop-block-init g c = refl

pub loop-block-preserved : goal.loop-block-preserved
loop-block-preserved g c =
    let l = c.loop-block in
    let f = g.H.Hash.after_block in
    let s = c.args.s.now in
    run_more f c.args.h l.words _ l.block-index s l.invariant
    (rw (c.as_chunks.ensures.front, block_at (length s / 64) l.block-index s [] (omega arith)) at c.compress-words.ensures)

pub returns : goal.returns
returns g c =
    let e : c.loop-block.block-index ≡ length c.args.s.now / 64 = omega arith in
    rw e at c.loop-block.invariant
