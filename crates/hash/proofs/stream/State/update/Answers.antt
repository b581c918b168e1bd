-- `hash::stream::State::update` meets its contract: s is held back, or fills the block and is taken in block by block. Assumes nothing.
use Rattle.std.proofs.Common.{◌≡◌, ◌+◌, ◌%◌, length, arith}
use Rattle.hash.proofs.StreamLaws.{short, long}
use Rattle.hash.proofs.stream.State.update.Goals as goal

pub returns-then-s-filled : goal.returns-then-s-filled
returns-then-s-filled g c = short g.H.Hash.after_block g.H.Hash.start_value c.args.self.words c.args.self.block _ c.args.s.now c.args.self.length (omega arith) c.put.ensures

pub returns : goal.returns
returns g c =
    let b = c.args.self in
    let head = c.split_at.result.0.now in
    let rest = c.split_at.result.1.now in
    let full : b.length % 64 + length head ≡ 64 = omega arith in
    let left : 0 + length c.as_chunks.result.1.now ≡ length rest % 64 = omega arith in
    long g.H.Hash.after_block g.H.Hash.start_value b.words c.compress.result c.blocks-words.result b.block c.put-2.new.block c.put-3.new.block c.args.s.now rest b.length
    (omega arith) c.put-2.array_long (rw (full, c.split_at.ensures.front) at c.put-2.ensures) c.split_at.ensures.back c.compress.ensures c.blocks-words.ensures
    (rw (left, c.as_chunks.ensures.back) at c.put-3.ensures)
