-- `hash::word::put_bytes` meets its contract: the bytes of the words so far stand at the front. Assumes nothing.
use Rattle.std.proofs.Common.{◌≡◌, ◌*◌, length, refl, sym, ap, ◌∙◌, arith, take_all}
use Rattle.hash.specs.Blocks.{in_bytes}
use Rattle.hash.proofs.Laws.{bytes_more}
use Rattle.hash.proofs.word.put_bytes.Goals as goal

pub loop-i-init : goal.loop-i-init
unfolding in_bytes
loop-i-init c = refl

pub loop-i-preserved : goal.loop-i-preserved
loop-i-preserved c =
    bytes_more c.loop-i.out c.args.words.now c.copy_from_slice.new.self c.loop-i.i _ c.loop-i-test.true c.loop-i.invariant (omega arith) (c.copy_from_slice.ensures.after ∙ c.to_be_bytes.ensures)

pub returns : goal.returns
returns c =
    let l = c.loop-i in
    let e : l.i ≡ length c.args.words.now = omega arith in
    sym (take_all (4 * l.i) l.out (omega arith)) ∙ l.invariant ∙ ap in_bytes (take_all l.i c.args.words.now (omega arith))
