-- `hash::stream::State::finish` meets its contract: the padding is taken in behind the message. Assumes nothing.
use Rattle.std.proofs.Common.{◌+◌, ◌-◌, ◌*◌, ◌%◌, ℕ, List, ◌∷◌, ◌++◌, take, replicate, sym, ◌∙◌, arith}
use Rattle.std.specs.Int.{w64, to_be_bytes}
use Rattle.hash.specs.Blocks.{zeros}
use Rattle.hash.specs.Stream.{Holds}
use Rattle.hash.proofs.Laws.{eight_bytes}
use Rattle.hash.proofs.StreamLaws.{marked, last}
use Rattle.hash.proofs.stream.State.finish.Goals as goal

pub returns : goal.returns
unfolding zeros
returns g c = λ m a.
    let n = c.args.self.length in
    let z = (119 - n % 64) % 64 in
    let mark : List ℕ = take (z + 1) (128 ∷ replicate 63 0) in
    let bits : List ℕ = to_be_bytes w64 (8 * n) in
    let held : Holds g.H.Hash.after_block g.H.Hash.start_value c.update.result.words c.update.result.block c.update.result.length ((m ++ mark) ++ bits) =
    rw c.to_be_bytes.ensures at (c.update.ensures.holds _ (c.update-padded.ensures.holds m a)) in
    last g.H.Hash.after_block g.H.Hash.start_value c.update.result.words c.update.result.block mark bits m c.update.result.length held
    (rw (← a.count) (marked z (omega arith)))
    (rw (← a.count) (sym (eight_bytes (8 * n))))
    ∙ g.met.H.Hash.by_blocks m
