-- `hash::sha256::Words::compress` meets its contract: turn by turn, over the schedule of the block. Assumes nothing.
use Rattle.std.proofs.Common.{◌≡◌, ◌+◌, ◌*◌, refl, ap, ◌∙◌, arith}
use Rattle.hash.specs.Blocks.{turns}
use Rattle.hash.specs.Sha256.{turn, sums, compress}
use Rattle.hash.specs.declared.sha256.Words.{Words}
use Rattle.hash.proofs.Laws.{turns_more}
use Rattle.hash.proofs.sha256.WordsHash.compress.Goals as goal

pub loop-row-init : goal.loop-row-init
unfolding turns
loop-row-init c = refl

pub loop-t-preserved : goal.loop-t-preserved
unfolding turn
loop-t-preserved c =
    let l = c.loop-t in
    turns_more turn c.schedule-w.result c.args.self l.s _ l.t l.invariant c.turn-s.ensures

pub loop-row-preserved : goal.loop-row-preserved
loop-row-preserved c =
    let e : c.loop-t.t ≡ 4 * (c.loop-row.row + 1) = omega arith in
    rw e at c.loop-t.invariant

pub returns : goal.returns
unfolding compress
returns c =
    let e : 4 * c.loop-row.row ≡ 64 = omega arith in
    c.sums.ensures ∙ ap (λ (u : Words). sums u c.args.self) (rw (e, c.schedule-w.ensures) at c.loop-row.invariant)
