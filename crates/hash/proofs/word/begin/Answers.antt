-- `hash::word::begin` meets its contract: the first sixteen words of a schedule are the block's. Assumes nothing.
use Rattle.std.proofs.Common.{◌≡◌, ◌∙◌, length-set, refl, arith}
use Rattle.std.proofs.lemmas.List.{length-replicate}
use Rattle.hash.specs.Blocks.{words}
use Rattle.hash.proofs.Laws.{words_early}
use Rattle.hash.proofs.word.begin.Goals as goal

pub loop-t-init : goal.loop-t-init
unfolding words
loop-t-init g c = (length-replicate g.row.N 0, λ next. refl)

pub loop-t-preserved : goal.loop-t-preserved
loop-t-preserved g c =
    let l = c.loop-t in (
      length-set l.w l.t c.word_at.result ∙ l.invariant.0,
      λ next. words_early next c.args.block.now l.w l.t c.word_at.result (omega arith) (l.invariant.1 next) c.loop-t-test.true c.word_at.ensures,
    )

pub returns : goal.returns
returns g c =
    let e : c.loop-t.t ≡ 16 = omega arith in
    λ next. rw e at (c.loop-t.invariant.1 next)
