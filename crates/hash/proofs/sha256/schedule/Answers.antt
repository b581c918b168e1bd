-- `hash::sha256::schedule` meets its contract: each word is made from those before it. Assumes nothing.
use Rattle.std.proofs.Common.{◌≡◌, sym, ◌∙◌, length-set, arith, take_all}
use Rattle.hash.specs.Sha256.{next, schedule}
use Rattle.hash.proofs.Laws.{words_late, next2_take}
use Rattle.hash.proofs.sha256.schedule.Goals as goal

pub loop-t-preserved : goal.loop-t-preserved
unfolding next
loop-t-preserved c =
    let l = c.loop-t in (
      length-set l.w l.t _ ∙ l.invariant.0,
      words_late next c.args.block.now l.w l.t _ (omega arith) l.invariant.1 (omega arith) (next2_take l.w l.t (omega arith)) (cc),
    )

pub returns : goal.returns
unfolding schedule
returns c =
    let e : c.loop-t.t ≡ 64 = omega arith in
    sym (take_all 64 c.loop-t.w (omega arith)) ∙ rw e at c.loop-t.invariant.1
