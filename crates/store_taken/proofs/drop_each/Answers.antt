-- `store_taken::drop_each` meets its contract: below the place k, those of the map are dropped. Assumes nothing.
use mathlib.Core.Path.{refl, ◌∙◌}
use native.Mathlib.Omega.{arith}
use Rattle.store_taken.proofs.Dropping.{dropping_none, dropping_more, dropping_all}
use Rattle.store_taken.proofs.drop_each.Goals as goal

pub loop-k-init : goal.loop-k-init
loop-k-init c =
    let s = c.args.s.now in
    record {
      dropping = dropping_none c.args.width c.args.gone s.ed s.plens.now s.paths.now s.tlens.now s.trees.now c.requires.0;
      lent = record { plens = refl; paths = refl; tlens = refl; trees = refl };
    }

pub loop-k-preserved : goal.loop-k-preserved
loop-k-preserved c =
    let q = c.drop_one.new.s in
    let e = c.drop_one.ensures in
    let l = c.loop-k.invariant.lent in
    record {
      dropping = dropping_more c.loop-k.invariant.dropping q.ed q.plens.now q.paths.now q.tlens.now q.trees.now c.loop-k-test.true e.laid e.others e.free e.same;
      lent = record { plens = e.lent.plens ∙ l.plens; paths = e.lent.paths ∙ l.paths; tlens = e.lent.tlens ∙ l.tlens; trees = e.lent.trees ∙ l.trees };
    }

pub returns-clause-free : goal.returns-clause-free
returns-clause-free c = dropping_all c.loop-k.invariant.dropping c.loop-k-test.false
