-- `store_runs::runs::sum_is` meets its contract: what is left and the sum so far make `used`. Assumes nothing.
use borrow.Author.Tests.{ne_eqb}
use mathlib.Core.Path.{sym}
use native.Mathlib.Omega.{arith}
use Rattle.store_runs.specs.Runs.{total}
use Rattle.store_runs.proofs.RunLaws.{total_more, total_within}
use Rattle.store_runs.proofs.runs.sum_is.Goals as goal

pub loop-n-init : goal.loop-n-init
unfolding total
loop-n-init c = omega arith

pub returns-in_default : goal.returns-in_default
returns-in_default c = sym (ne_eqb _ _ (λ e. c.in_default.ensures (omega (arith, e, total_within c.args.lens.now c.loop-n.n-index c.loop-n-test.true))))

pub loop-n-preserved : goal.loop-n-preserved
loop-n-preserved c = omega (arith, c.in-Some.ensures.0, c.in-Some.ensures.1, total_more c.args.lens.now c.loop-n.n-index c.loop-n-test.true)
