-- `store_check::parents::starts` meets its contract: the sum so far is where the next run starts. Assumes nothing.
use mathlib.Core.Path.{sym, ◌∙◌}
use Prim.Native.Nat.{ℕ}
use native.Mathlib.Omega.{arith}
use lib.ListN.{length-replicate}
use Rattle.store_runs.proofs.RunLaws.{total_within}
use Rattle.store_check.proofs.ChildLaws.{begin_none, begin_more}
use Rattle.store_check.proofs.parents.starts.Goals as goal

pub loop-i-init : goal.loop-i-init
loop-i-init c = begin_none _ _ (length-replicate {A = ℕ} 64 0 ∙ sym c.requires.0)

pub overflow_add-sum : goal.overflow_add-sum
overflow_add-sum c = omega (arith, c.loop-i.invariant.start, total_within c.args.lens.now c.loop-i.i (omega arith), c.requires.1)

pub loop-i-preserved : goal.loop-i-preserved
loop-i-preserved c = begin_more c.loop-i.invariant (omega arith)
