-- `store_runs::moves::shift_down` meets its contract: the bytes before k stand n lower. Assumes nothing.
use native.Mathlib.Omega.{arith}
use Prim.Native.Nat.{◌+◌, ◌-◌}
use Rattle.store_runs.proofs.MoveLaws.{lower_none, lowered, lower_one, stays}
use Rattle.store_runs.proofs.moves.shift_down.Goals as goal

pub returns-then-n-eq0 : goal.returns-then-n-eq0
returns-then-n-eq0 c =
    let a = c.args in
    stays a.s.now a.at (a.at + a.n) (a.used - (a.at + a.n)) (omega (arith, c.if-n-eq0.true)) (omega arith)

pub loop-k-init : goal.loop-k-init
loop-k-init c = lower_none _ _ _ _ (omega arith) c.requires.0

pub loop-k-preserved : goal.loop-k-preserved
loop-k-preserved c = lower_one c.loop-k.invariant (omega arith) (c.loop-k.k - c.args.n) (omega (arith, c.loop-k.invariant.low)) c.loop-k-test.true

pub returns : goal.returns
returns c = lowered c.loop-k.invariant c.requires.1 c.loop-k-test.false
