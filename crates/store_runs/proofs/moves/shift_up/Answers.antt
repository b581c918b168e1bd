-- `store_runs::moves::shift_up` meets its contract: the bytes from k on stand n higher. Assumes nothing.
use native.Mathlib.Omega.{arith}
use Prim.Native.Nat.{◌+◌, ◌-◌}
use Rattle.store_runs.proofs.MoveLaws.{raise_none, raised, raise_one, stays}
use Rattle.store_runs.proofs.moves.shift_up.Goals as goal

pub returns-then-n-eq0 : goal.returns-then-n-eq0
returns-then-n-eq0 c =
    let a = c.args in
    stays a.s.now (a.at + a.n) a.at (a.used - a.at) (omega (arith, c.if-n-eq0.true)) (omega arith)

pub loop-k-init : goal.loop-k-init
loop-k-init c = raise_none _ _ _ _ c.requires.0

pub loop-k-preserved : goal.loop-k-preserved
loop-k-preserved c = raise_one c.loop-k.invariant (omega arith) c.loop-k-test.true

pub returns : goal.returns
returns c = raised c.loop-k.invariant c.requires.1 c.loop-k-test.false
