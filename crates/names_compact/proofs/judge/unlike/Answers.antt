-- `names_compact::judge::unlike` meets its contract: the eights passed are alike, so the bytes before those that it gives are. Assumes nothing.
use native.Mathlib.Omega.{arith}
use Rattle.names_compact.proofs.AheadLaws.{together_to, together_more}
use Rattle.names_compact.proofs.judge.unlike.Goals as goal

pub loop-i-preserved : goal.loop-i-preserved
loop-i-preserved c = together_more c.loop-i.invariant c.low_at.ensures c.low_at-in-loop-i.ensures c.if-low_at.false

pub returns : goal.returns
returns c = (omega arith, together_to c.loop-i.invariant _ c.loop-i-test.false)
