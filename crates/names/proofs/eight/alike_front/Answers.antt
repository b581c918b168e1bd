-- `names::eight::alike_front` meets its contract: the eights passed are alike, and the first that differ or an end stops it. Assumes nothing.
use native.Mathlib.Omega.{arith}
use Rattle.names.proofs.EightLaws.{passed_more}
use Rattle.names.proofs.eight.alike_front.Goals as goal

pub loop-k-preserved : goal.loop-k-preserved
loop-k-preserved c = passed_more c.loop-k.invariant (omega arith) (omega arith) c.low_at.ensures c.low_at-in-loop-k.ensures c.if-low_at.false
