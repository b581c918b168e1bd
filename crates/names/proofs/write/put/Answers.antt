-- `names::write::put` meets its contract: the bytes written so far stand in their place, and all others are as they were. Assumes nothing.
use native.Mathlib.Omega.{arith}
use Rattle.names.proofs.WriteLaws.{put_begin, put_more, put_end}
use Rattle.names.proofs.write.put.Goals as goal

pub loop-i-init : goal.loop-i-init
loop-i-init c = put_begin _ _ _

pub loop-i-preserved : goal.loop-i-preserved
loop-i-preserved c = put_more c.loop-i.invariant c.requires (omega arith)

pub shape_of-out : goal.shape_of-out
shape_of-out c = c.loop-i.invariant.long

pub returns-clause-out_after : goal.returns-clause-out_after
returns-clause-out_after c = put_end c.loop-i.invariant c.requires (omega arith)
