-- `names::eight::plain_front` meets its contract: the eights passed are plain, and one that is not ends the front. Assumes nothing.
use mathlib.Core.Path.{sym, ◌∙◌}
use native.Mathlib.Omega.{arith}
use Rattle.names.proofs.EightLaws.{front_begin, front_more}
use Rattle.names.proofs.eight.plain_front.Goals as goal

pub loop-k-init : goal.loop-k-init
loop-k-init c = front_begin _

pub loop-k-preserved : goal.loop-k-preserved
loop-k-preserved c = front_more 8 c.loop-k.invariant (omega arith) (sym c.plain_eight.ensures ∙ c.if-not-plain_eight.false) (omega arith)
