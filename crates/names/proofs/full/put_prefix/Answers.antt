-- `names::full::put_prefix` meets its contract: an empty prefix has no slash, any other one has. Assumes nothing.
use native.Mathlib.Omega.{arith}
use Rattle.names.proofs.FrontLaws.{lead_put}
use Rattle.names.proofs.full.put_prefix.Goals as goal

pub returns : goal.returns
returns c = lead_put _ _ (omega (arith, c.requires)) (c.put-n.ensures.value, c.put-n.ensures.out_after) c.if-n-eq0.false (c.put.ensures.value, c.put.ensures.out_after)
