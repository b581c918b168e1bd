-- `names::full::put_full` meets its contract: the prefix and its slash stand first, then the path; a path of zero bytes adds no slash. Assumes nothing.
use native.Mathlib.Omega.{arith}
use Rattle.names.proofs.FrontLaws.{full_long, alone_put, full_put}
use Rattle.names.proofs.full.put_full.Goals as goal

pub returns-then-path-eq0 : goal.returns-then-path-eq0
returns-then-path-eq0 c = alone_put _ _ c.args.path.now c.if-path-eq0.true (c.put.ensures.value, c.put.ensures.out_after)

pub returns : goal.returns
returns c = full_put _ c.args.prefix.now c.args.path.now c.if-path-eq0.false (omega (arith, c.requires, full_long c.args.prefix.now c.args.path.now c.if-path-eq0.false, c.put_prefix-n.ensures.0)) c.put_prefix-n.ensures (c.put-2.ensures.value, c.put-2.ensures.out_after)
