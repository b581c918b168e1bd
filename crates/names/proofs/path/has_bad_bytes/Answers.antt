-- `names::path::has_bad_bytes` meets its contract: no byte passed is NUL and no component so far is too long, so what is left decides, with the bytes of the component at hand. Assumes nothing.
use Rattle.names.proofs.RefusalLaws.{scan_begin, scan_end, scan_long, scan_more}
use Rattle.names.proofs.path.has_bad_bytes.Goals as goal

pub loop-b-init : goal.loop-b-init
loop-b-init c = scan_begin _

pub returns-then-run-gt255 : goal.returns-then-run-gt255
returns-then-run-gt255 c = scan_long c.loop-b.invariant c.loop-b-test.true c.if-b-eq0.false c.run_after-run.ensures c.if-run-gt255.true

pub loop-b-preserved : goal.loop-b-preserved
loop-b-preserved c = scan_more c.loop-b.invariant c.loop-b-test.true c.if-b-eq0.false c.run_after-run.ensures c.if-run-gt255.false

pub returns : goal.returns
returns c = scan_end c.loop-b.invariant c.loop-b-test.false
