-- `editor_walk::seen::seen_in_raw` meets its contract: no entry passed has the name, so those that are left decide; a name stands at most once, as a tree or as another. Assumes nothing.
use native.Mathlib.Omega.{arith}
use Rattle.editor_walk.proofs.SeenLaws.{scan_begin, scan_end, scan_damaged, scan_reach, id_inside, scan_here, scan_more}
use Rattle.editor_walk.proofs.seen.seen_in_raw.Goals as goal

pub loop-at-init : goal.loop-at-init
loop-at-init c = scan_begin _ _

pub returns-in_err-entry : goal.returns-in_err-entry
returns-in_err-entry c = rw c.from_residual.ensures (scan_damaged c.loop-at.invariant c.loop-at-test.true c.read_entry.ensures c.in_err-entry.was)

pub id_at-requires : goal.id_at-requires
id_at-requires c = id_inside c.loop-at.invariant c.loop-at-test.true c.read_entry.ensures c.in_ok-entry.was

pub returns-then-same_bytes : goal.returns-then-same_bytes
returns-then-same_bytes c = scan_here c.loop-at.invariant c.loop-at-test.true c.read_entry.ensures c.in_ok-entry.was c.between.ensures c.same_bytes.ensures c.if-same_bytes.true c.id_at.ensures

pub loop-at-smaller : goal.loop-at-smaller
loop-at-smaller c =
    let x = scan_reach c.loop-at.invariant c.loop-at-test.true c.read_entry.ensures c.in_ok-entry.was in
    omega (arith, x.forward, x.inside)

pub loop-at-preserved : goal.loop-at-preserved
loop-at-preserved c = scan_more c.loop-at.invariant c.loop-at-test.true c.read_entry.ensures c.in_ok-entry.was c.between.ensures c.same_bytes.ensures c.requires c.if-same_bytes.false

pub returns : goal.returns
returns c = scan_end c.loop-at.invariant c.loop-at-test.false
