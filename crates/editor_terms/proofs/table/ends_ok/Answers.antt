-- `editor_terms::table::ends_ok` meets its contract: the offsets so far do not fall, so those that are left decide, from the last of them. Assumes nothing.
use Rattle.editor_terms.proofs.TableLaws.{check_begin, check_end, check_falls, check_passes, check_more}
use Rattle.editor_terms.proofs.table.ends_ok.Goals as goal
use Rattle.editor_terms.proofs.table.ends_ok.Goals.{then-end-from-via-then-end-from, then-end-from-via-else-end-from+then-size-end}

pub loop-end-init : goal.loop-end-init
loop-end-init c = check_begin _ _

pub returns-then-end-from : goal.returns-then-end-from
returns-then-end-from c =
    elim c.then-end-from.branch [
      | then-end-from-via-then-end-from w ↦ check_falls c.loop-end.invariant c.loop-end-test.true w.if-end-from.true
      | then-end-from-via-else-end-from+then-size-end w ↦ check_passes c.loop-end.invariant c.loop-end-test.true w.if-end-from.false w.if-size-end.true
    ]

pub loop-end-preserved : goal.loop-end-preserved
loop-end-preserved c = check_more c.loop-end.invariant c.loop-end-test.true c.if-end-from.false c.if-size-end.false

pub returns : goal.returns
returns c = check_end c.loop-end.invariant c.loop-end-test.false
