-- `tree_id::part::first_part` meets its contract: the bytes so far are whole entries, and one entry alone always fits. Assumes nothing.
use Prim.Native.Nat.{◌+◌}
use native.Mathlib.Omega.{arith}
use Rattle.tree_id.proofs.PartLaws.{cut_room, part_begin, part_more, part_end, some_taken}
use Rattle.tree_id.proofs.part.first_part.Goals as goal

pub loop-at-init : goal.loop-at-init
loop-at-init c = part_begin _ _

-- the entry at hand is there
pub bounds-bytes-at : goal.bounds-bytes-at
bounds-bytes-at c = omega (arith, cut_room c.loop-at.invariant.cut c.requires.0 c.loop-at-test.true)

pub loop-at-preserved : goal.loop-at-preserved
loop-at-preserved c = part_more c.loop-at.invariant c.requires.0 c.loop-at-test.true c.if-more-gt512.false

pub returns-after-loop-at : goal.returns-after-loop-at
returns-after-loop-at c = part_end c.loop-at.invariant c.requires.0 (omega (arith, c.requires.2, c.loop-at-test.false))

-- nothing was left out: the first entry fits
pub returns-then-more-gt512 : goal.returns-then-more-gt512
returns-then-more-gt512 c = part_end c.loop-at.invariant c.requires.0 (some_taken c.loop-at.invariant c.requires.1 (omega (arith, c.type_inv.bytes (c.loop-at.at + 1))) c.if-more-gt512.true)
