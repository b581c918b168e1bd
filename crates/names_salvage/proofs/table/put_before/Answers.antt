-- `names_salvage::table::put_before` meets its contract: the slots from the place on have moved up, and those before it stand as they were. Assumes nothing.
use native.Mathlib.Omega.{arith}
use Rattle.names_salvage.proofs.TableLaws.{move_begin, move_step, move_end}
use Rattle.names_salvage.proofs.table.put_before.Goals as goal

pub loop-k-init : goal.loop-k-init
loop-k-init c = (move_begin c.args.slots.now c.args.n c.requires.1, c.requires.0)

pub loop-k-preserved : goal.loop-k-preserved
loop-k-preserved c = (move_step _ c.loop-k.k c.loop-k.invariant.0 c.requires.1 (omega arith), omega arith)

pub returns : goal.returns
returns c = move_end c.loop-k.invariant.0 c.requires.1 c.args.i c.args.slot c.loop-k.invariant.1 c.loop-k-test.false
