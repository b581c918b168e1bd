-- `store_check::open_write::taken_ok` meets its contract: it sets the taken slots in the free map, the last first. Assumes nothing.
use native.Mathlib.Omega.{arith}
use Rattle.std.proofs.Common.{rules}
use Rattle.store_check.proofs.TakenLaws.{taken_decides}
use Rattle.store_check.proofs.open_write.taken_ok.Goals as goal

pub returns : goal.returns
returns c = rw c.eq.ensures (taken_decides c.args.r c.args.order.now c.mark_taken.result (omega arith) (omega arith) (search rules) (λ n e. let h = rw e at c.mark_taken.type_inv in omega arith) c.mark_taken.ensures)
