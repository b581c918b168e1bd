-- `store_slots::used` meets its contract: a map of 64 slots has at most 64 that are set. Assumes nothing.
use mathlib.Core.Path.{ap}
use Prim.Native.Nat.{ℕ, ◌-◌}
use native.Mathlib.Omega.{arith}
use Rattle.store_runs.proofs.DigitLaws.{total_few}
use Rattle.store_slots.proofs.used.Goals as goal

pub overflow_sub-result : goal.overflow_sub-result
overflow_sub-result c = omega (arith, c.count.ensures, total_few 64 c.args.r.free)

pub returns : goal.returns
returns c = ap (λ (k : ℕ). 64 - k) c.count.ensures
