-- `store_runs::runs::run` meets its contract, by the law of an edit of one run. Assumes nothing.
use Prim.Native.Nat.{◌+◌, ◌≤◌}
use native.Mathlib.Omega.{arith}
use lib.ListN.{take, get_or}
use Rattle.store_runs.specs.Runs.{total}
use Rattle.store_runs.proofs.RunLaws.{total_within}
use Rattle.store_runs.proofs.runs.run.Goals as goal

-- the run ends within the bytes in use
within : (c : goal.After-shared_slice_known-3-1) → total (take c.args.k c.args.lens.now) + get_or c.args.lens.now c.args.k 0 ≤ c.args.used
within c = omega (arith, total_within c.args.lens.now c.args.k (omega arith), c.requires.0.sum)

pub overflow_add-e : goal.overflow_add-e
overflow_add-e c =
    let w = within c in
    omega (arith, c.start-a.ensures)

pub slice_bounds-result-end : goal.slice_bounds-result-end
slice_bounds-result-end c =
    let w = within c in
    omega (arith, c.start-a.ensures)
