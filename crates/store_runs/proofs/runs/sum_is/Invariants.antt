use mathlib.Core.Path.{◌≡◌}
use Prim.Native.Nat.{◌+◌}
use lib.ListN.{take}
use Rattle.store_runs.specs.Runs.{total}
use Rattle.store_runs.proofs.runs.sum_is.Given as goal

abbrev pub invariant-loop-n : goal.invariant-loop-n
invariant-loop-n l = total (take l.n-index l.lens) + l.left ≡ l.used
