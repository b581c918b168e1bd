-- `store_runs::runs::remove` meets its contract, by the law of an edit of one run. Assumes nothing.
use mathlib.Core.Path.{◌≡◌, ap, ◌∙◌, refl}
use Prim.Native.Nat.{ℕ, ◌+◌, ◌-◌, ◌≤◌}
use native.Mathlib.Omega.{arith}
use lib.ListN.{take, get_or}
use Rattle.store_runs.specs.Moves.{over, removed}
use Rattle.store_runs.specs.Runs.{total}
use Rattle.store_runs.proofs.RunLaws.{total_within, edited_sum, remove_view}
use Rattle.store_runs.proofs.runs.remove.Goals as goal

-- the run ends within the bytes in use
within : (c : goal.After-start) → total (take c.args.k c.args.lens.now) + get_or c.args.lens.now c.args.k 0 ≤ c.args.used
within c = omega (arith, total_within c.args.lens.now c.args.k (omega arith), c.requires.0.sum)

pub overflow_add-a : goal.overflow_add-a
overflow_add-a c =
    let w = within c in
    omega (arith, c.start.ensures)

-- the run ends within the bytes in use
within-2 : (c : goal.After-remove-arg-1) → total (take c.args.k c.args.lens.now) + get_or c.args.lens.now c.args.k 0 ≤ c.args.used
within-2 c = omega (arith, total_within c.args.lens.now c.args.k (omega arith), c.requires.0.sum)

pub remove-requires : goal.remove-requires
remove-requires c =
    let w = within-2 c in
    omega (arith, c.start.ensures)

-- the run ends within the bytes in use
within-3 : (c : goal.After-slice_known-4-1) → total (take c.args.k c.args.lens.now) + get_or c.args.lens.now c.args.k 0 ≤ c.args.used
within-3 c = omega (arith, total_within c.args.lens.now c.args.k (omega arith), c.requires.0.sum)

pub overflow_sub-result : goal.overflow_sub-result
overflow_sub-result c =
    let w = within-3 c in
    omega arith

pub returns : goal.returns
returns c =
    let w = within-3 c in
    let a = c.args in
    let e : c.start.result + a.at ≡ total (take a.k a.lens.now) + a.at = ap (λ (x : ℕ). x + a.at) c.start.ensures in record {
      view = remove_view a.lens.now a.bytes.now a.used a.k c.requires.0 c.requires.1 a.at a.n _ c.requires.2
          (c.remove.ensures ∙ ap (λ (x : ℕ). over a.bytes.now (removed (take a.used a.bytes.now) x a.n)) e);
      sound = (
        record {
          sum = omega (arith, edited_sum a.lens.now a.bytes.now a.used a.k c.requires.0 c.requires.1 (get_or a.lens.now a.k 0 - a.n));
          fits = omega (arith, c.remove.auto.s, c.requires.0.fits);
        },
        refl,
      );
    }
