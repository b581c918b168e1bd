-- `store_runs::runs::insert` meets its contract, by the law of an edit of one run. Assumes nothing.
use mathlib.Core.Path.{◌≡◌, ap, ◌∙◌, refl}
use Prim.Native.Nat.{ℕ, ◌+◌, ◌≤◌}
use native.Mathlib.Omega.{arith}
use lib.ListN.{length, take, get_or}
use Rattle.store_runs.specs.Moves.{over, inserted}
use Rattle.store_runs.specs.Runs.{total}
use Rattle.store_runs.proofs.RunLaws.{total_within, edited_sum, insert_view}
use Rattle.store_runs.proofs.runs.insert.Goals as goal

-- the run ends within the bytes in use
within : (c : goal.After-start) → total (take c.args.k c.args.lens.now) + get_or c.args.lens.now c.args.k 0 ≤ c.args.used
within c = omega (arith, total_within c.args.lens.now c.args.k (omega arith), c.requires.0.sum)

pub overflow_add-a : goal.overflow_add-a
overflow_add-a c =
    let w = within c in
    omega (arith, c.start.ensures)

-- the run ends within the bytes in use
within-2 : (c : goal.After-insert-arg-1) → total (take c.args.k c.args.lens.now) + get_or c.args.lens.now c.args.k 0 ≤ c.args.used
within-2 c = omega (arith, total_within c.args.lens.now c.args.k (omega arith), c.requires.0.sum)

pub insert-requires : goal.insert-requires
insert-requires c =
    let w = within-2 c in
    omega (arith, c.start.ensures)

-- the run ends within the bytes in use
within-3 : (c : goal.After-slice_known-4-1) → total (take c.args.k c.args.lens.now) + get_or c.args.lens.now c.args.k 0 ≤ c.args.used
within-3 c = omega (arith, total_within c.args.lens.now c.args.k (omega arith), c.requires.0.sum)

pub overflow_add-lens : goal.overflow_add-lens
overflow_add-lens c =
    let w = within-3 c in
    omega (arith, c.requires.3, c.requires.0.fits, c.well_formed.1.0.1)

pub returns : goal.returns
returns c =
    let w = within-3 c in
    let a = c.args in
    let e : c.start.result + a.at ≡ total (take a.k a.lens.now) + a.at = ap (λ (x : ℕ). x + a.at) c.start.ensures in record {
      view = insert_view a.lens.now a.bytes.now a.used a.k c.requires.0 c.requires.1 a.at a.src.now _ c.requires.2
          (c.insert.ensures ∙ ap (λ (x : ℕ). over a.bytes.now (inserted (take a.used a.bytes.now) x a.src.now)) e);
      sound = (
        record {
          sum = omega (arith, edited_sum a.lens.now a.bytes.now a.used a.k c.requires.0 c.requires.1 (get_or a.lens.now a.k 0 + length a.src.now));
          fits = omega (arith, c.insert.auto.s, c.requires.3);
        },
        refl,
      );
    }
