-- `store_trees::gap::widen` meets its contract: what stood from the start of the run on stands n higher. Assumes nothing.
use mathlib.Core.Path.{sym, ap, ◌∙◌}
use mathlib.Core.List.{List}
use Prim.Native.Nat.{ℕ, ◌+◌, ◌-◌}
use native.Mathlib.Omega.{arith}
use Rattle.names.specs.Splice.{splice}
use Rattle.store_runs.specs.Moves.{part}
use Rattle.store_runs.specs.Runs.{cut, with_run}
use Rattle.store_trees.proofs.Gaps.{start_in, lens_place, lens_there, widen_sum, widen_view}
use Rattle.store_trees.proofs.gap.widen.Goals as goal

pub overflow_add-to : goal.overflow_add-to
overflow_add-to c =
    let a = c.args in
    omega (arith, c.start-a.ensures, start_in a.lens.now a.bytes.now a.used a.k c.requires.0 c.requires.1 c.requires.2 a.n c.requires.3, c.requires.3, c.well_formed.1.0.1)

pub shift-requires : goal.shift-requires
shift-requires c =
    let a = c.args in
    let s = start_in a.lens.now a.bytes.now a.used a.k c.requires.0 c.requires.1 c.requires.2 a.n c.requires.3 in
    (omega (arith, c.start-a.ensures, s), c.requires.0.fits, omega (arith, c.start-a.ensures, s, c.requires.3))

pub returns : goal.returns
returns c =
    let a = c.args in
    let e = c.shift.ensures ∙ ap (λ (x : ℕ). splice a.bytes.now (x + a.n) (part a.bytes.now x (a.used - x))) c.start-a.ensures in record {
      view = widen_view a.lens.now a.bytes.now a.used a.k c.requires.0 c.requires.1 c.requires.2 a.n c.requires.3 c.shift.new.s e
          ∙ ap (λ (x : ℕ). with_run a.k (λ (l : List ℕ). part c.shift.new.s x a.n) (cut a.lens.now a.bytes.now)) (sym c.start-a.ensures);
      sound = record {
        sum = widen_sum a.lens.now a.bytes.now a.used a.k c.requires.0 c.requires.1 c.requires.2 a.n c.requires.3;
        fits = omega (arith, c.shift.auto.s, c.requires.3);
      };
      place = (
        c.start-a.ensures ∙ sym (lens_place a.lens.now a.bytes.now a.used a.k c.requires.0 c.requires.1 c.requires.2 a.n c.requires.3),
        lens_there a.lens.now a.bytes.now a.used a.k c.requires.0 c.requires.1 c.requires.2 a.n c.requires.3,
      );
    }
