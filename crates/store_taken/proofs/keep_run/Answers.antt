-- `store_taken::keep_run` meets its contract: the run moves to the front of the bytes, and every other length becomes 0. Assumes nothing.
use mathlib.Core.Path.{refl, ap, ◌∙◌}
use mathlib.Core.List.{List}
use Prim.Native.Nat.{ℕ, ◌+◌}
use native.Mathlib.Nat.{zero-add}
use native.Mathlib.Omega.{arith}
use lib.ListN.{take, drop, get_or, set, replicate}
use Rattle.store_runs.specs.Moves.{over, removed}
use Rattle.store_runs.specs.Runs.{total}
use Rattle.store_taken.proofs.Keeping.{run_within, kept_run, kept_sound}
use Rattle.store_taken.proofs.keep_run.Goals as goal

pub overflow_add-a : goal.overflow_add-a
overflow_add-a c =
    let a = c.args in
    omega (arith, c.start-a.ensures, run_within a.lens.now a.bytes.now a.used a.k c.requires.0 c.requires.1 c.requires.2)

pub remove-requires : goal.remove-requires
remove-requires c =
    let a = c.args in
    (omega arith, omega (arith, c.start-a.ensures, run_within a.lens.now a.bytes.now a.used a.k c.requires.0 c.requires.1 c.requires.2))

pub returns : goal.returns
returns c =
    let a = c.args in
    let n = get_or a.lens.now a.k 0 in
    let t = total (take a.k a.lens.now) in
    let el = ap (λ (x : List ℕ). set x a.k n) (c.clear.ensures ∙ ap (λ (i : ℕ). replicate i 0) c.requires.1) in
    let eb =
    c.remove.ensures ∙ ap (λ (x : ℕ). over a.bytes.now (removed (take (x + n) a.bytes.now) 0 x)) c.start-a.ensures
    ∙ ap (λ (x : ℕ). over a.bytes.now (drop x (take (t + n) a.bytes.now))) (zero-add t) in record { view = kept_run a.lens.now a.bytes.now a.used a.k c.requires.0 c.requires.1 c.requires.2 _ _ el eb; sound = (kept_sound a.lens.now a.bytes.now a.used a.k c.requires.0 c.requires.1 c.requires.2 _ _ el c.remove.auto.s, refl) }
