-- `store_runs::moves::shift` meets its contract: it moves up or down by how far the places lie apart. Assumes nothing.
use mathlib.Core.Path.{◌≡◌, ap, ◌∙◌}
use native.Mathlib.Omega.{arith}
use Prim.Native.Nat.{ℕ, ◌+◌, ◌-◌}
use Rattle.names.specs.Splice.{splice}
use Rattle.store_runs.specs.Moves.{part}
use Rattle.store_runs.proofs.moves.shift.Goals as goal

pub returns-then-from-to : goal.returns-then-from-to
returns-then-from-to c =
    let a = c.args in
    let e : a.from + (a.to - a.from) ≡ a.to = omega (arith, c.if-from-to.true) in
    c.shift_up.ensures ∙ ap (λ (p : ℕ). splice a.s.now p (part a.s.now a.from (a.end - a.from))) e

pub returns-else-from-to : goal.returns-else-from-to
returns-else-from-to c =
    let a = c.args in
    let e : a.to + (a.from - a.to) ≡ a.from = omega (arith, c.if-from-to.false) in
    c.shift_down.ensures ∙ ap (λ (q : ℕ). splice a.s.now a.to (part a.s.now q (a.end - q))) e
