-- `names_compact::compact::id_at` meets its contract: the id stands behind the kind and the length. Assumes nothing.
use mathlib.Core.Path.{◌≡◌, ap, ◌∙◌}
use Prim.Native.Nat.{ℕ, ◌+◌, ◌-◌}
use native.Mathlib.Omega.{arith}
use lib.ListN.{take, drop}
use Rattle.names_compact.proofs.CompactLaws.{mark}
use Rattle.names_compact.proofs.compact.id_at.Goals as goal

pub overflow_add-result : goal.overflow_add-result
overflow_add-result c =
    let m = mark _ _ c.args.i c.args.at c.requires.0 c.requires.1 c.requires.2 in
    omega (arith, m.room)

pub overflow_add-result-2 : goal.overflow_add-result-2
overflow_add-result-2 c =
    let m = mark _ _ c.args.i c.args.at c.requires.0 c.requires.1 c.requires.2 in
    omega (arith, m.room)

pub overflow_add-result-3 : goal.overflow_add-result-3
overflow_add-result-3 c =
    let m = mark _ _ c.args.i c.args.at c.requires.0 c.requires.1 c.requires.2 in
    omega (arith, m.room)

pub slice_bounds-result-end : goal.slice_bounds-result-end
slice_bounds-result-end c =
    let m = mark _ _ c.args.i c.args.at c.requires.0 c.requires.1 c.requires.2 in
    omega (arith, m.room)

pub returns : goal.returns
returns c =
    let m = mark _ _ c.args.i c.args.at c.requires.0 c.requires.1 c.requires.2 in
    let w : c.args.at + 2 + c.args.width - (c.args.at + 2) ≡ c.args.width = omega arith in
    ap (λ (k : ℕ). take k (drop (c.args.at + 2) c.args.tree.now)) w ∙ m.id
