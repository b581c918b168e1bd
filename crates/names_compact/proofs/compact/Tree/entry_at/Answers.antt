-- `names_compact::compact::Tree::entry_at` meets its contract: the id stands behind kind and length, and the name, as long as that says, behind the id. Assumes nothing.
use mathlib.Core.Path.{◌≡◌, ap, ◌∙◌}
use Prim.Native.Nat.{ℕ, ◌+◌, ◌-◌}
use native.Mathlib.Omega.{arith}
use lib.ListN.{take, drop, get_or}
use Rattle.names_compact.specs.Compact.{mode_at}
use Rattle.names_compact.proofs.CompactLaws.{mark, mode_kind}
use Rattle.names_compact.proofs.CompactRawLaws.{same_parts}
use Rattle.names_compact.proofs.compact.Tree.entry_at.Goals as goal

pub overflow_add-name-2 : goal.overflow_add-name-2
overflow_add-name-2 c =
    let m = mark _ _ c.args.i c.args.at c.args.self.run c.requires.0 c.requires.1 in
    omega (arith, m.room)

pub overflow_add-name : goal.overflow_add-name
overflow_add-name c =
    let m = mark _ _ c.args.i c.args.at c.args.self.run c.requires.0 c.requires.1 in
    omega (arith, m.room)

pub overflow_add-next : goal.overflow_add-next
overflow_add-next c =
    let m = mark _ _ c.args.i c.args.at c.args.self.run c.requires.0 c.requires.1 in
    omega (arith, m.room)

pub bounds-self-at : goal.bounds-self-at
bounds-self-at c =
    let m = mark _ _ c.args.i c.args.at c.args.self.run c.requires.0 c.requires.1 in
    omega (arith, m.room)

pub overflow_add-next-2 : goal.overflow_add-next-2
overflow_add-next-2 c =
    let m = mark _ _ c.args.i c.args.at c.args.self.run c.requires.0 c.requires.1 in
    omega (arith, m.room)

pub bounds-self-at-2 : goal.bounds-self-at-2
bounds-self-at-2 c =
    let m = mark _ _ c.args.i c.args.at c.args.self.run c.requires.0 c.requires.1 in
    omega (arith, m.room)

pub slice_bounds-result-end : goal.slice_bounds-result-end
slice_bounds-result-end c =
    let m = mark _ _ c.args.i c.args.at c.args.self.run c.requires.0 c.requires.1 in
    omega (arith, m.room)

pub returns : goal.returns
returns c =
    let m = mark _ _ c.args.i c.args.at c.args.self.run c.requires.0 c.requires.1 in
    let b = c.args.self.bytes.now in
    let start = c.args.at + 2 + c.args.self.width in
    let n : start + get_or b (c.args.at + 1) 0 - start ≡ get_or b (c.args.at + 1) 0 = omega arith in
    same_parts c.kind_of.result _ (c.kind_of.ensures ∙ ap mode_at m.kind ∙ mode_kind _) (ap (λ (k : ℕ). take k (drop start b)) n ∙ m.text) c.id_at.ensures
