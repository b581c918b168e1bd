-- `editor_walk::seen::entry_seen` meets its contract: kind and id stand where the entry starts. Assumes nothing.
use Prim.Native.Nat.{ℕ, ◌+◌}
use mathlib.Core.Path.{sym, ap, ◌∙◌}
use native.Mathlib.Omega.{arith}
use lib.ListN.{take, drop}
use Rattle.names_compact.specs.Compact.{entry_at}
use Rattle.names_compact.proofs.CompactLaws.{mark}
use Rattle.editor_walk.proofs.SeenLaws.{seen_parts}
use Rattle.editor_walk.proofs.seen.entry_seen.Goals as goal

pub overflow_add-place : goal.overflow_add-place
overflow_add-place c =
    let m = mark c.args.tree.width c.args.tree.bytes.now c.args.place.index c.args.place.at c.args.tree.run c.requires.1 c.requires.2 in
    omega (arith, m.room)

pub id_at-id-requires : goal.id_at-id-requires
id_at-id-requires c =
    let m = mark c.args.tree.width c.args.tree.bytes.now c.args.place.index c.args.place.at c.args.tree.run c.requires.1 c.requires.2 in
    omega (arith, m.room, c.requires.0)

pub returns : goal.returns
returns c =
    let m = mark c.args.tree.width c.args.tree.bytes.now c.args.place.index c.args.place.at c.args.tree.run c.requires.1 c.requires.2 in
    let e = ap (λ (w : ℕ). take w (drop (c.args.place.at + 2) c.args.tree.bytes.now)) (sym c.requires.0) in
    seen_parts c.kind_at-kind.result c.id_at-id.result (entry_at c.args.tree.width c.args.tree.bytes.now c.args.place.index) c.kind_at-kind.ensures (c.id_at-id.ensures ∙ e ∙ m.id)
