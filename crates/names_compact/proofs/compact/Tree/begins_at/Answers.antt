-- `names_compact::compact::Tree::begins_at` meets its contract: the entry's front of as many bytes as the name has is the name, or the tree ends there. Assumes nothing.
use mathlib.Core.Path.{ap, ◌∙◌}
use Prim.Native.Nat.{◌<◌}
use native.Mathlib.Omega.{arith}
use lib.ListN.{length, take}
use Rattle.model.specs.Bytes.{Bytes, same}
use Rattle.names_compact.specs.Compact.{unpack}
use Rattle.names_compact.proofs.CompactLaws.{offset_end, offset_before}
use Rattle.names_compact.proofs.TwinLaws.{begun_end, begun_at_lem}
use Rattle.names_compact.proofs.compact.Tree.begins_at.Goals as goal

pub returns-then-self-at : goal.returns-then-self-at
returns-then-self-at c =
    let a = c.args in
    let t = a.self in
    begun_end a.name.now (unpack t.width t.bytes.now) a.i (offset_end t.width t.bytes.now a.i t.run c.requires.1 (omega (arith, c.requires.0, c.if-self-at.true)))

pub name_at-requires : goal.name_at-requires
name_at-requires c =
    let a = c.args in
    let t = a.self in
    (c.requires.0, offset_before t.width t.bytes.now a.i t.run c.requires.1 (omega (arith, c.requires.0, c.if-self-at.false)))

pub returns : goal.returns
returns c =
    let a = c.args in
    let t = a.self in
    let h : a.i < length (unpack t.width t.bytes.now) = offset_before t.width t.bytes.now a.i t.run c.requires.1 (omega (arith, c.requires.0, c.if-self-at.false)) in
    c.same_bytes.ensures ∙ ap (λ (x : Bytes). same x a.name.now) (c.front.ensures ∙ ap (take (length a.name.now)) c.name_at.ensures)
    ∙ begun_at_lem a.name.now (unpack t.width t.bytes.now) a.i h
