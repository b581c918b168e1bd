-- `tree_id::ids::compact_id` meets its contract: the header and the parts so far are taken in, and the raw form of the rest follows. Assumes nothing.
use Prim.Native.Nat.{ℕ}
use mathlib.Core.Path.{refl, ap, ◌∙◌}
use mathlib.Core.List.{◌++◌}
use lib.Dec.{eqb}
use native.Mathlib.Omega.{arith}
use lib.ListN.{length}
use Rattle.model.specs.Raw.{raw_tree}
use Rattle.names_compact.specs.Compact.{unpack}
use Rattle.tree_id.specs.Ids.{header, hashed_by, tree}
use Rattle.tree_id.specs.Parts.{Part}
use Rattle.tree_id.proofs.Laws.{id_of}
use Rattle.tree_id.proofs.StreamLaws.{piece_held, piece_short, buffer_kept, stream_begin, stream_few, stream_more, stream_end}
use Rattle.tree_id.proofs.ids.compact_id.Goals as goal

pub loop-rest-init : goal.loop-rest-init
loop-rest-init g c = (stream_begin c.raw_len.result c.args.tree.run c.raw_len.ensures c.begin-state.ensures, refl, refl)

-- what is taken in next is the raw form of the part
pub update-state-requires : goal.update-state-requires
update-state-requires g c =
    let i = c.loop-rest.invariant in
    let e = c.split.ensures in
    let p = c.put_raw-n.ensures in
    let part : Part c.args.tree.width c.loop-rest.rest.bytes.now c.split.result.0.bytes.now c.split.result.1.bytes.now 512 = rw i.1 at e.part in
    omega (arith, ap length (piece_held (e.first_width ∙ i.1) c.split.result.0.bytes.now c.loop-rest.buf p.value p.out_after c.front.ensures), part.long, stream_few i.0 c.args.tree.run, c.requires.short)

-- and the buffer stays as long as it is
pub loop-rest-preserved : goal.loop-rest-preserved
loop-rest-preserved g c =
    let i = c.loop-rest.invariant in
    let e = c.split.ensures in
    let p = c.put_raw-n.ensures in
    let wide = e.first_width ∙ i.1 in
    let part : Part c.args.tree.width c.loop-rest.rest.bytes.now c.split.result.0.bytes.now c.split.result.1.bytes.now 512 = rw i.1 at e.part in (
      stream_more i.0 part (piece_held wide c.split.result.0.bytes.now c.loop-rest.buf p.value p.out_after c.front.ensures) c.update-state.ensures,
      e.others_width ∙ i.1,
      buffer_kept c.loop-rest.buf _ p.out_after (omega (arith, piece_short wide c.split.result.0.bytes.now part.long, i.2)) ∙ i.2,
    )

pub finish-requires : goal.finish-requires
finish-requires g c = omega (arith, stream_few c.loop-rest.invariant.0 c.args.tree.run, c.requires.short)

pub returns : goal.returns
returns g c =
    let b = c.args.tree.bytes.now in
    let held = stream_end c.loop-rest.invariant.0 c.loop-rest-test.false in
    c.bytes.ensures ∙ ap g.H.Digest.bytes_of (c.finish.ensures _ held) ∙ g.met.H.Format.makes_ids _
    ∙ ap (λ (u : ℕ). hashed_by (eqb g.row.N 32) (header tree (length (raw_tree (unpack u b))) ++ raw_tree (unpack u b))) c.requires.width
    ∙ id_of g.row.N tree (raw_tree (unpack g.row.N b))
