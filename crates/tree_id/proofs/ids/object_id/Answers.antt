-- `tree_id::ids::object_id` meets its contract: the bytes are taken in behind the header. Assumes nothing.
use mathlib.Core.Path.{ap, ◌∙◌}
use native.Mathlib.Omega.{arith}
use lib.ListN.{length}
use Rattle.tree_id.proofs.Laws.{header_short, id_of}
use Rattle.tree_id.proofs.ids.object_id.Goals as goal

pub update-requires : goal.update-requires
update-requires g c = omega (arith, c.begin.ensures.count, header_short c.args.kind.now (length c.args.body.now), c.requires)

pub finish-requires : goal.finish-requires
finish-requires g c = omega (arith, c.update.ensures.count, c.begin.ensures.count, header_short c.args.kind.now (length c.args.body.now), c.requires)

pub returns : goal.returns
returns g c =
    c.bytes.ensures ∙ ap g.H.Digest.bytes_of (c.finish.ensures _ (c.update.ensures.holds _ c.begin.ensures)) ∙ g.met.H.Format.makes_ids _ ∙ id_of g.row.N c.args.kind.now c.args.body.now
