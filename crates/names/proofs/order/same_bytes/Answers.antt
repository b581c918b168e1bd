-- `names::order::same_bytes` meets its contract: where the lengths or the last eight bytes differ the bytes do; else both decide whether they are equal.
use Rattle.std.proofs.lemmas.Slice.Eq.{slice_eq-Decides}
use Rattle.std.proofs.lemmas.Bool.Decides.{same_from_decides, Decides-eqb}
use Rattle.model.specs.Bytes.{same}
use Rattle.model.proofs.ByteLaws.{same_eq, same_of}
use Rattle.names.proofs.OrderLaws.{other_length}
use Rattle.names.proofs.EightLaws.{other_block}
use Rattle.names.proofs.order.same_bytes.Goals as goal

pub returns-then-a-b : goal.returns-then-a-b
returns-then-a-b c = other_length c.args.a.now c.args.b.now c.if-a-b.true

pub returns-then-low_at : goal.returns-then-low_at
returns-then-low_at c = other_block c.low_at.ensures c.low_at-then-a-ge8.ensures c.if-low_at.true

pub returns : goal.returns
returns c =
    let a = c.args.a.now in
    let b = c.args.b.now in
    same_from_decides c.eq.result (same a b) (slice_eq-Decides Decides-eqb a b c.eq.result c.eq.ensures) (same_eq a b, same_of a b)
