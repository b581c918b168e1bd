-- `lines::text::put_key` meets its contract: two writes, one behind the other, are one write of the whole. Assumes nothing.
use mathlib.Core.List.{[], ◌∷◌}
use native.Mathlib.Omega.{arith}
use Rattle.names.proofs.WriteLaws.{Wrote, wrote, wrote_more}
use Rattle.lines.proofs.text.put_key.Goals as goal

pub returns : goal.returns
returns c =
    let w : Wrote c.args.out.now c.args.at c.args.key.now c.put-a.new.out c.put-a.result = wrote (omega (arith, c.requires)) (c.put-a.ensures.value, c.put-a.ensures.out_after) in
    let v = wrote_more w (61 ∷ []) (omega (arith, w.next, w.long, c.requires)) (c.put.ensures.value, c.put.ensures.out_after) in
    record { value = v.next; out_after = v.done }
