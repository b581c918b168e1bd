-- `names::write::put_entry` meets its contract: five writes, one behind the other, are one write of the whole. Assumes nothing.
use mathlib.Core.Path.{ap, ◌∙◌}
use mathlib.Core.List.{List, [], ◌∷◌}
use Prim.Native.Nat.{ℕ, ◌+◌}
use lib.ListN.{length}
use native.Mathlib.Omega.{arith}
use Rattle.names.proofs.WriteLaws.{wrote, wrote_more, entry_long, entry_parts}
use Rattle.names.specs.Answers.{entry}
use Rattle.names.specs.Splice.{splice}
use Rattle.names.proofs.write.put_entry.Goals as goal

pub put_mode-a-requires : goal.put_mode-a-requires
put_mode-a-requires c = omega (arith, entry_long (entry c.args.e.kind c.args.e.name.now c.args.e.id.now))

pub put-b-requires : goal.put-b-requires
put-b-requires c = omega (arith, entry_long (entry c.args.e.kind c.args.e.name.now c.args.e.id.now))

pub put-c-requires : goal.put-c-requires
put-c-requires c = omega (arith, entry_long (entry c.args.e.kind c.args.e.name.now c.args.e.id.now))

pub put-d-requires : goal.put-d-requires
put-d-requires c = omega (arith, entry_long (entry c.args.e.kind c.args.e.name.now c.args.e.id.now))

pub put-requires : goal.put-requires
put-requires c = omega (arith, entry_long (entry c.args.e.kind c.args.e.name.now c.args.e.id.now))

pub returns : goal.returns
returns c =
    let e = entry c.args.e.kind c.args.e.name.now c.args.e.id.now in
    let l = entry_long e in
    let w₁ = wrote (omega (arith, l)) (c.put_mode-a.ensures.value, c.put_mode-a.ensures.out_after) in
    let w₂ = wrote_more w₁ (32 ∷ []) (omega (arith, l, w₁.next, w₁.long)) (c.put-b.ensures.value, c.put-b.ensures.out_after) in
    let w₃ = wrote_more w₂ e.name (omega (arith, l, w₂.next, w₂.long)) (c.put-c.ensures.value, c.put-c.ensures.out_after) in
    let w₄ = wrote_more w₃ (0 ∷ []) (omega (arith, l, w₃.next, w₃.long)) (c.put-d.ensures.value, c.put-d.ensures.out_after) in
    let w = wrote_more w₄ e.id (omega (arith, l, w₄.next, w₄.long)) (c.put.ensures.value, c.put.ensures.out_after) in
    let p = entry_parts e in
    record { value = w.next ∙ ap (λ (l : List ℕ). c.args.at + length l) p; out_after = w.done ∙ ap (splice c.args.out.now c.args.at) p }
