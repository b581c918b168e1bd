-- `names_compact::compact::put_at` meets its contract: three writes, one behind the other, are one write of the whole. Assumes nothing.
use mathlib.Core.Path.{ap, ◌∙◌}
use mathlib.Core.List.{[], ◌∷◌, append_assoc}
use native.Mathlib.Omega.{arith}
use lib.ListN.{length, length-append}
use Rattle.names.specs.Splice.{splice}
use Rattle.names.proofs.WriteLaws.{wrote, wrote_more}
use Rattle.names_compact.proofs.compact.put_at.Goals as goal

pub returns-clause-out_after : goal.returns-clause-out_after
returns-clause-out_after c =
    let a = c.args in
    let e = a.e in
    let head = c.kind_byte.result ∷ length e.name.now ∷ [] in
    let n = length-append e.id.now e.name.now in
    let w = wrote_more (wrote_more (wrote {s = head} (omega (arith, n, c.requires.room)) (c.put-a.ensures.value, c.put-a.ensures.out_after)) e.id.now (omega (arith, n, c.requires.room)) (c.put-b.ensures.value, c.put-b.ensures.out_after)) e.name.now (omega (arith, n, c.requires.room)) (c.put.ensures.value, c.put.ensures.out_after) in
    w.done ∙ ap (splice a.out.now a.at) (append_assoc head e.id.now e.name.now ∙ rw c.kind_byte.ensures)
