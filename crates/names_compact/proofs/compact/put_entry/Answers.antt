-- `names_compact::compact::put_entry` meets its contract: 321 bytes have room for every entry, which stands at their front. Assumes nothing.
use lib.ListN.{length, take}
use mathlib.Core.Path.{◌≡◌, ap, ◌∙◌}
use native.Mathlib.Omega.{arith}
use Rattle.names.specs.Answers.{entry}
use Rattle.names.proofs.WriteLaws.{splice_front}
use Rattle.names_compact.specs.Compact.{packed}
use Rattle.names_compact.proofs.compact.put_entry.Goals as goal

pub returns : goal.returns
returns c =
    let e = packed (entry c.args.e.kind c.args.e.name.now c.args.e.id.now) in
    let v : c.put_at.result ≡ length e = omega (arith, c.put_at.ensures.value) in
    (v, ap (take c.put_at.result) c.put_at.ensures.out_after ∙ splice_front c.args.buf.now e c.put_at.result v)
