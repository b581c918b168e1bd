-- `small_run::record::id_of` meets its contract: the digits say twenty bytes, which fill the id. Assumes nothing.
use mathlib.Core.Path.{◌≡◌, ◌∙◌, sym}
use native.Mathlib.Omega.{arith}
use lib.ListN.{length}
use lib.Seq.{take_all}
use borrow.Author.Rules.{rules}
use Rattle.small_run.proofs.RecordLaws.{decoded_front}
use Rattle.small_run.proofs.record.id_of.Goals as goal

pub returns : goal.returns
returns c =
    let l : length c.decode.new.out ≡ 20 = search rules in
    sym (take_all 20 c.decode.new.out (omega (arith, l))) ∙ decoded_front _ c.args.digits.now c.decode.result c.decode.new.out c.requires.0 (omega (arith, c.requires.1)) c.decode.ensures 20 (sym c.requires.1)
