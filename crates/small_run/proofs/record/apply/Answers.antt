-- `small_run::record::apply` meets its contract: the digits say the path, and the store holds an editor, so that the call makes the edit of the definition. Assumes nothing.
use mathlib.Core.Path.{◌∙◌, sym}
use mathlib.Core.Bool.{false}
use mathlib.Core.List.{[]}
use native.Mathlib.Omega.{arith}
use Rattle.model.specs.Bytes.{Bytes}
use Rattle.model.specs.Calls.{edited}
use Rattle.model.specs.Formats.{sha1}
use Rattle.model.specs.Script.{no_table}
use Rattle.editor_terms.specs.Edits.{as_edit}
use Rattle.lines.proofs.TextLaws.{length_bytes}
use Rattle.small_run.proofs.RecordLaws.{decoded_front, did_at}
use Rattle.small_run.proofs.record.apply.Goals as goal

pub returns : goal.returns
returns c =
    let a = c.args in
    let path = c.front-p.ensures ∙ decoded_front _ a.digits.now c.decode.result _ c.requires.1 (omega (arith, c.requires.2)) c.decode.ensures _ (sym (length_bytes a.digits.now)) in
    let old = did_at (λ (p : Bytes). edited sha1 no_table (as_edit a.edit) false [] p) _ _ path c.edit.ensures.done c.requires.0 in
    record { code = old.0; editor = old.1; lent = c.edit.ensures.lent }
