-- `editor::root::rooted` meets its contract: the raw tree is judged, then its room. Assumes nothing.
use mathlib.Core.Path.{◌≡◌, sym, ap, ◌∙◌}
use Rattle.std.proofs.Math.Option.{some}
use Rattle.names.specs.Answers.{checked_as}
use Rattle.names.specs.Check.{size_of}
use Rattle.model.specs.Raw.{read_tree}
use Rattle.editor_terms.specs.declared.refusal.Refusal.TheVariants.{BadRoot}
use Rattle.editor.specs.Lent.{lent_in}
use Rattle.editor.proofs.LookLaws.{missing_as}
use Rattle.editor.proofs.RootLaws.{no_root, many_entries, many_names}
use Rattle.editor.proofs.root.rooted.Goals as goal
use Rattle.editor.proofs.root.rooted.Goals.{then-size-gt-ENTRIES-via-then-size-gt-ENTRIES, then-size-gt-ENTRIES-via-else-size-gt-ENTRIES+then-size-gt-NAME_BYTES}

pub returns-in_err-size-clause-done : goal.returns-in_err-size-clause-done
returns-in_err-size-clause-done c order o =
    let a = c.args in
    let e = c.in_err-size.ensures in
    rw (missing_as c.from_residual.result c.well_formed-2.result BadRoot c.from_residual.ensures.1 e.ok_part e.value)
    (no_root a.raw.now (lent_in a.s.now order) c.well_formed-2.result c.well_formed-2.ensures e.ok_part)

pub returns-then-size-gt-ENTRIES-clause-done : goal.returns-then-size-gt-ENTRIES-clause-done
returns-then-size-gt-ENTRIES-clause-done c order o =
    let a = c.args in
    let m = c.in_ok-size in
    let size : size_of (read_tree 20 a.raw.now) ≡ some (record { entries = m.size.entries; bytes = m.size.name_bytes }) = sym c.well_formed-2.ensures ∙ ap checked_as m.ensures.ok_part in
    elim c.then-size-gt-ENTRIES.branch [
      | then-size-gt-ENTRIES-via-then-size-gt-ENTRIES w ↦ many_entries a.raw.now (lent_in a.s.now order) m.size.entries m.size.name_bytes size w.if-size-gt-ENTRIES.true
      | then-size-gt-ENTRIES-via-else-size-gt-ENTRIES+then-size-gt-NAME_BYTES w ↦ many_names a.raw.now (lent_in a.s.now order) m.size.entries m.size.name_bytes size w.if-size-gt-ENTRIES.false w.if-size-gt-NAME_BYTES.true
    ]
