-- `editor::cursor::cursor_at` meets its contract: it is the edit that goes down at its end, and a path that is accepted is short. Assumes nothing.
use mathlib.Core.Path.{refl, sym, ap, ◌∙◌}
use mathlib.Core.Bool.{true}
use Rattle.editor_terms.specs.Tables.{table_in}
use Rattle.editor.specs.Looks.{cursor_at}
use Rattle.editor.proofs.CursorLaws.{prefix_within, standing_at}
use Rattle.editor.proofs.EditLaws.{opened_short, opened_does}
use Rattle.editor.proofs.cursor.cursor_at.Goals as goal

pub returns-in-Err-clause-done : goal.returns-in-Err-clause-done
returns-in-Err-clause-done c =
    let a = c.args in
    opened_does (table_in a.table) a.path.now _ _ _ c.in-Err.ensures.done

pub returns-in-Ok-clause-done : goal.returns-in-Ok-clause-done
returns-in-Ok-clause-done c =
    let a = c.args in
    opened_does (table_in a.table) a.path.now _ _ _ c.in-Ok.ensures.done

pub returns-in-Ok-clause-cursor : goal.returns-in-Ok-clause-cursor
returns-in-Ok-clause-cursor c =
    let a = c.args in
    let s = standing_at a.path.now (opened_short (table_in a.table) _ true a.path.now _ _ _ c.in-Ok.ensures.done refl) in
    (sym (prefix_within c.at.result c.at.ensures.0) ∙ c.at.ensures.1 ∙ sym s, c.at.ensures.2 ∙ ap cursor_at (sym s))
