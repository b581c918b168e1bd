-- `editor::cursor::to_cursor` meets its contract: the root's prefix is empty, and the bytes behind it are those of `at`. Assumes nothing.
use mathlib.Core.Path.{sym, ◌∙◌}
use Rattle.editor.proofs.CursorLaws.{prefix_within}
use Rattle.editor.proofs.cursor.to_cursor.Goals as goal

pub returns : goal.returns
returns c = (sym (prefix_within c.at.result c.at.ensures.0) ∙ c.at.ensures.1, c.at.ensures.2)
