-- `editor::cursor::sound` meets its contract: a prefix of more than 1,024 bytes is none, and a NUL stands for it, which no cached path has. Assumes nothing.
use mathlib.Core.Path.{◌∙◌}
use Rattle.editor.proofs.CursorLaws.{prefix_within, prefix_beyond}
use Rattle.editor.proofs.cursor.sound.Goals as goal

pub returns-then-cursor-le-PATH : goal.returns-then-cursor-le-PATH
returns-then-cursor-le-PATH c = (c.if-cursor-le-PATH.true, prefix_within c.args.cursor c.if-cursor-le-PATH.true)

pub returns : goal.returns
returns c = (c.at.ensures.0, c.at.ensures.1 ∙ prefix_beyond c.args.cursor c.if-cursor-le-PATH.false)
