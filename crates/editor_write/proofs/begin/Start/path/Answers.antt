-- `editor_write::begin::Start::path` meets its contract: the root's path is empty, and a cursor's its prefix. Assumes nothing.
use Rattle.editor_write.proofs.BeginLaws.{root_path, cursor_path}
use Rattle.editor_write.proofs.begin.Start.path.Goals as goal

pub returns-in-Root : goal.returns-in-Root
returns-in-Root c = root_path c.in-Root.is

pub returns-in-Cursor : goal.returns-in-Cursor
returns-in-Cursor c = cursor_path c.in-Cursor.is
