-- Where a write begins. Assumes nothing.
use Rattle.std.specs.Prelude.{ℕ}
use Rattle.model.specs.Editor as model
use Rattle.editor_write.specs.declared.begin.Start.{Start}
use Rattle.editor_write.specs.declared.begin.Start.TheVariants.{Root, Cursor}

abbrev pub start_as : Start → model.Start
start_as Root = model.from_root
start_as (Cursor prefix) = model.from_cursor prefix.now

-- its number in the record
abbrev pub start_number : Start → ℕ
start_number Root = 1
start_number (Cursor prefix) = 2
