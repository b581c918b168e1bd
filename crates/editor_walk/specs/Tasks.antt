-- What a task, and a store that is read, mean in the model. Assumes nothing.
use Rattle.std.specs.Prelude.{ℕ, List}
use Rattle.model.specs.Bytes.{Bytes}
use Rattle.model.specs.Editor.{Cache}
use Rattle.model.specs.Formats.{sha1}
use Rattle.model.specs.Table.{Table}
use Rattle.model.specs.Measure.{Measured, measure}
use Rattle.model.specs.Walk.{Edit, Walked, walk}
use Rattle.store_slots.specs.View.{view_of, cached_of, path_of}
use Rattle.store_slots.specs.declared.View.{View}
use Rattle.editor_terms.specs.Edits.{as_edit}
use Rattle.editor_terms.specs.Tables.{objects_in}
use Rattle.editor_walk.specs.declared.task.Task.{Task}

abbrev pub table_for : Task → Table
table_for t = objects_in t.table

abbrev pub edit_for : Task → Edit
edit_for t = as_edit t.edit

-- the walk and the measure of it, down a path from the tree at p
abbrev pub walk_for : Task → List Bytes → Bytes → Cache → Walked
walk_for t = walk sha1 (table_for t) (edit_for t) t.opening

abbrev pub measure_for : Task → Bytes → Bytes → Cache → Measured
measure_for t = measure sha1 (table_for t) (edit_for t) t.opening

-- the trees of a store that is read, those that no write has taken, and the path of a slot
abbrev pub view_seen : View → Cache
view_seen v = view_of 20 v.ed v.plens.now v.paths.now v.tlens.now v.trees.now

abbrev pub cached_seen : View → Cache
cached_seen v = cached_of 20 v.ed v.plens.now v.paths.now v.tlens.now v.trees.now

abbrev pub path_seen : View → ℕ → Bytes
path_seen v k = path_of v.plens.now v.paths.now k
