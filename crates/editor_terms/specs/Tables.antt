-- The object table as the code has it: three slices, as they are lent or known to be a table. Assumes nothing.
use Rattle.std.specs.Prelude.{◌≡◌, true, false, Option as Opt, Some, None}
use Rattle.model.specs.Table.{Table as Model, good_table}
use Rattle.editor_terms.specs.Objects.{table_of}
use Rattle.editor_terms.specs.declared.table.Table.{Table}
use Rattle.editor_terms.specs.declared.table.Objects.{Objects}

abbrev pub table_in : Table → Model
table_in t = table_of t.ids.now t.ends.now t.raws.now

abbrev pub objects_in : Objects → Model
objects_in t = table_of t.ids.now t.ends.now t.raws.now

-- the table itself, where it is one
abbrev pub ChecksAs : Table → Opt Objects → Type 0
ChecksAs t (Some o) = (good_table 20 (table_in t) ≡ true) × (o.ids.now ≡ t.ids.now) × (o.ends.now ≡ t.ends.now) × (o.raws.now ≡ t.raws.now)
ChecksAs t None = good_table 20 (table_in t) ≡ false
