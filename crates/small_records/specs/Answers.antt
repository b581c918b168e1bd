-- What the answers of this crate's functions mean in the definitions. Assumes nothing.
use Rattle.std.specs.Prelude.{ℕ, Option, Some, None, Result, Ok, Err}
use Rattle.std.proofs.Math.Option as maybe
use Rattle.model.specs.Walk.{ANY, LEAF}
use Rattle.names.specs.Answers.{as_mode}
use Rattle.lines.specs.Answers.{part}
use Rattle.lines.specs.Places as places
use Rattle.small_records.specs.Records as def
use Rattle.small_records.specs.Places as def-places
use Rattle.small_records.specs.declared.record.Verb.{Verb}
use Rattle.small_records.specs.declared.record.Verb.TheVariants.{Upsert, Remove, Leaf}
use Rattle.small_records.specs.declared.record.Op.{Op}
use Rattle.small_records.specs.declared.record.Op.TheVariants as op
use Rattle.small_records.specs.declared.record.Told.{Told}
use Rattle.small_records.specs.declared.record.EditRecord.{EditRecord}
use Rattle.small_records.specs.declared.record.BadLine.{BadLine}
use Rattle.small_records.specs.declared.record.BadLine.TheVariants as line
use Rattle.small_records.specs.declared.form.BadForm.{BadForm}

abbrev pub as_verb : Verb → def.Verb
as_verb Upsert = def.adds
as_verb Remove = def.takes ANY
as_verb Leaf = def.takes LEAF

abbrev pub verb_read : Option Verb → maybe.Option def.Verb
verb_read (Some v) = maybe.some (as_verb v)
verb_read None = maybe.none

abbrev pub op_line : Option (Told Verb) → maybe.Option (places.Told def.Verb)
op_line (Some t) = maybe.some (record { what = as_verb t.what; next = t.next })
op_line None = maybe.none

abbrev pub as_op : Op → def.Op
as_op (op.Upsert kind) = def.put (as_mode kind)
as_op op.Remove = def.drops ANY
as_op op.Leaf = def.drops LEAF

abbrev pub op_read : Option Op → maybe.Option def.Op
op_read (Some o) = maybe.some (as_op o)
op_read None = maybe.none

abbrev pub kind_line : Option (Told Op) → maybe.Option (places.Told def.Op)
kind_line (Some t) = maybe.some (record { what = as_op t.what; next = t.next })
kind_line None = maybe.none

-- which of a record's lines it is, from 0
abbrev pub line_number : BadLine → ℕ
line_number line.Op = 0
line_number line.Path = 1
line_number line.Kind = 2
line_number line.Id = 3

abbrev pub found_as : EditRecord → def-places.Found
found_as r = record { op = as_op r.op; path = part r.path; id = part r.id; next = r.next }

abbrev pub next_read : Result (Option EditRecord) BadLine → def-places.Next
next_read (Ok (Some r)) = def-places.found (found_as r)
next_read (Ok None) = def-places.nothing
next_read (Err b) = def-places.broken (line_number b)

abbrev pub as_form : Result ℕ BadForm → def.Form
as_form (Ok n) = def.records n
as_form (Err b) = def.bad_line b.line
