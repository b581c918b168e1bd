-- Calls on small editors, by which programs of no use are told from those that are meant. Assumes nothing.
use Rattle.std.specs.Prelude.{false, List, [], ◌∷◌, replicate}
use Rattle.model.specs.Bytes.{Bytes}
use Rattle.model.specs.Script.{no#, no_table}
use Rattle.model.specs.Table.{Table}
use Rattle.names.specs.declared.mode.EntryKind.TheVariants.{Blob}
use Rattle.editor_terms.specs.declared.edit.Edit.TheVariants.{Remove, Upsert}
use Rattle.editor_terms.specs.declared.edit.RemoveKind.{RemoveKind}
use Rattle.editor_terms.specs.declared.edit.RemoveKind.TheVariants.{Any, Leaf}
use Rattle.editor_terms.specs.declared.id.Id.{Id}
use Rattle.theorems.specs.Public.{Call, set_root_call, edit, cursor_at_call, begin, begin_at, answer, answer_and_request, fail}

-- the id of twenty bytes 17, and of 19 zeros and a one
abbrev pub seventeen : Id
seventeen = record { bytes = replicate 20 17 }

abbrev pub first : Id
first = record { bytes = no# 1 }

-- a file at `a`, and one at `a/b`; a removal
abbrev pub a : Bytes
a = 97 ∷ []

abbrev pub put : Bytes → Bytes → Call
put prefix path = edit no_table (Upsert Blob seventeen) false prefix path

abbrev pub cut : RemoveKind → Bytes → Bytes → Call
cut kind prefix path = edit no_table (Remove kind) false prefix path

abbrev pub put_a : Call
put_a = put [] a

abbrev pub put_ab : Call
put_ab = put [] (97 ∷ 47 ∷ 98 ∷ [])

-- a folder `d`, and names that are not there
abbrev pub d : Bytes
d = 100 ∷ []

abbrev pub x : Bytes
x = 120 ∷ []

-- each call at least once
abbrev pub script : List Call
script =
    put_ab ∷ cut Any [] x ∷ cut Leaf [] x ∷ cursor_at_call no_table d ∷ put d (101 ∷ []) ∷ cut Any d x ∷ cut Leaf d x ∷ begin ∷ answer first ∷ answer first ∷ answer first
    ∷ begin_at [] ∷ fail ∷ begin ∷ answer_and_request first ∷ set_root_call [] ∷ []

-- a table with one byte of an id and no object
abbrev pub half : Table
half = record { ids = 0 ∷ []; ends = []; raws = [] }

-- calls that are refused: a root that is no tree, a table that is none, a prefix with no tree, a path with a NUL, no write open; and, once one is, an edit
abbrev pub refusals : List Call
refusals = set_root_call (0 ∷ []) ∷ edit half (Upsert Blob seventeen) false [] a ∷ put x a ∷ put [] (0 ∷ []) ∷ fail ∷ begin ∷ put_a ∷ []
