-- The numbers of the answers. Assumes nothing.
use Rattle.std.specs.Prelude.{ℕ, Result, Ok, Err}
use Rattle.editor_terms.specs.declared.refusal.Refusal.{Refusal}
use Rattle.editor_terms.specs.declared.refusal.Refusal.TheVariants.{EmptyComponent, TreeNotFound, TreeDamaged, NotALeaf, NoRoom, PathRefused, BadTable, CursorStale, WriteOpen, NoWriteOpen, OutputShort, BadRoot, StoreDamaged}

abbrev pub refusal_number : Refusal → ℕ
refusal_number EmptyComponent = 1
refusal_number TreeNotFound = 2
refusal_number TreeDamaged = 3
refusal_number NotALeaf = 4
refusal_number NoRoom = 5
refusal_number PathRefused = 6
refusal_number BadTable = 7
refusal_number CursorStale = 8
refusal_number WriteOpen = 9
refusal_number NoWriteOpen = 10
refusal_number (OutputShort needed) = 11
refusal_number BadRoot = 12
refusal_number StoreDamaged = 13

-- what a call answers that gives nothing but whether it is done
abbrev pub Answer : Type 0
Answer = Result Unit Refusal

abbrev pub code_number : Answer → ℕ
code_number (Ok done) = 0
code_number (Err refusal) = refusal_number refusal
