-- What reading the open request gives. Assumes nothing.
use Rattle.std.specs.Prelude.{ℕ, ◌≡◌, [], length, take, drop, Result, Ok, Err}
use Rattle.std.proofs.Math.Option.{Option, none, some}
use Rattle.model.specs.Bytes.{Bytes}
use Rattle.model.specs.Editor.{Held}
use Rattle.model.specs.Write.{Shown, shown, short, unopened, requested, show}
use Rattle.editor_terms.specs.Answers.{Answer, code_number}
use Rattle.editor_terms.specs.declared.refusal.Refusal.{Refusal}
use Rattle.editor_terms.specs.declared.refusal.Refusal.TheVariants.{EmptyComponent, TreeNotFound, TreeDamaged, NotALeaf, NoRoom, PathRefused, BadTable, CursorStale, WriteOpen, NoWriteOpen, OutputShort, BadRoot, StoreDamaged}
use Rattle.editor.specs.Lent.{Lent, Good, viewed, Still}
use Rattle.editor.specs.Looks.{cursor_at}
use Rattle.editor.specs.declared.cursor.Cursor.{Cursor}
use Rattle.editor_write.specs.declared.request.Asked.{Asked}

-- whether it is done, how long the front of the output is, and where the tree belongs: a refusal's cursor stands at the root
abbrev pub answer_of : Result Asked Refusal → Answer
answer_of (Ok asked) = Ok tt
answer_of (Err refusal) = Err refusal

abbrev pub len_of : Result Asked Refusal → ℕ
len_of (Ok asked) = asked.len
len_of (Err refusal) = 0

abbrev pub place_of : Result Asked Refusal → Cursor
place_of (Ok asked) = asked.at
place_of (Err refusal) = cursor_at []

-- a refusal as the model's: the length needed, or nothing
abbrev pub refused_as : Refusal → Shown
refused_as EmptyComponent = unopened
refused_as TreeNotFound = unopened
refused_as TreeDamaged = unopened
refused_as NotALeaf = unopened
refused_as NoRoom = unopened
refused_as PathRefused = unopened
refused_as BadTable = unopened
refused_as CursorStale = unopened
refused_as WriteOpen = unopened
refused_as NoWriteOpen = unopened
refused_as (OutputShort m) = short m
refused_as BadRoot = unopened
refused_as StoreDamaged = unopened

-- an answer as the model's: the front of the output, or the length needed
abbrev pub shown_as : Answer → ℕ → Bytes → Shown
shown_as (Ok done) n out = shown (take n out)
shown_as (Err refusal) n out = refused_as refusal

abbrev pub shown_number : Shown → ℕ
shown_number (shown b) = 0
shown_number (short m) = 11
shown_number unopened = 10

-- how many bytes it puts at the front of the output
abbrev pub shown_length : Shown → ℕ
shown_length (shown b) = length b
shown_length (short m) = 0
shown_length unopened = 0

-- where the tree that is shown belongs; the root where none is
abbrev pub place_in : Shown → Option Held → Bytes
place_in (shown b) none = []
place_in (shown b) (some h) = h.path
place_in (short m) o = []
place_in unopened o = []

-- what f says of an output of this length: 0 with so many bytes at its front, 10, or 11 with the length needed; the rest of the output is as it was
pub record Shows (f : ℕ → Shown) (code : Answer) (n : ℕ) (before after : Bytes) : Type 0 where
  pub is : shown_as code n after ≡ f (length before)
  pub rest : drop n after ≡ drop n before
  pub kept : Still (code_number code) → after ≡ before
  pub number : code_number code ≡ shown_number (f (length before))
  pub long : n ≡ shown_length (f (length before))

-- the request of the editor that is held, with the cursor at the tree's path: 13 is for a store that holds none; a refusal's cursor stands at the root
pub record Requests (s : Lent) (code : Answer) (n : ℕ) (place : Cursor) (before after : Bytes) : Type 0 where
  pub refused : code_number code ≡ 13 → (Good s → ⊥) × (after ≡ before) × (n ≡ 0) × (place ≡ cursor_at [])
  pub done : (code_number code ≡ 13 → ⊥) → Good s × Shows (λ m. show m (viewed s)) code n before after × (place ≡ cursor_at (place_in (show (length before) (viewed s)) (requested (viewed s))))
