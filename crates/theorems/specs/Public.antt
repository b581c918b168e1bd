-- The public calls that change a store, each with what it is given, and what its contract says of it, in the contract's words. Assumes nothing.
use Rattle.std.specs.Prelude.{ℕ, ◌≡◌, Bool, List, [], ◌∷◌, Result, IfOk, IfErr}
use Rattle.model.specs.Bytes.{Bytes}
use Rattle.model.specs.Table.{Table}
use Rattle.model.specs.Editor.{from_root, from_cursor}
use Rattle.model.specs.Editor.{Editor as Model}
use Rattle.model.specs.Formats.{sha1}
use Rattle.model.specs.Calls as model
use Rattle.model.specs.Write as write
use Rattle.editor_terms.specs.Answers.{Answer, code_number}
use Rattle.editor_terms.specs.Edits.{as_edit}
use Rattle.editor_terms.specs.Ids.{id_bytes}
use Rattle.editor_terms.specs.declared.edit.Edit.{Edit}
use Rattle.editor_terms.specs.declared.id.Id.{Id}
use Rattle.editor_terms.specs.declared.refusal.Refusal.{Refusal}
use Rattle.editor.specs.Lent.{Lent, Does}
use Rattle.editor.specs.Looks.{cursor_at, opened_number}
use Rattle.editor.specs.Roots.{Makes}
use Rattle.editor.specs.declared.cursor.Cursor.{Cursor}
use Rattle.editor.specs.declared.cursor.Unopened.{Unopened}
use Rattle.editor_write.specs.Requests.{answer_of, len_of, place_of, Requests}
use Rattle.editor_write.specs.declared.request.Asked.{Asked}

-- `editor`: root::set_root; edit::edit, with the edit, whether it opens a cursor, the prefix and the path; cursor::cursor_at;
-- `editor_write`: begin::begin, begin::begin_at; answer::answer; next::answer_and_request; fail::fail
pub data Call : Type 0 where
  set_root_call : Bytes → Call
  edit : Table → Edit → Bool → Bytes → Bytes → Call
  cursor_at_call : Table → Bytes → Call
  begin : Call
  begin_at : Bytes → Call
  answer answer_and_request : Id → Call
  fail : Call

-- what the contract says that the call does to the editor that is held
abbrev pub does : Call → Model → model.Answer
does (set_root_call raw) = model.set_root sha1 raw
does (edit T e opening prefix path) = model.edited sha1 T (as_edit e) opening prefix path
does (cursor_at_call T path) = model.opened sha1 T path
does begin = write.begun sha1 from_root
does (begin_at prefix) = write.begun sha1 (from_cursor prefix)
does (answer id) = write.answered sha1 (id_bytes id)
does (answer_and_request id) = write.answered sha1 (id_bytes id)
does fail = write.failed

-- with root::new these are all
pub data Public : Type 0 where
  new : Bytes → Public
  call : Call → Public

-- the contract: the store before, the number, and the store afterwards
abbrev pub Says : Public → Lent → ℕ → Lent → Type 0
Says (new raw) s c q = Makes raw s c q
Says (call x) s c q = Does (does x) s c q

-- calls made one after the other, and the numbers that they answered
abbrev pub Made : List Public → List ℕ → Lent → Lent → Type 0
Made [] [] s q = s ≡ q
Made [] (n ∷ ns) s q = ⊥
Made (x ∷ xs) [] s q = ⊥
Made (x ∷ xs) (n ∷ ns) s q = (t : Lent) × Says x s n t × Made xs ns t q

-- the opening of a cursor gives the cursor too: at the path where it is done, at the root where it is not
pub record Opens (T : Table) (path : Bytes) (s : Lent) (r : Result Cursor Unopened) (q : Lent) : Type 0 where
  pub store : Does (model.opened sha1 T path) s (opened_number r) q
  pub there : IfOk r (λ c. c ≡ cursor_at path)
  pub root : IfErr r (λ u. u.cursor ≡ cursor_at [])

-- reading the request of a store, into an output that was `before` and is `after`
abbrev pub RequestSays : Lent → Result Asked Refusal → Bytes → Bytes → Type 0
RequestSays s r before after = Requests s (answer_of r) (len_of r) (place_of r) before after

-- an answer that reads the next request gives that too: it is the request of the store that the answer leaves
pub record Proceeds (id : Id) (s : Lent) (k : Answer) (q : Lent) (next : Result Asked Refusal) (before after : Bytes) : Type 0 where
  pub store : Does (write.answered sha1 (id_bytes id)) s (code_number k) q
  pub request : RequestSays q next before after
