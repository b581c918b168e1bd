-- Runs of the public calls: a list of upserts, and a write. Assumes nothing.
use Rattle.std.specs.Prelude.{ℕ, ◌≤◌, ◌≡◌, false, List, [], ◌∷◌, ◌++◌, length, take, Result, Ok, Err}
use Rattle.model.specs.Bytes.{Bytes}
use Rattle.model.specs.Table.{Table}
use Rattle.model.specs.Editor.{Start}
use Rattle.model.specs.Formats.{sha1}
use Rattle.model.specs.Walk.{upsert}
use Rattle.model.specs.Calls.{edited}
use Rattle.model.specs.Write.{begun, answered}
use Rattle.model.specs.Written.{Request}
use Rattle.model.specs.Order.{All, Upsert}
use Rattle.editor_terms.specs.Answers.{Answer}
use Rattle.editor_terms.specs.declared.id.Id.{Id}
use Rattle.editor_terms.specs.declared.refusal.Refusal.{Refusal}
use Rattle.editor.specs.Lent.{Lent, Does}
use Rattle.editor_write.specs.declared.request.Asked.{Asked}
use Rattle.theorems.specs.Public.{RequestSays, Proceeds}

-- upserts with one table, made one after the other by the public call (its kind and id are the model's mode and bytes: `as_mode kind`, `idBytes id`), and the numbers
-- that it answered
abbrev pub Upserts : Table → List Upsert → Lent → List ℕ → Lent → Type 0
Upserts T [] s [] q = s ≡ q
Upserts T [] s (n ∷ ns) q = ⊥
Upserts T (x ∷ xs) s [] q = ⊥
Upserts T (x ∷ xs) s (n ∷ ns) q = (t : Lent) × Does (edited sha1 T (upsert x.mode x.id) false [] x.path) s n t × Upserts T xs t ns q

abbrev pub AllDone : List ℕ → Type 0
AllDone ns = All (λ n. n ≡ 0) ns

-- what the host has from the call `request`: the path and the raw tree where it is done, nothing where it is not
abbrev pub given : Result Asked Refusal → Bytes → List Request
given (Ok asked) out = (take asked.at.len asked.at.prefix, take asked.len out) ∷ []
given (Err refusal) out = []

-- the host reads the request of the store s, into an output of its own with room for the largest raw tree, and has r from it
pub record Reads (s : Lent) (r : List Request) : Type 0 where
  pub answer : Result Asked Refusal
  pub before : Bytes
  pub after : Bytes
  pub room : 45056 ≤ length before
  pub asked : RequestSays s answer before after
  pub gives : r ≡ given answer after

-- the host reads and answers, with these ids one after the other, and reads once more; these are the requests that it has
abbrev pub Asks : List Bytes → Lent → List Request → Type 0
Asks [] s rs = Reads s rs
Asks (i ∷ is) s rs = (r : List Request) × Reads s r × (c : ℕ) × (t : Lent) × Does (answered sha1 i) s c t × (rest : List Request) × Asks is t rest × (rs ≡ r ++ rest)

-- the host answers the request of the store s by the call that reads the next one too, which leaves the store t, and has r from it
pub record Goes (id : Id) (s t : Lent) (r : List Request) : Type 0 where
  pub answer : Answer
  pub reads : Reads t r
  pub made : Proceeds id s answer t reads.answer reads.before reads.after

-- it does so with these ids one after the other; these are the requests that it has
abbrev pub Nexts : List Id → Lent → List Request → Type 0
Nexts [] s rs = rs ≡ []
Nexts (i ∷ is) s rs = (t : Lent) × (r : List Request) × Goes i s t r × (rest : List Request) × Nexts is t rest × (rs ≡ r ++ rest)

-- a write from a start, with these ids answered, and the requests that the host has; none where begin is refused
pub record Writes (is : List Bytes) (start : Start) (s : Lent) (rs : List Request) : Type 0 where
  pub number : ℕ
  pub stage : Lent
  pub begins : Does (begun sha1 start) s number stage
  pub on : number ≡ 0 → Asks is stage rs
  pub off : (number ≡ 0 → ⊥) → rs ≡ []
