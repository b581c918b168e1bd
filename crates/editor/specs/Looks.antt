-- What a lookup below a prefix says, and where the tree of the prefix is. Assumes nothing.
use Rattle.std.specs.Prelude.{ℕ, ◌-◌, ◌≡◌, true, false, cond, List, [], ◌∷◌, ◌++◌, leb, length, take, replicate, Result, Ok, Err, Some, None, ◌⊎◌}
use Rattle.model.specs.Bytes.{Bytes}
use Rattle.model.specs.Map.{find, is_some}
use Rattle.model.specs.Paths.{refused}
use Rattle.model.specs.Editor.{at}
use Rattle.model.specs.Lookup as model
use Rattle.store_slots.specs.View.{slots_of, gather, SlotIs}
use Rattle.editor.specs.Lent.{Lent, Good, viewed}
use Rattle.editor.specs.declared.cursor.Cursor.{Cursor}
use Rattle.editor.specs.declared.cursor.Unopened.{Unopened}
use Rattle.editor_terms.specs.Answers.{refusal_number}
use Rattle.editor_terms.specs.declared.refusal.Refusal.{Refusal}

-- A lookup gives what the model's gives of the editor that is held: 13 is for a store that holds none.
pub record Looks (prefix path : Bytes) (s : Lent) (r : model.Looked) : Type 0 where
  pub refused : r ≡ model.refusal 13 → Good s → ⊥
  pub answered : (r ≡ model.refusal 13 → ⊥) → Good s × (r ≡ model.looked prefix path (viewed s))

-- the slot of the prefix, or the refusal 8 or 6; ds and ps are the digits and the paths of the cached slots, bs their trees
abbrev pub NotReady : ℕ → List ℕ → List Bytes → List Bytes → Bytes → Bytes → ℕ → Type 0
NotReady w ds ps bs prefix path n = ((n ≡ 8) × SlotIs w ds ps bs prefix None) ⊎ ((n ≡ 6) × (is_some (find at prefix (gather (slots_of w ds ps bs))) ≡ true) × (refused prefix path ≡ true))

abbrev pub ReadyIs : ℕ → List ℕ → List Bytes → List Bytes → Bytes → Bytes → Result ℕ Refusal → Type 0
ReadyIs w ds ps bs prefix path (Ok k) = SlotIs w ds ps bs prefix (Some k) × (refused prefix path ≡ false)
ReadyIs w ds ps bs prefix path (Err r) = NotReady w ds ps bs prefix path (refusal_number r)

-- the prefix of a cursor; one that is longer than its bytes stands at a NUL, where no tree can be
abbrev pub prefix_of : Cursor → Bytes
prefix_of c = cond (leb c.len 1024) (take c.len c.prefix) (0 ∷ [])

-- where a cursor at a path stands: at the root where the path is too long for it
abbrev pub standing : Bytes → Bytes
standing p = cond (leb (length p) 1024) p []

-- the cursor at a path: its bytes past the path are zeros
unfoldable pub cursor_at : Bytes → Cursor
cursor_at p = record { prefix = p ++ replicate (1024 - length p) 0; len = length p }

-- the number of the opening of a cursor
abbrev pub opened_number : Result Cursor Unopened → ℕ
opened_number (Ok c) = 0
opened_number (Err u) = refusal_number u.refusal
