-- Where a record stands in the input: the same lines, by places. Assumes nothing.
use Rattle.std.specs.Prelude.{ℕ, cond, leb, length}
use Rattle.std.proofs.Math.Option.{Option, none, some}
use Rattle.model.specs.Bytes.{Bytes}
use Rattle.lines.specs.Hex.{hexed, bytes_of}
use Rattle.lines.specs.Places.{Part, text_at, past, value_at, Told, told, bind}
use Rattle.small_records.specs.Records.{op_key, path_key, kind_key, id_key, Verb, verb_of, Op, op_of, good_id, edit_of, EditRecord}

-- the four lines of a record, each at a place
unfoldable pub op_at : Bytes → ℕ → Option (Told Verb)
op_at s at = bind (value_at op_key s at) (λ p. told (verb_of (text_at s p)) (past p))

unfoldable pub path_at : Bytes → ℕ → Option Part
path_at s at = bind (value_at path_key s at) (λ p. cond (hexed (text_at s p)) (some p) none)

unfoldable pub kind_at : Bytes → Verb → ℕ → Option (Told Op)
kind_at s o at = bind (value_at kind_key s at) (λ p. told (op_of o (text_at s p)) (past p))

unfoldable pub id_at : ℕ → Bytes → Op → ℕ → Option Part
id_at w s k at = bind (value_at id_key s at) (λ p. cond (good_id w k (text_at s p)) (some p) none)

-- a record that was found: where its path's and its id's digits stand, and where the next record does
pub record Found : Type 0 where
  pub op : Op
  pub path : Part
  pub id : Part
  pub next : ℕ

-- the record of the definition
abbrev pub record_found : Bytes → Found → EditRecord
record_found s f = record { edit = edit_of f.op (text_at s f.id); path = bytes_of (text_at s f.path) }

-- What stands at a place: nothing, a record, or lines that break the form, at the first, second, third or fourth line (0 to 3)
pub data Next : Type 0 where
  nothing : Next
  broken : ℕ → Next
  found : Found → Next

abbrev pub or_broken : {A : Type 0} → ℕ → Option A → (A → Next) → Next
or_broken k none next = broken k
or_broken k (some a) next = next a

unfoldable pub next_at : ℕ → Bytes → ℕ → Next
next_at w s at =
    cond (leb (length s) at) nothing
    (or_broken 0 (op_at s at) (λ o.
    or_broken 1 (path_at s o.next) (λ p.
    or_broken 2 (kind_at s o.what (past p)) (λ k.
    or_broken 3 (id_at w s k.what k.next) (λ i.
    found (record { op = k.what; path = p; id = i; next = past i }))))))
