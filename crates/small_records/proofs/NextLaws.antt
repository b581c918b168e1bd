-- Laws of the record at a place: its four lines decide, one after the other. Assumes nothing.
use Prim.Native.Nat.{ℕ, ◌+◌, ◌≤◌, ◌<◌}
use mathlib.Core.Path.{◌≡◌, sym, ap, ◌∙◌}
use mathlib.Core.Bool.{true, cond}
use mathlib.Core.Option.{none, some}
use native.Mathlib.Omega.{arith}
use lib.ListN.{length}
use borrow.Author.Tests.{le-leb, lt-leb}
use Rattle.std.specs.Prelude.{Option, Some, None, Result, Ok, Err}
use Rattle.std.specs.Option.{ok_or}
use Rattle.std.specs.Result.{IsErrAnd}
use Rattle.model.specs.Bytes.{Bytes}
use Rattle.lines.specs.Hex.{hexed}
use Rattle.small_records.specs.Records.{op_key, path_key, kind_key, id_key, Verb, verb_of, Op, op_of, good_id}
use Rattle.lines.specs.Places.{Part, text_at, past, value_at, Told, told}
use Rattle.small_records.specs.Places.{op_at, path_at, kind_at, id_at, nothing, broken, found, next_at}
use Rattle.small_records.specs.Answers.{line_number, next_read}
use Rattle.small_records.specs.declared.record.EditRecord.{EditRecord}
use Rattle.small_records.specs.declared.record.BadLine.{BadLine}
use Rattle.lines.proofs.PlaceLaws.{value_inside, value_of, told_of, if_of}

module _ (w : ℕ) (s : Bytes) (at : ℕ) where
  pub at_end : length s ≤ at → nothing ≡ next_at w s at
  unfolding next_at
  at_end h = rw (le-leb (length s) at h)

  module _ (h : at < length s) where
    -- no line at which the lines break the form
    pub bad_op : op_at s at ≡ none → broken 0 ≡ next_at w s at
    unfolding next_at
    bad_op e = rw (lt-leb (length s) at h, e)

    module _ {v : Verb} {n : ℕ} (eo : op_at s at ≡ some (record { what = v; next = n })) where
      pub bad_path_lem : path_at s n ≡ none → broken 1 ≡ next_at w s at
      unfolding next_at
      bad_path_lem e = rw (lt-leb (length s) at h, eo, e)

      module _ {p : Part} (ep : path_at s n ≡ some p) where
        pub bad_kind : kind_at s v (past p) ≡ none → broken 2 ≡ next_at w s at
        unfolding next_at
        bad_kind e = rw (lt-leb (length s) at h, eo, ep, e)

        module _ {k : Op} {m : ℕ} (ek : kind_at s v (past p) ≡ some (record { what = k; next = m })) where
          pub bad_id : id_at w s k m ≡ none → broken 3 ≡ next_at w s at
          unfolding next_at
          bad_id e = rw (lt-leb (length s) at h, eo, ep, ek, e)

          pub whole_record : {i : Part} → id_at w s k m ≡ some i → found (record { op = k; path = p; id = i; next = past i }) ≡ next_at w s at
          unfolding next_at
          whole_record e = rw (lt-leb (length s) at h, eo, ep, ek, e)

-- an error that `?` passes on, of a line that was not read
pub passed_on : {T : Type 0} {o : Option T} (b : BadLine) {d : BadLine} → o ≡ None → ◌≡◌ {A = Result T BadLine} (Err d) (ok_or o b) →
    (r : Result (Option EditRecord) BadLine) → IsErrAnd r (λ x. x ≡ d) → next_read r ≡ broken (line_number b)
passed_on {o = None} b n e (Ok x) q = absurd q
passed_on {o = None} b n e (Err x) q = ap (λ (x : BadLine). broken (line_number x)) (q ∙ cc)
passed_on {o = Some t} b n e r q = cc

-- Where the lines end
module _ (s : Bytes) (at : ℕ) where
  pub op_parts : {t : Told Verb} → op_at s at ≡ some t → (p : Part) × (value_at op_key s at ≡ some p) × ((verb_of (text_at s p) ≡ some t.what) × (past p ≡ t.next))
  unfolding op_at
  op_parts {t} e =
      let (p, x, y) = value_of (value_at op_key s at) (λ p. told (verb_of (text_at s p)) (past p)) t e in
      (p, x, told_of (verb_of (text_at s p)) (past p) t y)

  pub path_parts : {p : Part} → path_at s at ≡ some p → (value_at path_key s at ≡ some p) × (hexed (text_at s p) ≡ true)
  unfolding path_at
  path_parts {p} e =
      let (q, x, y) = value_of (value_at path_key s at) (λ q. cond (hexed (text_at s q)) (some q) none) p e in
      let (b, z) = if_of (hexed (text_at s q)) q p y in
      (x ∙ ap some z, sym (ap (λ (j : Part). hexed (text_at s j)) z) ∙ b)

  pub kind_parts : (v : Verb) {t : Told Op} → kind_at s v at ≡ some t → (p : Part) × (value_at kind_key s at ≡ some p) × ((op_of v (text_at s p) ≡ some t.what) × (past p ≡ t.next))
  unfolding kind_at
  kind_parts v {t} e =
      let (p, x, y) = value_of (value_at kind_key s at) (λ p. told (op_of v (text_at s p)) (past p)) t e in
      (p, x, told_of (op_of v (text_at s p)) (past p) t y)

  pub id_parts : (w : ℕ) (k : Op) {p : Part} → id_at w s k at ≡ some p → (value_at id_key s at ≡ some p) × (good_id w k (text_at s p) ≡ true)
  unfolding id_at
  id_parts w k {p} e =
      let (q, x, y) = value_of (value_at id_key s at) (λ q. cond (good_id w k (text_at s q)) (some q) none) p e in
      let (b, z) = if_of (good_id w k (text_at s q)) q p y in
      (x ∙ ap some z, sym (ap (λ (j : Part). good_id w k (text_at s j)) z) ∙ b)

  pub op_inside : {t : Told Verb} → op_at s at ≡ some t → (at < t.next) × (t.next ≤ length s)
  op_inside {t} e =
      let (p, x, (y, z)) = op_parts e in
      let i = value_inside op_key s at x in
      (omega arith, omega arith)

  pub path_inside : {p : Part} → path_at s at ≡ some p → (at ≤ p.at) × (p.at + p.len < length s)
  path_inside e = value_inside path_key s at (path_parts e).0

  pub kind_inside : (v : Verb) {t : Told Op} → kind_at s v at ≡ some t → (at < t.next) × (t.next ≤ length s)
  kind_inside v {t} e =
      let (p, x, (y, z)) = kind_parts v e in
      let i = value_inside kind_key s at x in
      (omega arith, omega arith)

  pub id_inside : (w : ℕ) (k : Op) {p : Part} → id_at w s k at ≡ some p → (at ≤ p.at) × (p.at + p.len < length s)
  id_inside w k e = value_inside id_key s at (id_parts w k e).0
