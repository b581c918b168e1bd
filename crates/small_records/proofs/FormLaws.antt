-- Reading record after record decides the form of the whole input: what is left gives the answer. Assumes nothing.
use Prim.Native.Nat.{ℕ, ◌+◌, ◌*◌, ◌≤◌, ◌<◌}
use mathlib.Core.Path.{◌≡◌, refl, sym, ap, ◌∙◌}
use mathlib.Core.List.{List, [], ◌∷◌}
use mathlib.Core.Bool.{Bool, true, false, cond}
use mathlib.Core.Option.{Option, none, some}
use native.Mathlib.Omega.{arith}
use lib.Dec.{leb, eqb}
use lib.ListN.{length, drop}
use borrow.Author.Tests.{lt-leb, le-leb, eqb-true}
use Rattle.model.specs.Bytes.{Bytes}
use Rattle.model.specs.Tree.{Mode}
use Rattle.model.proofs.Basics.{and_left, and_right}
use Rattle.lines.specs.Hex.{hexed, bytes_of}
use Rattle.lines.specs.Lines.{lines}
use Rattle.small_records.specs.Records.{Verb, Op, put, good_id, EditRecord, at_op, Read, bad, good, more, read, reading, Form, bad_line, records, form_of}
use Rattle.lines.specs.Places.{Part, text_at, past, Told}
use Rattle.small_records.specs.Places.{op_at, path_at, kind_at, id_at, Found, record_found, Next, nothing, broken, found, or_broken, next_at}
use Rattle.small_records.proofs.NextLaws.{path_parts, id_parts, op_inside, path_inside, kind_inside, id_inside}
use Rattle.lines.proofs.TextLaws.{length_bytes}
use Rattle.small_records.proofs.ReadLaws.{follow, next_reads}

-- A record that was found at a place: it ends after the place, its digits stand within the input, and they are what the definition asks for
pub record Standing (w : ℕ) (s : Bytes) (at : ℕ) (f : Found) : Type 0 where
  pub forward : at < f.next
  pub inside : f.next ≤ length s
  pub path_within : f.path.at + f.path.len < length s
  pub path_hex : hexed (text_at s f.path) ≡ true
  pub id_within : f.id.at + f.id.len < length s
  pub id_good : good_id w f.op (text_at s f.id) ≡ true

-- what stands at a place
abbrev Bounds : ℕ → Bytes → ℕ → Next → Type 0
Bounds w s at nothing = Unit {0}
Bounds w s at (broken k) = Unit {0}
Bounds w s at (found f) = Standing w s at f

module _ (w : ℕ) (s : Bytes) (at : ℕ) where
  bounds_id : (p : Part) → p.at + p.len < length s → hexed (text_at s p) ≡ true → (k : Told Op) → at < k.next → (i : Option Part) → id_at w s k.what k.next ≡ i →
      Bounds w s at (or_broken 3 i (λ i. found (record { op = k.what; path = p; id = i; next = past i })))
  bounds_id p y x k h none e = tt
  bounds_id p y x k h (some i) e =
      let b = id_inside s k.next w k.what e in
      record { forward = omega arith; inside = omega arith; path_within = y; path_hex = x; id_within = b.1; id_good = (id_parts s k.next w k.what e).1 }

  bounds_kind : (v : Verb) (p : Part) → at < past p → p.at + p.len < length s → hexed (text_at s p) ≡ true → (k : Option (Told Op)) → kind_at s v (past p) ≡ k →
      Bounds w s at (or_broken 2 k (λ k. or_broken 3 (id_at w s k.what k.next) (λ i. found (record { op = k.what; path = p; id = i; next = past i }))))
  bounds_kind v p h y x none e = tt
  bounds_kind v p h y x (some k) e =
      let b = kind_inside s (past p) v e in
      bounds_id p y x k (omega arith) (id_at w s k.what k.next) refl

  bounds_path : (o : Told Verb) → at < o.next → (p : Option Part) → path_at s o.next ≡ p →
      Bounds w s at (or_broken 1 p (λ p. or_broken 2 (kind_at s o.what (past p)) (λ k. or_broken 3 (id_at w s k.what k.next) (λ i. found (record { op = k.what; path = p; id = i; next = past i })))))
  bounds_path o h none e = tt
  bounds_path o h (some p) e =
      let b = path_inside s o.next e in
      bounds_kind o.what p (omega arith) b.1 (path_parts s o.next e).1 (kind_at s o.what (past p)) refl

  bounds : Bounds w s at (next_at w s at)
  unfolding next_at
  bounds = go (leb (length s) at) (op_at s at) refl
    where
      go : (t : Bool) (o : Option (Told Verb)) → op_at s at ≡ o →
          Bounds w s at (cond t nothing (or_broken 0 o (λ o. or_broken 1 (path_at s o.next) (λ p.
          or_broken 2 (kind_at s o.what (past p)) (λ k. or_broken 3 (id_at w s k.what k.next) (λ i. found (record { op = k.what; path = p; id = i; next = past i })))))))
      go true o e = tt
      go false none e = tt
      go false (some o) e =
          let b = op_inside s at e in
          bounds_path o (omega arith) (path_at s o.next) refl

  -- the same, for a record that was found there
  pub standing : {f : Found} → next_at w s at ≡ found f → Standing w s at f
  standing e = rw e at bounds

-- an upsert's digits say an id of w bytes
pub id_wide : (w : ℕ) (m : Mode) (v : Bytes) → good_id w (put m) v ≡ true → (hexed v ≡ true) × (length (bytes_of v) ≡ w)
unfolding good_id
id_wide w m v e =
    let q = eqb-true (length v) (2 * w) (and_right (hexed v) (eqb (length v) (2 * w)) e) in
    (and_left (hexed v) (eqb (length v) (2 * w)) e, omega (arith, length_bytes v, q))

-- records that were read before the rest
abbrev plus : ℕ → Form → Form
plus c (bad_line n) = bad_line n
plus c (records m) = records (c + m)

plus_more : (c : ℕ) (r : EditRecord) (x : Read) → plus c (form_of (more r x)) ≡ plus (c + 1) (form_of x)
plus_more c r (bad n) = refl
plus_more c r (good rs) = ap records (omega arith)

-- at a place before which there are so many records: what is left decides
pub record Forming (w : ℕ) (s : Bytes) (at count : ℕ) : Type 0 where
  pub within : at ≤ length s
  pub few : count ≤ at
  pub rest : form_of (read w 1 (lines s) at_op) ≡ plus count (form_of (read w (4 * count + 1) (lines (drop at s)) at_op))

pub form_long : (w : ℕ) (s : Bytes) → 65536 < length s → bad_line 0 ≡ form_of (reading w s)
unfolding reading
form_long w s h = rw (lt-leb (length s) 65536 h)

module _ {w : ℕ} {s : Bytes} {at count : ℕ} (here : Forming w s at count) where
  on : {x : Next} → next_at w s at ≡ x → form_of (read w 1 (lines s) at_op) ≡ plus count (form_of (follow w (4 * count + 1) s x))
  on e = here.rest ∙ ap (λ (r : Read). plus count (form_of r)) (next_reads w (4 * count + 1) s at ∙ ap (follow w (4 * count + 1) s) e)

  pub form_more : {f : Found} → next_at w s at ≡ found f → Forming w s f.next (count + 1)
  form_more {f} e =
      let b = standing w s at e in
      let q : 4 * count + 1 + 4 ≡ 4 * (count + 1) + 1 = omega arith in
      record {
        within = omega arith;
        few = omega arith;
        rest = on e ∙ plus_more count (record_found s f) (read w (4 * count + 1 + 4) (lines (drop f.next s)) at_op)
            ∙ ap (λ (n : ℕ). plus (count + 1) (form_of (read w n (lines (drop f.next s)) at_op))) q;
      }

  module _ (short : length s ≤ 65536) where
    whole : form_of (read w 1 (lines s) at_op) ≡ form_of (reading w s)
    unfolding reading
    whole = rw (le-leb (length s) 65536 short)

    pub form_broken : {k : ℕ} → next_at w s at ≡ broken k → bad_line (4 * count + 1 + k) ≡ form_of (reading w s)
    form_broken e = sym (on e) ∙ whole

    pub form_none : next_at w s at ≡ nothing → records count ≡ form_of (reading w s)
    form_none e = ap records (omega arith) ∙ sym (on e) ∙ whole

-- Going over a good input record by record: the records from a place on
pub record Left (w : ℕ) (s : Bytes) (at : ℕ) (rs : List EditRecord) : Type 0 where
  pub line : ℕ
  pub rest : read w line (lines (drop at s)) at_op ≡ good rs

pub left_begin : (w : ℕ) (s : Bytes) (rs : List EditRecord) → reading w s ≡ good rs → Left w s 0 rs
unfolding reading
left_begin w s rs e = go (leb (length s) 65536) e
  where
    go : (t : Bool) → cond t (read w 1 (lines s) at_op) (bad 0) ≡ good rs → Left w s 0 rs
    go true q = record { line = 1; rest = q }
    go false q = absurd (let z : ◌≡◌ {A = ℕ} 0 1 = cc in omega arith)

more_inv : (r : EditRecord) (x : Read) (rs : List EditRecord) → more r x ≡ good rs → (qs : List EditRecord) × (x ≡ good qs) × (rs ≡ r ∷ qs)
more_inv r (bad n) rs e = absurd (let z : ◌≡◌ {A = ℕ} 0 1 = cc in omega arith)
more_inv r (good qs) rs e = (qs, refl, cc)

module _ {w : ℕ} {s : Bytes} {at : ℕ} {rs : List EditRecord} (left : Left w s at rs) where
  reads : {x : Next} → next_at w s at ≡ x → follow w left.line s x ≡ good rs
  reads e = sym (next_reads w left.line s at ∙ ap (follow w left.line s) e) ∙ left.rest

  pub left_more : {f : Found} → next_at w s at ≡ found f → (qs : List EditRecord) × (rs ≡ record_found s f ∷ qs) × Left w s f.next qs
  left_more {f} e =
      let (qs, x, y) = more_inv (record_found s f) (read w (left.line + 4) (lines (drop f.next s)) at_op) rs (reads e) in
      (qs, y, record { line = left.line + 4; rest = x })

  pub left_end : next_at w s at ≡ nothing → rs ≡ []
  left_end e = let q = reads e in cc

  pub left_good : {k : ℕ} → next_at w s at ≡ broken k → ⊥
  left_good e = let q = reads e in let z : ◌≡◌ {A = ℕ} 0 1 = cc in omega arith
