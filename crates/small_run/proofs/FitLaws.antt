-- The output of every input fits into 303,104 bytes: 20 bytes of the input at least make a record, whose lines are 52 at most, and the write has at most 127,214.
-- Assumes nothing.
use Prim.Native.Nat.{ℕ, zero, suc, ◌+◌, ◌*◌, ◌/◌, ◌%◌, ◌≤◌}
use mathlib.Core.Path.{◌≡◌, refl, sym, ◌∙◌, ap, subst}
use mathlib.Core.Bool.{Bool, true, false, cond}
use mathlib.Core.List.{List, [], ◌∷◌, ◌++◌}
use mathlib.Core.Option.{Option, none, some}
use native.Mathlib.Omega.{arith}
use lib.Dec.{eqb, ltb}
use lib.ListN.{length, drop, length-append}
use Rattle.model.specs.Bytes.{Bytes}
use Rattle.model.specs.Tree.{well_formed}
use Rattle.model.specs.Raw.{ended as atEnd, read_tree}
use Rattle.model.specs.Editor.{from_root, Editor, fits}
use Rattle.model.specs.Formats.{sha1}
use Rattle.model.specs.Calls.{root_only}
use Rattle.model.specs.Write.{begun}
use Rattle.model.specs.AllCalls.{GoodEdit}
use Rattle.model.specs.Order.{All}
use Rattle.model.specs.Script.{no_table}
use Rattle.model.specs.Valid.{valid}
use Rattle.model.proofs.Theorems.{edit_valid, begin_valid, new_valid}
use Rattle.lines.specs.Hex.{hexed, bytes_of}
use Rattle.lines.specs.Lines.{Line, whole, cut, onto_line, lines, starts, said}
use Rattle.small_records.specs.Records.{op_key, path_key, kind_key, id_key, Verb, verb_of, Op, put, drops, op_of, good_id, edit_of, EditRecord, Stage, at_op, at_path, at_kind, at_id, Step, on, done, wrong, or_wrong, step, Read, bad, good, more, ended, stepped, read, reading, form_of}
use Rattle.lines.specs.Texts.{decimal_from, decimal, line_of}
use Rattle.small_records.proofs.FormLaws.{id_wide, left_begin}
use Rattle.lines.proofs.PlaceLaws.{starts_long}
use Rattle.lines.proofs.TextLaws.{line_long}
use Rattle.small_run.specs.Lesson.{bad_key, edit_key, code_key, made_by, refusal, record_lines, after_records, saved, output_of, output}
use Rattle.small_run.proofs.RoomLaws.{lines_room, weight_few}
use Rattle.small_run.proofs.RunLaws.{good_form}
use Rattle.small_run.proofs.SaveLaws.{wide, pending_few}

-- Lines have no more bytes than the input
abbrev bytes_in : List Line → ℕ
bytes_in [] = 0
bytes_in (whole l ∷ ls) = suc (length l) + bytes_in ls
bytes_in (cut ∷ ls) = bytes_in ls

onto_bytes : (b : ℕ) (ls : List Line) → bytes_in (onto_line b ls) ≤ suc (bytes_in ls)
onto_bytes b [] = omega arith
onto_bytes b (whole l ∷ ls) = omega arith
onto_bytes b (cut ∷ ls) = omega arith

lines_bytes : (s : Bytes) → bytes_in (lines s) ≤ length s
unfolding lines
lines_bytes [] = omega arith
lines_bytes (b ∷ bs) = go (lines_bytes bs) (eqb b 10)
  where
    go : bytes_in (lines bs) ≤ length bs → (t : Bool) → bytes_in (cond t (whole [] ∷ lines bs) (onto_line b (lines bs))) ≤ suc (length bs)
    go ih true = omega (arith, ih)
    go ih false = omega (arith, ih, onto_bytes b (lines bs))

-- a line is as long as its key, so the four of a record have 20 bytes with their newlines
said_long : (k l v : Bytes) → said k l ≡ some v → length k ≤ length l
unfolding said
said_long k l v e = go (starts k l) refl e
  where
    go : (t : Bool) → starts k l ≡ t → ◌≡◌ {A = Option Bytes} (cond t (some (drop (length k) l)) none) (some v) → length k ≤ length l
    go true q e = starts_long k l q
    go false q e = absurd (let z : ◌≡◌ {A = ℕ} 0 1 = cc in omega arith)

abbrev before : Stage → ℕ
before at_op = 0
before (at_path o) = 4
before (at_kind o p) = 10
before (at_id k p) = 16

abbrev Steps : Stage → Bytes → Step → Type 0
Steps st l (on s) = before s ≤ before st + suc (length l)
Steps st l (done r) = (20 ≤ before st + suc (length l)) × GoodEdit sha1 r.edit
Steps st l wrong = Unit {0}

edit_good : (k : Op) (v : Bytes) → good_id 20 k v ≡ true → GoodEdit sha1 (edit_of k v)
edit_good (put m) v e = (id_wide 20 m v e).1 ∙ sym wide
edit_good (drops r) v e = tt

op_steps : (l : Bytes) → 3 ≤ length l → (o : Option Verb) → Steps at_op l (or_wrong o (λ o. on (at_path o)))
op_steps l h none = tt
op_steps l h (some o) = omega arith

path_steps : (o : Verb) (l v : Bytes) → 5 ≤ length l → (b : Bool) → Steps (at_path o) l (cond b (on (at_kind o (bytes_of v))) wrong)
path_steps o l v h true = omega arith
path_steps o l v h false = tt

kind_steps : (o : Verb) (p l : Bytes) → 5 ≤ length l → (x : Option Op) → Steps (at_kind o p) l (or_wrong x (λ k. on (at_id k p)))
kind_steps o p l h none = tt
kind_steps o p l h (some k) = omega arith

id_steps : (k : Op) (p l v : Bytes) → 3 ≤ length l → (b : Bool) → good_id 20 k v ≡ b → Steps (at_id k p) l (cond b (done (record { edit = edit_of k v; path = p })) wrong)
id_steps k p l v h true q = (omega arith, edit_good k v q)
id_steps k p l v h false q = tt

said_steps : (st : Stage) (l k : Bytes) (next : Bytes → Step) → ((v : Bytes) → length k ≤ length l → Steps st l (next v)) → (x : Option Bytes) → said k l ≡ x → Steps st l (or_wrong x next)
said_steps st l k next f none q = tt
said_steps st l k next f (some v) q = f v (said_long k l v q)

step_steps : (st : Stage) (l : Bytes) → Steps st l (step 20 st l)
unfolding step
step_steps at_op l = said_steps at_op l op_key (λ v. or_wrong (verb_of v) (λ o. on (at_path o))) (λ v h. op_steps l h (verb_of v)) (said op_key l) refl
step_steps (at_path o) l = said_steps (at_path o) l path_key (λ v. cond (hexed v) (on (at_kind o (bytes_of v))) wrong) (λ v h. path_steps o l v h (hexed v)) (said path_key l) refl
step_steps (at_kind o p) l = said_steps (at_kind o p) l kind_key (λ v. or_wrong (op_of o v) (λ k. on (at_id k p))) (λ v h. kind_steps o p l h (op_of o v)) (said kind_key l) refl
step_steps (at_id k p) l =
    said_steps (at_id k p) l id_key (λ v. cond (good_id 20 k v) (done (record { edit = edit_of k v; path = p })) wrong) (λ v h. id_steps k p l v h (good_id 20 k v) refl) (said id_key l) refl

bad_good : {A : Type 0} (n : ℕ) (rs : List EditRecord) → bad n ≡ good rs → A
bad_good n rs e = absurd (let z : ◌≡◌ {A = ℕ} 0 1 = cc in omega arith)

-- so many records at most, each with a good edit
pub record Few (m : ℕ) (rs : List EditRecord) : Type 0 where
  pub few : 20 * length rs ≤ m
  pub edits : All (λ r. GoodEdit sha1 r.edit) rs

few_none : (m : ℕ) (rs : List EditRecord) → good [] ≡ good rs → Few m rs
few_none m [] e = record { few = omega arith; edits = tt }
few_none m (r ∷ rs) e = absurd (let q : ◌≡◌ {A = List EditRecord} [] (r ∷ rs) = cc in let z : ◌≡◌ {A = ℕ} 0 1 = cc in omega arith)

ended_few : (m n : ℕ) (st : Stage) (rs : List EditRecord) → ended n st ≡ good rs → Few m rs
ended_few m n at_op rs e = few_none m rs e
ended_few m n (at_path o) rs e = bad_good n rs e
ended_few m n (at_kind o p) rs e = bad_good n rs e
ended_few m n (at_id k p) rs e = bad_good n rs e

more_few : (m : ℕ) (r : EditRecord) → GoodEdit sha1 r.edit → (x : Read) → ((qs : List EditRecord) → x ≡ good qs → Few m qs) → (rs : List EditRecord) → more r x ≡ good rs → Few (20 + m) rs
more_few m r g (bad n) ih rs e = bad_good n rs e
more_few m r g (good qs) ih rs e =
    let f = ih qs refl in
    let q : ◌≡◌ {A = List EditRecord} (r ∷ qs) rs = cc in
    subst (λ (z : List EditRecord). Few (20 + m) z) q (record { few = omega (arith, f.few); edits = (g, f.edits) })

few_most : (m n : ℕ) (rs : List EditRecord) → m ≤ n → Few m rs → Few n rs
few_most m n rs h f = record { few = omega (arith, f.few); edits = f.edits }

read_few : (ls : List Line) (n : ℕ) (st : Stage) (rs : List EditRecord) → read 20 n ls st ≡ good rs → Few (before st + bytes_in ls) rs
unfolding read
read_few [] n st rs e = ended_few (before st + 0) n st rs e
read_few (cut ∷ ls) n st rs e = bad_good n rs e
read_few (whole l ∷ ls) n st rs e = go (λ s qs q. read_few ls (suc n) s qs q) (step 20 st l) (step_steps st l) e
  where
    go : ((s : Stage) (qs : List EditRecord) → read 20 (suc n) ls s ≡ good qs → Few (before s + bytes_in ls) qs) → (x : Step) → Steps st l x → stepped n x (λ s. read 20 (suc n) ls s) ≡ good rs →
        Few (before st + (suc (length l) + bytes_in ls)) rs
    go ih (on s) h e = few_most (before s + bytes_in ls) (before st + (suc (length l) + bytes_in ls)) rs (omega (arith, h)) (ih s rs e)
    go ih (done r) h e =
        few_most (20 + (0 + bytes_in ls)) (before st + (suc (length l) + bytes_in ls)) rs (omega (arith, h.0))
        (more_few (0 + bytes_in ls) r h.1 (read 20 (suc n) ls at_op) (λ qs q. ih at_op qs q) rs e)
    go ih wrong h e = bad_good n rs e

-- The lines of the records
digits_few : (most n : ℕ) (after : Bytes) → length (decimal_from most n after) ≤ most + length after
unfolding decimal_from
digits_few zero n after = omega arith
digits_few (suc most) n after = go (digits_few most (n / 10) ((48 + n % 10) ∷ after)) (ltb n 10)
  where
    go : length (decimal_from most (n / 10) ((48 + n % 10) ∷ after)) ≤ most + suc (length after) → (b : Bool) →
        length (cond b ((48 + n) ∷ after) (decimal_from most (n / 10) ((48 + n % 10) ∷ after))) ≤ suc most + length after
    go ih true = omega arith
    go ih false = omega (arith, ih)

decimal_few : (n : ℕ) → length (decimal n) ≤ 20
unfolding decimal
decimal_few n = digits_few 20 n []

refusal_few : (k c : ℕ) → length (refusal k c) ≤ 52
unfolding refusal
refusal_few k c = go (eqb c 0)
  where
    go : (b : Bool) → length (cond b [] (line_of edit_key (decimal k) ++ line_of code_key (decimal c))) ≤ 52
    go true = omega arith
    go false =
        omega (
          arith,
          length-append (line_of edit_key (decimal k)) (line_of code_key (decimal c)),
          line_long edit_key (decimal k),
          line_long code_key (decimal c),
          decimal_few k,
          decimal_few c,
        )

records_few : (rs : List EditRecord) (k : ℕ) (E : Editor) → length (record_lines k rs E) ≤ 52 * length rs
unfolding record_lines
records_few [] k E = omega arith
records_few (r ∷ rs) k E =
    omega (
      arith,
      length-append (refusal k (made_by r E).code) (record_lines (k + 1) rs (made_by r E).editor),
      refusal_few k (made_by r E).code,
      records_few rs (k + 1) (made_by r E).editor,
    )

-- The editor after them is valid, so its write fits
after_valid : (rs : List EditRecord) (E : Editor) → All (λ r. GoodEdit sha1 r.edit) rs → valid sha1 E ≡ true → valid sha1 (after_records rs E) ≡ true
unfolding after_records
after_valid [] E g v = v
after_valid (r ∷ rs) E g v = after_valid rs (made_by r E).editor g.1 (edit_valid sha1 no_table r.edit [] r.path E g.0 v)

empty_valid : valid sha1 (root_only []) ≡ true
unfolding sha1 read_tree atEnd well_formed root_only fits
empty_valid = new_valid sha1 [] [] refl refl

saved_few : (E : Editor) → valid sha1 E ≡ true → length (saved E) ≤ 127214
unfolding saved
saved_few E v =
    let d = begin_valid sha1 from_root E v in
    omega (arith, lines_room 65 0 (begun sha1 from_root E).editor d, pending_few (begun sha1 from_root E).editor d, weight_few (begun sha1 from_root E).editor d)

pub output_fits : (input : Bytes) → length (output input) ≤ 303104
unfolding output
output_fits input = go (reading 20 input) refl
  where
    go : (x : Read) → reading 20 input ≡ x → length (output_of x) ≤ 303104
    go (bad n) q = omega (arith, line_long bad_key (decimal n), decimal_few n)
    go (good rs) q =
        let left = left_begin 20 input rs q in
        let f : Few (bytes_in (lines input)) rs = few_most (0 + bytes_in (lines input)) (bytes_in (lines input)) rs (omega arith) (read_few (lines input) left.line at_op rs left.rest) in
        omega (
          arith,
          length-append (record_lines 1 rs (root_only [])) (saved (after_records rs (root_only []))),
          records_few rs 1 (root_only []),
          saved_few (after_records rs (root_only [])) (after_valid rs (root_only []) f.edits empty_valid),
          f.few,
          lines_bytes input,
          (good_form input (length rs) (sym (ap form_of q))).0,
        )
