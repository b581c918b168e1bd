-- The lines of the records and those of the write are the output. Assumes nothing.
use Prim.Native.Nat.{ℕ, ◌≤◌}
use mathlib.Core.Path.{◌≡◌, refl, sym, ◌∙◌, ap, subst}
use mathlib.Core.Bool.{Bool, true, false, cond}
use mathlib.Core.List.{List, [], ◌++◌}
use native.Mathlib.Omega.{arith}
use lib.Dec.{eqb, leb}
use lib.ListN.{length}
use borrow.Author.Tests.{eqb-true, eqb-false, leb-true}
use Rattle.std.specs.Prelude.{Option}
use Rattle.model.specs.Bytes.{Bytes}
use Rattle.model.specs.Calls.{Answer, refuse_if, root_only, rooted}
use Rattle.model.specs.Editor.{Editor, fits}
use Rattle.model.specs.Raw.{ended as atEnd, read_tree}
use Rattle.model.specs.Tree.{well_formed}
use Rattle.editor.specs.Lent.{Lent, Long, Good, viewed}
use Rattle.editor.specs.Roots.{Makes}
use Rattle.lines.specs.Lines.{lines}
use Rattle.small_records.specs.Records.{EditRecord, Read, bad, good as goodInput, at_op, read, reading, bad_line, records, form_of}
use Rattle.lines.specs.Texts.{decimal, line_of}
use Rattle.small_run.specs.Lesson.{bad_key, record_lines, after_records, saved, output_of, output}
use Rattle.small_run.specs.Puts.{PutAt, Puts}
use Rattle.small_run.proofs.PutLaws.{puts_then}

-- the write's lines behind those of the records
pub both_lines : {d : Bytes} {l : Bytes} {n : ℕ} {e : Bytes} → PutAt d 0 l n e → (N A : Editor) → N ≡ A → (r : Option ℕ) (f : Bytes) → Puts e n (saved N) r f → Puts d 0 (l ++ saved A) r f
both_lines {d} {l} {n} {e} p N A x r f q = puts_then p (saved A) r f (subst (λ (E : Editor). Puts e n (saved E) r f) x q)

-- an empty root
empty_root : (E : Editor) → rooted E (read_tree 20 []) ≡ record { code = 0; editor = root_only [] }
unfolding read_tree atEnd rooted refuse_if fits root_only well_formed
empty_root E = refl

pub made_empty : {s : Lent} {code : ℕ} {q : Lent} → Makes [] s code q → Long s → Good q × (viewed q ≡ root_only [])
made_empty {s} {code} {q} M l = go (eqb code 13) refl
  where
    go : (b : Bool) → eqb code 13 ≡ b → Good q × (viewed q ≡ root_only [])
    go true e = absurd ((M.refused (eqb-true code 13 e)).0 l)
    go false e =
        let r = (M.done (eqb-false code 13 e)).1 in
        let x : ◌≡◌ {A = Answer} (record { code = code; editor = viewed q }) (record { code = 0; editor = root_only [] }) = r.is ∙ empty_root (viewed s) in
        (r.good (ap (λ (a : Answer). a.code) x), ap (λ (a : Answer). a.editor) x)

-- the output of an input, by its form
pub output_good : (input : Bytes) (rs : List EditRecord) → reading 20 input ≡ goodInput rs → (E : Editor) → E ≡ root_only [] → record_lines 1 rs E ++ saved (after_records rs E) ≡ output input
unfolding output
output_good input rs e E x = ap (λ (z : Editor). record_lines 1 rs z ++ saved (after_records rs z)) x ∙ sym (ap output_of e)

pub output_bad : (input : Bytes) (n : ℕ) → bad_line n ≡ form_of (reading 20 input) → line_of bad_key (decimal n) ≡ output input
unfolding output
output_bad input n e = go (reading 20 input) e
  where
    go : (x : Read) → bad_line n ≡ form_of x → line_of bad_key (decimal n) ≡ output_of x
    go (bad m) q = let z : n ≡ m = cc in ap (λ (j : ℕ). line_of bad_key (decimal j)) z
    go (goodInput rs) q = absurd (let z : ◌≡◌ {A = ℕ} 0 1 = cc in omega arith)

good_reading : (x : Read) (m : ℕ) → records m ≡ form_of x → (rs : List EditRecord) × (x ≡ goodInput rs)
good_reading (bad n) m q = absurd (let z : ◌≡◌ {A = ℕ} 0 1 = cc in omega arith)
good_reading (goodInput rs) m q = (rs, refl)

short_reading : (input : Bytes) (m : ℕ) → records m ≡ form_of (reading 20 input) → length input ≤ 65536
unfolding reading
short_reading input m e = go (leb (length input) 65536) refl e
  where
    go : (b : Bool) → leb (length input) 65536 ≡ b → records m ≡ form_of (cond b (read 20 1 (lines input) at_op) (bad 0)) → length input ≤ 65536
    go true x q = leb-true (length input) 65536 x
    go false x q = absurd (let z : ◌≡◌ {A = ℕ} 0 1 = cc in omega arith)

pub good_form : (input : Bytes) (m : ℕ) → records m ≡ form_of (reading 20 input) → (length input ≤ 65536) × ((rs : List EditRecord) × (reading 20 input ≡ goodInput rs))
good_form input m e = (short_reading input m e, good_reading (reading 20 input) m e)
