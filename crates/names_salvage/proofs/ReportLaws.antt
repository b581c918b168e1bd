-- Laws of the report: lines are put one behind the other, and the number decides which. Assumes nothing.
use Prim.Native.Nat.{ℕ}
use mathlib.Core.Path.{◌≡◌, refl, sym, ap, ◌∙◌, subst}
use mathlib.Core.List.{◌++◌}
use native.Mathlib.Omega.{arith}
use lib.ListN.{take, replicate}
use borrow.Author.Tests.{eq-eqb, ne_eqb}
use Rattle.std.specs.Prelude.{Option, Some, None, Err}
use Rattle.model.specs.Bytes.{Bytes}
use Rattle.lines.specs.Answers as lines
use Rattle.lines.specs.Puts.{PutAt}
use Rattle.lines.specs.Texts.{written}
use Rattle.lines.proofs.PutLaws.{puts, put_told, put_refused, puts_then, puts_stop}
use Rattle.names_salvage.specs.Answers.{answer, outcome}
use Rattle.names_salvage.specs.Mending.{Answer, salvaged}
use Rattle.names_salvage.specs.declared.mend.Mended as code
use Rattle.names_salvage.specs.declared.mend.Refusal.{Refusal}
use Rattle.names_salvage.specs.declared.mend.Refusal.TheVariants.{NotTaken, OverLimit, TooShort}
use Rattle.names_salvage.specs.Report.{code_key, cut_key, bad_name_key, bad_mode_key, double_key, moved_key, number_line, count_lines, tree_line, done_lines, report_of, reported, Told}

-- a line more
pub line_first : {d : Bytes} (line : Bytes) {r : Option ℕ} {e : Bytes} → lines.outcome r e ≡ written d 0 line → Told d line r e
line_first {d} line {r} {e} w = record { is = puts d 0 (omega arith) line r e w }

pub line_more : {d s e : Bytes} {p : Option ℕ} → Told d s p e → {at : ℕ} → p ≡ Some at → (line : Bytes) {r : Option ℕ} {f : Bytes} → lines.outcome r f ≡ written e at line → Told d (s ++ line) r f
line_more {d} {s} {e} h {at} q line {r} {f} w =
    let a : PutAt d 0 s at e = put_told h.is q in
    record { is = puts_then a line r f (puts e at a.within line r f w) }

-- what does not fit does not fit with more behind it
pub line_stop : {d s e : Bytes} {p : Option ℕ} → Told d s p e → p ≡ None → (more : Bytes) → Told d (s ++ more) None e
line_stop {d} {s} {e} {p} h q more = record { is = puts_stop d 0 s more (put_refused d 0 s {r = p} e h.is q) }

pub told_as : {d s t : Bytes} {r : Option ℕ} {e : Bytes} → s ≡ t → Told d s r e → Told d t r e
told_as {d} {s} {t} {r} {e} q h = subst (λ (l : Bytes). Told d l r e) q h

pub told_done : (a : Answer) {d : Bytes} (tree : Bytes) {r : Option ℕ} {e : Bytes} → tree ≡ take a.len a.out → Told d (count_lines a ++ tree_line tree) r e → Told d (done_lines a) r e
unfolding done_lines
told_done a {d} tree {r} {e} q h = subst (λ (l : Bytes). Told d (count_lines a ++ tree_line l) r e) q h

module _ (a : Answer) where
  abbrev pub lines_2 : Bytes
  lines_2 = number_line cut_key a.cut ++ number_line bad_name_key a.bad_name

  abbrev pub lines_3 : Bytes
  lines_3 = lines_2 ++ number_line bad_mode_key a.bad_mode

  abbrev pub lines_4 : Bytes
  lines_4 = lines_3 ++ number_line double_key a.double

-- the report stops where a line does not fit
module _ (a : Answer) {d : Bytes} where
  pub stop_5 : {p : Option ℕ} {e : Bytes} → Told d (count_lines a) p e → p ≡ None → Told d (done_lines a) None e
  unfolding done_lines
  stop_5 h q = line_stop h q (tree_line (take a.len a.out))

  pub stop_4 : {p : Option ℕ} {e : Bytes} → Told d (lines_4 a) p e → p ≡ None → Told d (done_lines a) None e
  stop_4 h q = stop_5 (line_stop h q (number_line moved_key a.moved)) refl

  pub stop_3 : {p : Option ℕ} {e : Bytes} → Told d (lines_3 a) p e → p ≡ None → Told d (done_lines a) None e
  stop_3 h q = stop_4 (line_stop h q (number_line double_key a.double)) refl

  pub stop_2 : {p : Option ℕ} {e : Bytes} → Told d (lines_2 a) p e → p ≡ None → Told d (done_lines a) None e
  stop_2 h q = stop_3 (line_stop h q (number_line bad_mode_key a.bad_mode)) refl

  pub stop_1 : {p : Option ℕ} {e : Bytes} → Told d (number_line cut_key a.cut) p e → p ≡ None → Told d (done_lines a) None e
  stop_1 h q = stop_2 (line_stop h q (number_line bad_name_key a.bad_name)) refl

pub report_code : (a : Answer) → (a.code ≡ 0 → ⊥) → number_line code_key a.code ≡ report_of a
report_code a n = sym (rw (ne_eqb a.code 0 n))

pub report_done : (a : Answer) → a.code ≡ 0 → done_lines a ≡ report_of a
report_done a e = sym (rw (eq-eqb a.code 0 e))

pub report_is : (w : ℕ) (raw : Bytes) (a : Answer) → a ≡ salvaged w raw (replicate 57344 0) → report_of a ≡ reported w raw
unfolding reported
report_is w raw a e = ap report_of e

-- a refusal has a number that is not 0
refused : (e : Refusal) (d : Bytes) → (outcome (Err e) d).code ≡ 0 → ⊥
refused NotTaken d h = let z : ◌≡◌ {A = ℕ} 255 0 = h in omega arith
refused OverLimit d h = let z : ◌≡◌ {A = ℕ} 5 0 = h in omega arith
refused (TooShort n) d h = let z : ◌≡◌ {A = ℕ} 11 0 = h in omega arith

pub report_refused : (w : ℕ) (raw : Bytes) (e : Refusal) (m : code.Mended) (d : Bytes) → answer m d ≡ outcome (Err e) d → outcome (Err e) d ≡ salvaged w raw (replicate 57344 0) → number_line code_key m.code ≡ reported w raw
report_refused w raw e m d q h = ap (λ (a : Answer). number_line code_key a.code) q ∙ report_code (outcome (Err e) d) (refused e d) ∙ report_is w raw (outcome (Err e) d) h
