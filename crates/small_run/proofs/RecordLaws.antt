-- A record's edit is the model's, and its refusal's lines stand behind each other. Assumes nothing.
use Prim.Native.Nat.{ℕ, ◌+◌, ◌≤◌}
use mathlib.Core.Path.{◌≡◌, refl, sym, ◌∙◌, ap, subst}
use mathlib.Core.Bool.{Bool, true, false}
use mathlib.Core.List.{[], ◌++◌}
use mathlib.Core.Option.{some}
use native.Mathlib.Omega.{arith}
use lib.Dec.{eqb}
use lib.ListN.{length, take, length-take, length-drop}
use borrow.Author.Tests.{eqb-true, eqb-false, ne_eqb, le-leb}
use Rattle.std.specs.Prelude.{Option, Some, None}
use Rattle.model.specs.Bytes.{Bytes}
use Rattle.model.specs.Calls.{Answer}
use Rattle.model.specs.Editor.{Editor}
use Rattle.names.specs.Splice.{splice}
use Rattle.names.proofs.WriteLaws.{splice_front}
use Rattle.editor.specs.Lent.{Lent, Good, viewed, Does}
use Rattle.lines.specs.Answers.{outcome}
use Rattle.lines.specs.Hex.{hexed, bytes_of}
use Rattle.lines.specs.Places.{text_at}
use Rattle.small_records.specs.Places.{Found, found, next_at}
use Rattle.small_records.specs.Records.{good_id}
use Rattle.lines.specs.Texts.{Written, decimal, line_of, written, decoded}
use Rattle.small_records.proofs.FormLaws.{standing}
use Rattle.lines.proofs.TextLaws.{length_bytes}
use Rattle.small_run.specs.Lesson.{edit_key, code_key, refusal}
use Rattle.small_run.specs.Puts.{PutAt, Puts, Leaves}
use Rattle.small_run.proofs.PutLaws.{out_of, put_nothing, both_put, first_stops}

-- bytes out of hex, into bytes that are long enough
decoded_fits : (d s : Bytes) → hexed s ≡ true → length (bytes_of s) ≤ length d → decoded d 0 s ≡ record { next = some (0 + length (bytes_of s)); out = splice d 0 (bytes_of s) }
unfolding decoded written
decoded_fits d s x h =
    let q : 0 + length (bytes_of s) ≤ length d = omega arith in
    rw (x, le-leb (0 + length (bytes_of s)) (length d) q)

pub decoded_front : (d s : Bytes) (p : Option ℕ) (e : Bytes) → hexed s ≡ true → length (bytes_of s) ≤ length d → outcome p e ≡ decoded d 0 s → (n : ℕ) → n ≡ length (bytes_of s) → take n e ≡ bytes_of s
decoded_front d s p e x h q n l =
    let w : e ≡ splice d 0 (bytes_of s) = sym (out_of p e) ∙ ap (λ (w : Written). w.out) (q ∙ decoded_fits d s x h) in
    ap (take n) w ∙ splice_front d (bytes_of s) n l

-- a call over a store that holds an editor
pub did : {f : Editor → Answer} {s : Lent} {code : ℕ} {q : Lent} → Does f s code q → Good s → (code ≡ (f (viewed s)).code) × Leaves (f (viewed s)) q
did {f} {s} {code} {q} D g = go (eqb code 13) refl
  where
    go : (b : Bool) → eqb code 13 ≡ b → (code ≡ (f (viewed s)).code) × Leaves (f (viewed s)) q
    go true e = absurd ((D.refused (eqb-true code 13 e)).0 g)
    go false e =
        let d = D.done (eqb-false code 13 e) in
        (ap (λ (a : Answer). a.code) d.1, record { good = d.2; is = ap (λ (a : Answer). a.editor) d.1 })

pub did_at : (f : Bytes → Editor → Answer) (p b : Bytes) → p ≡ b → {s : Lent} {code : ℕ} {q : Lent} → Does (f p) s code q → Good s → (code ≡ (f b (viewed s)).code) × Leaves (f b (viewed s)) q
did_at f p b e {s} {code} {q} D g = did (subst (λ (x : Bytes). Does (f x) s code q) e D) g

-- the lines of a refusal
no_lines : (k c : ℕ) → c ≡ 0 → refusal k c ≡ []
unfolding refusal
no_lines k c e = rw e

two_lines : (k c : ℕ) → (c ≡ 0 → ⊥) → refusal k c ≡ line_of edit_key (decimal k) ++ line_of code_key (decimal c)
unfolding refusal
two_lines k c n = rw (ne_eqb c 0 n)

module _ (d : Bytes) (to : ℕ) (h : to ≤ length d) (k c : ℕ) where
  pub tell_none : c ≡ 0 → Puts d to (refusal k c) (Some to) d
  tell_none e = subst (λ (l : Bytes). PutAt d to l to d) (sym (no_lines k c e)) (put_nothing d to h)

  module _ (n : c ≡ 0 → ⊥) (r : Option ℕ) (e : Bytes) (q : outcome r e ≡ written d to (line_of edit_key (decimal k))) where
    pub tell_both : {m : ℕ} → r ≡ Some m → (j : ℕ) → j ≡ c → (p : Option ℕ) (f : Bytes) → outcome p f ≡ written e m (line_of code_key (decimal j)) → Puts d to (refusal k c) p f
    tell_both {m} t j i p f v =
        let w : outcome p f ≡ written e m (line_of code_key (decimal c)) = v ∙ ap (λ (x : ℕ). written e m (line_of code_key (decimal x))) i in
        subst (λ (l : Bytes). Puts d to l p f) (sym (two_lines k c n)) (both_put d to h (line_of edit_key (decimal k)) (line_of code_key (decimal c)) r e q t p f w)

    pub tell_stop : r ≡ None → (f : Bytes) → Puts d to (refusal k c) None f
    tell_stop t f = subst (λ (l : Bytes). Puts d to l None f) (sym (two_lines k c n)) (first_stops d to h (line_of edit_key (decimal k)) (line_of code_key (decimal c)) r e q t f)

-- what the digits of a record say, in an input that is not too long
module _ (s : Bytes) (at : ℕ) {g : Found} (e : next_at 20 s at ≡ found g) (l : Bytes) where
  pub id_digits : l ≡ text_at s g.id → good_id 20 g.op l ≡ true
  id_digits q = ap (good_id 20 g.op) q ∙ (standing 20 s at e).id_good

  pub path_digits : l ≡ text_at s g.path → length s ≤ 65536 → (hexed l ≡ true) × (length (bytes_of l) ≤ 32768)
  path_digits q h =
      let n : length (text_at s g.path) ≤ 65536 = rw (length-take, length-drop) (omega arith) in
      (ap hexed q ∙ (standing 20 s at e).path_hex, omega (arith, n, ap length q, length_bytes l))
