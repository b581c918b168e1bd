-- Texts that are written one after the other are one text, and it fits as far as its parts do. Assumes nothing.
use Prim.Native.Nat.{ℕ, ◌+◌, ◌≤◌, ◌<◌}
use mathlib.Core.Path.{◌≡◌, refl, sym, ◌∙◌, ap, subst}
use mathlib.Core.Bool.{Bool, true, false, cond}
use mathlib.Core.List.{[], ◌++◌, append-nil, append_assoc}
use mathlib.Core.Option.{none, some}
use native.Mathlib.Omega.{arith}
use lib.Dec.{leb}
use lib.ListN.{length, take, drop, length-append, take-append-drop}
use borrow.Author.Tests.{leb-true, leb-false}
use Rattle.std.specs.Prelude.{Option, Some, None}
use Rattle.model.specs.Bytes.{Bytes}
use Rattle.model.proofs.Basics.{none_some, some_none, some_inj}
use Rattle.names.specs.Splice.{splice}
use Rattle.names.proofs.WriteLaws.{length_splice, splice_splice}
use Rattle.lines.specs.Answers.{outcome}
use Rattle.lines.specs.Texts.{Written, written}
use Rattle.small_run.specs.Puts.{PutAt, Puts}

-- the bytes after a write
pub out_of : (p : Option ℕ) (d : Bytes) → (outcome p d).out ≡ d
out_of (Some n) d = refl
out_of None d = refl

-- a text of no bytes changes none
splice_nothing : (d : Bytes) (at : ℕ) → d ≡ splice d at []
unfolding splice
splice_nothing d at =
    let q : at + 0 ≡ at = omega arith in
    sym (ap (λ (k : ℕ). (take at d ++ []) ++ drop k d) q ∙ ap (λ (l : Bytes). l ++ drop at d) (append-nil (take at d)) ∙ take-append-drop at d)

module _ (d : Bytes) (at : ℕ) (h : at ≤ length d) where
  pub put_nothing : PutAt d at [] at d
  put_nothing = record { next = omega arith; within = h; long = refl; done = splice_nothing d at }

  put_there : (s : Bytes) {n : ℕ} {e : Bytes} → at + length s ≤ length d → n ≡ at + length s → e ≡ splice d at s → PutAt d at s n e
  put_there s {n} {e} room a b =
      let l = ap length b ∙ length_splice d at s room in
      record { next = a; within = omega (arith, l); long = l; done = b }

  pub puts : (s : Bytes) (r : Option ℕ) (e : Bytes) → outcome r e ≡ written d at s → Puts d at s r e
  unfolding written
  puts s r e q = go r (leb (at + length s) (length d)) refl q
    where
      go : (r : Option ℕ) (t : Bool) → leb (at + length s) (length d) ≡ t → outcome r e ≡ cond t (record { next = some (at + length s); out = splice d at s }) (record { next = none; out = d }) → Puts d at s r e
      go (Some n) true f q = put_there s (leb-true (at + length s) (length d) f) (some_inj n (at + length s) (ap (λ (w : Written). w.next) q)) (ap (λ (w : Written). w.out) q)
      go (Some n) false f q = some_none n (ap (λ (w : Written). w.next) q)
      go None true f q = none_some (at + length s) (ap (λ (w : Written). w.next) q)
      go None false f q = leb-false (at + length s) (length d) f

-- by the form of what was answered
pub put_told : {d : Bytes} {at : ℕ} {s : Bytes} {r : Option ℕ} {n : ℕ} {e : Bytes} → Puts d at s r e → r ≡ Some n → PutAt d at s n e
put_told {d} {at} {s} {r} {n} {e} p q = subst (λ (x : Option ℕ). Puts d at s x e) q p

pub put_refused : (d : Bytes) (at : ℕ) (s : Bytes) {r : Option ℕ} (e : Bytes) → Puts d at s r e → r ≡ None → length d < at + length s
put_refused d at s {r} e p q = subst (λ (x : Option ℕ). Puts d at s x e) q p

module _ {d : Bytes} {at : ℕ} {s : Bytes} where
  pub puts_then : {n : ℕ} {e : Bytes} → PutAt d at s n e → (t : Bytes) (r : Option ℕ) (f : Bytes) → Puts e n t r f → Puts d at (s ++ t) r f
  puts_then p t (Some m) f q =
      record {
        next = omega (arith, p.next, q.next, length-append s t);
        within = q.within;
        long = q.long ∙ p.long;
        done = q.done ∙ rw (p.next, p.done) (splice_splice d at s t (omega (arith, p.next, p.long, q.next, q.within, q.long)));
      }
  puts_then p t None f q = omega (arith, p.next, p.long, q, length-append s t)

pub puts_stop : (d : Bytes) (at : ℕ) (s t : Bytes) → length d < at + length s → length d < at + length (s ++ t)
puts_stop d at s t h = omega (arith, length-append s t)

-- two texts, where the second is written if the first fits
module _ (d : Bytes) (to : ℕ) (h : to ≤ length d) (s t : Bytes) (r : Option ℕ) (e : Bytes) (q : outcome r e ≡ written d to s) where
  pub both_put : {m : ℕ} → r ≡ Some m → (p : Option ℕ) (f : Bytes) → outcome p f ≡ written e m t → Puts d to (s ++ t) p f
  both_put {m} g p f w =
      let a : PutAt d to s m e = put_told (puts d to h s r e q) g in
      puts_then a t p f (puts e m a.within t p f w)

  pub first_stops : r ≡ None → (f : Bytes) → Puts d to (s ++ t) None f
  first_stops g f = puts_stop d to s t (put_refused d to s {r = r} e (puts d to h s r e q) g)

-- Of a whole text some is written, and the rest is to come
pub record Telling (d₀ : Bytes) (at₀ : ℕ) (whole d : Bytes) (to : ℕ) (rest : Bytes) : Type 0 where
  pub text : Bytes
  pub split : whole ≡ text ++ rest
  pub put : PutAt d₀ at₀ text to d

pub telling_begin : (d : Bytes) (at : ℕ) (whole : Bytes) → at ≤ length d → Telling d at whole d at whole
telling_begin d at whole h = record { text = []; split = refl; put = put_nothing d at h }

module _ {d₀ : Bytes} {at₀ : ℕ} {whole d : Bytes} {to : ℕ} where
  pub telling_more : (s rest : Bytes) {n : ℕ} {e : Bytes} → Telling d₀ at₀ whole d to (s ++ rest) → PutAt d to s n e → Telling d₀ at₀ whole e n rest
  telling_more s rest {n} {e} t p =
      record {
        text = t.text ++ s;
        split = t.split ∙ sym (append_assoc t.text s rest);
        put = puts_then t.put s (Some n) e p;
      }

  pub telling_refused : (s rest : Bytes) → Telling d₀ at₀ whole d to (s ++ rest) → length d < to + length s → length d₀ < at₀ + length whole
  telling_refused s rest t h = omega (arith, t.put.next, t.put.long, ap length t.split, length-append t.text (s ++ rest), length-append s rest)

  pub telling_last : (s : Bytes) (r : Option ℕ) (e : Bytes) → Telling d₀ at₀ whole d to s → Puts d to s r e → Puts d₀ at₀ whole r e
  telling_last s r e t p = subst (λ (l : Bytes). Puts d₀ at₀ l r e) (sym t.split) (puts_then t.put s r e p)

  pub telling_end : Telling d₀ at₀ whole d to [] → PutAt d₀ at₀ whole to d
  telling_end t = subst (λ (l : Bytes). PutAt d₀ at₀ l to d) (sym (t.split ∙ append-nil t.text)) t.put
