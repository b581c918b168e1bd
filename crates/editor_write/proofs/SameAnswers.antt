-- Any two answers that the statement of reading the request admits are equal: 13 is decided by the store alone, and all else by what the model shows. Assumes nothing.
use Prim.Native.Nat.{ℕ}
use mathlib.Core.Path.{◌≡◌, refl, sym, ap, ap₂, ◌∙◌}
use mathlib.Core.Bool.{Bool, true, false, cond}
use mathlib.Core.List.{[], ◌++◌}
use native.Mathlib.Omega.{arith}
use borrow.Author.Tests.{eqb-true, eqb-false}
use lib.Dec.{eqb}
use lib.ListN.{length, take, drop, take-append-drop}
use Rattle.std.specs.Prelude.{Ok, Err}
use Rattle.model.specs.Bytes.{Bytes}
use Rattle.model.specs.Write.{Shown, shown, short, unopened, show}
use Rattle.editor_terms.specs.Answers.{Answer, code_number}
use Rattle.editor_terms.specs.declared.refusal.Refusal.TheVariants.{EmptyComponent, TreeNotFound, TreeDamaged, NotALeaf, NoRoom, PathRefused, BadTable, CursorStale, WriteOpen, NoWriteOpen, OutputShort, BadRoot, StoreDamaged}
use Rattle.editor.specs.Lent.{Lent, viewed, Still}
use Rattle.editor.specs.declared.cursor.Cursor.{Cursor}
use Rattle.editor_write.specs.Requests.{shown_as, shown_number, shown_length, Requests}

-- ---- the number and what is shown decide the code

abbrev needed : Shown → ℕ
needed (shown b) = 0
needed (short m) = m
needed unopened = 0

abbrev code_of : ℕ → ℕ → Answer
code_of n m =
    cond (eqb n 0) (Ok tt)
    (cond (eqb n 1) (Err EmptyComponent)
    (cond (eqb n 2) (Err TreeNotFound)
    (cond (eqb n 3) (Err TreeDamaged)
    (cond (eqb n 4) (Err NotALeaf)
    (cond (eqb n 5) (Err NoRoom)
    (cond (eqb n 6) (Err PathRefused)
    (cond (eqb n 7) (Err BadTable)
    (cond (eqb n 8) (Err CursorStale)
    (cond (eqb n 9) (Err WriteOpen)
    (cond (eqb n 10) (Err NoWriteOpen)
    (cond (eqb n 11) (Err (OutputShort m))
    (cond (eqb n 12) (Err BadRoot) (Err StoreDamaged)))))))))))))

coded : (c : Answer) (n : ℕ) (out : Bytes) → code_of (code_number c) (needed (shown_as c n out)) ≡ c
coded (Ok done) n out = refl
coded (Err EmptyComponent) n out = refl
coded (Err TreeNotFound) n out = refl
coded (Err TreeDamaged) n out = refl
coded (Err NotALeaf) n out = refl
coded (Err NoRoom) n out = refl
coded (Err PathRefused) n out = refl
coded (Err BadTable) n out = refl
coded (Err CursorStale) n out = refl
coded (Err WriteOpen) n out = refl
coded (Err NoWriteOpen) n out = refl
coded (Err (OutputShort m)) n out = refl
coded (Err BadRoot) n out = refl
coded (Err StoreDamaged) n out = refl

same_code : (c c' : Answer) (n n' : ℕ) (out out' : Bytes) → code_number c ≡ code_number c' → shown_as c n out ≡ shown_as c' n' out' → c ≡ c'
same_code c c' n n' out out' e f = sym (coded c n out) ∙ ap₂ code_of e (ap needed f) ∙ coded c' n' out'

pub zero_code : (c : Answer) → code_number c ≡ 0 → c ≡ Ok tt
zero_code c e = sym (coded c 0 []) ∙ ap (λ (k : ℕ). code_of k (needed (shown_as c 0 []))) e

last_code : (c : Answer) → code_number c ≡ 13 → c ≡ Err StoreDamaged
last_code c e = sym (coded c 0 []) ∙ ap (λ (k : ℕ). code_of k (needed (shown_as c 0 []))) e

-- ---- what is shown decides the output

abbrev pub front_of : Bytes → Shown → Bytes
front_of d (shown b) = b
front_of d (short m) = d
front_of d unopened = d

front_shown : (c : Answer) (n : ℕ) (out : Bytes) → front_of (take n out) (shown_as c n out) ≡ take n out
front_shown (Ok done) n out = refl
front_shown (Err EmptyComponent) n out = refl
front_shown (Err TreeNotFound) n out = refl
front_shown (Err TreeDamaged) n out = refl
front_shown (Err NotALeaf) n out = refl
front_shown (Err NoRoom) n out = refl
front_shown (Err PathRefused) n out = refl
front_shown (Err BadTable) n out = refl
front_shown (Err CursorStale) n out = refl
front_shown (Err WriteOpen) n out = refl
front_shown (Err NoWriteOpen) n out = refl
front_shown (Err (OutputShort m)) n out = refl
front_shown (Err BadRoot) n out = refl
front_shown (Err StoreDamaged) n out = refl

abbrev output_of : Shown → Bytes → Bytes
output_of (shown b) out = b ++ drop (length b) out
output_of (short m) out = out
output_of unopened out = out

module _ (c : Answer) (n : ℕ) (before after : Bytes) where
  output_is : (x : Shown) → shown_as c n after ≡ x → drop n after ≡ drop n before → (Still (code_number c) → after ≡ before) → code_number c ≡ shown_number x → n ≡ shown_length x → after ≡ output_of x before
  output_is (shown b) e r k m l =
      sym (take-append-drop n after)
      ∙ ap₂ (λ (x y : Bytes). x ++ y) (sym (front_shown c n after) ∙ ap (front_of (take n after)) e) (r ∙ ap (λ (j : ℕ). drop j before) l)
  output_is (short j) e r k m l = k (omega (arith, m))
  output_is unopened e r k m l = k (omega (arith, m))

-- ---- two answers

pub record Same (c : Answer) (n : ℕ) (p : Cursor) (out : Bytes) (c' : Answer) (n' : ℕ) (p' : Cursor) (out' : Bytes) : Type 0 where
  pub code : c ≡ c'
  pub long : n ≡ n'
  pub place : p ≡ p'
  pub output : out ≡ out'

pub same_request : (s : Lent) (before : Bytes) (c c' : Answer) (n n' : ℕ) (p p' : Cursor) (out out' : Bytes) → Requests s c n p before out → Requests s c' n' p' before out' → Same c n p out c' n' p' out'
same_request s before c c' n n' p p' out out' r r' = go (eqb (code_number c) 13) refl (eqb (code_number c') 13) refl
  where
    go : (b : Bool) → eqb (code_number c) 13 ≡ b → (b' : Bool) → eqb (code_number c') 13 ≡ b' → Same c n p out c' n' p' out'
    go true e true e' =
        let k = eqb-true (code_number c) 13 e in
        let k' = eqb-true (code_number c') 13 e' in
        let d = r.refused k in
        let d' = r'.refused k' in
        record { code = last_code c k ∙ sym (last_code c' k'); long = d.2 ∙ sym d'.2; place = d.3 ∙ sym d'.3; output = d.1 ∙ sym d'.1 }
    go true e false e' = absurd ((r.refused (eqb-true (code_number c) 13 e)).0 (r'.done (eqb-false (code_number c') 13 e')).0)
    go false e true e' = absurd ((r'.refused (eqb-true (code_number c') 13 e')).0 (r.done (eqb-false (code_number c) 13 e)).0)
    go false e false e' =
        let d = r.done (eqb-false (code_number c) 13 e) in
        let d' = r'.done (eqb-false (code_number c') 13 e') in
        let w = d.1 in
        let w' = d'.1 in
        let x = show (length before) (viewed s) in
        record {
          code = same_code c c' n n' out out' (w.number ∙ sym w'.number) (w.is ∙ sym w'.is);
          long = w.long ∙ sym w'.long;
          place = d.2 ∙ sym d'.2;
          output = output_is c n before out x w.is w.rest w.kept w.number w.long ∙ sym (output_is c' n' before out' x w'.is w'.rest w'.kept w'.number w'.long);
        }
