-- Any two answers of a request are equal. It is answered by the editor that is held alone, and the length told with 11 is the raw tree's, because the model's is. Assumes nothing.
use Prim.Native.Nat.{ℕ, ◌<◌}
use mathlib.Core.Path.{◌≡◌, refl, sym, ap, ap₂, ◌∙◌, subst}
use mathlib.Core.Bool.{Bool, true, false}
use mathlib.Core.Option.{Option, none, some}
use native.Mathlib.Omega.{arith}
use borrow.Author.Tests.{ltb-true}
use lib.Dec.{ltb}
use lib.ListN.{length}
use Rattle.std.specs.Prelude.{Result, Ok, Err}
use Rattle.model.specs.Bytes.{Bytes}
use Rattle.model.specs.Raw.{raw_tree}
use Rattle.model.specs.Editor.{Held}
use Rattle.model.specs.Editor.{Editor as Model}
use Rattle.model.specs.Write.{shown, short, unopened, requested, show}
use Rattle.model.proofs.Theorems.{output_short}
use Rattle.editor_terms.specs.Answers.{Answer, code_number}
use Rattle.editor_terms.specs.declared.refusal.Refusal.{Refusal}
use Rattle.editor_terms.specs.declared.refusal.Refusal.TheVariants.{OutputShort}
use Rattle.editor.specs.Lent.{Lent, Good, viewed}
use Rattle.editor.specs.declared.cursor.Cursor.{Cursor}
use Rattle.editor.specs.Looks.{cursor_at}
use Rattle.editor_write.specs.Requests.{answer_of, len_of, place_of, Requests, Shows, place_in}
use Rattle.editor_write.specs.declared.request.Asked.{Asked}
use Rattle.editor_write.proofs.SameAnswers.{same_request}
use Rattle.theorems.specs.Public.{RequestSays}
use Rattle.theorems.proofs.OneAnswer.{not_0}

-- ---- any two answers are equal

err_inj : {x y : Refusal} → ◌≡◌ {A = Answer} (Err x) (Err y) → x ≡ y
err_inj e = cc

one_asked : (r r' : Result Asked Refusal) → answer_of r ≡ answer_of r' → len_of r ≡ len_of r' → place_of r ≡ place_of r' → r ≡ r'
one_asked (Ok a) (Ok a') e l p = ap₂ (λ (n : ℕ) (c : Cursor). Ok (record { len = n; at = c })) l p
one_asked (Ok a) (Err y) e l p = absurd (not_0 y (sym (ap code_number e)))
one_asked (Err x) (Ok a') e l p = absurd (not_0 x (ap code_number e))
one_asked (Err x) (Err y) e l p = ap Err (err_inj e)

-- two answers of `request::request`, and the outputs after them
pub one_request : (s : Lent) (before : Bytes) (r r' : Result Asked Refusal) (after after' : Bytes) →
    RequestSays s r before after → RequestSays s r' before after' → (r ≡ r') × (after ≡ after')
one_request s before r r' after after' x x' =
    let z = same_request s before (answer_of r) (answer_of r') (len_of r) (len_of r') (place_of r) (place_of r') after after' x x' in
    (one_asked r r' z.code z.long z.place, z.output)

-- over two stores that hold one editor a request is answered the same
moved : (s s' : Lent) (before : Bytes) (r : Result Asked Refusal) (after : Bytes) → Good s → Good s' → viewed s ≡ viewed s' →
    RequestSays s' r before after → RequestSays s r before after
moved s s' before r after g g' v x =
    record {
      refused = λ z. absurd ((x.refused z).0 g');
      done = λ z.
          let d = x.done z in (
            g,
            subst (λ (E : Model). Shows (λ m. show m E) (answer_of r) (len_of r) before after) (sym v) d.1,
            d.2 ∙ ap (λ (E : Model). cursor_at (place_in (show (length before) E) (requested E))) (sym v),
          );
    }

pub spare_unread_request : (s s' : Lent) (before : Bytes) (r r' : Result Asked Refusal) (after after' : Bytes) → Good s → Good s' → viewed s ≡ viewed s' →
    RequestSays s r before after → RequestSays s' r' before after' → (r ≡ r') × (after ≡ after')
spare_unread_request s s' before r r' after after' g g' v x x' = one_request s before r r' after after' x (moved s s' before r' after' g g' v x')

-- ---- the length needed

pub shown_inj : (a b : Bytes) → shown a ≡ shown b → a ≡ b
shown_inj a b e = cc

pub show_none : (n : ℕ) (E : Model) → requested E ≡ none → show n E ≡ unopened
unfolding show
show_none n E e = rw e refl

show_whole : (n : ℕ) (E : Model) (h : Held) → requested E ≡ some h → ltb n (length (raw_tree h.held)) ≡ false → show n E ≡ shown (raw_tree h.held)
unfolding show
show_whole n E h e t = rw (e, t) refl

short_unopened : (m : ℕ) → short m ≡ unopened → ⊥
short_unopened m e = let y : ◌≡◌ {A = ℕ} 0 1 = cc in omega arith

short_shown : (m : ℕ) (b : Bytes) → short m ≡ shown b → ⊥
short_shown m b e = let y : ◌≡◌ {A = ℕ} 0 1 = cc in omega arith

short_inj : (m n : ℕ) → short m ≡ short n → m ≡ n
short_inj m n e = cc

-- a length that is told is the raw tree's, which is requested, and the output is shorter
short_length : (n m : ℕ) (E : Model) (o : Option Held) → requested E ≡ o → show n E ≡ short m → (h : Held) × (o ≡ some h) × (m ≡ length (raw_tree h.held)) × (n < m)
short_length n m E none e z = absurd (short_unopened m (sym z ∙ show_none n E e))
short_length n m E (some h) e z = go (ltb n (length (raw_tree h.held))) refl
  where
    go : (b : Bool) → ltb n (length (raw_tree h.held)) ≡ b → (g : Held) × (some h ≡ some g) × (m ≡ length (raw_tree g.held)) × (n < m)
    go true t =
        let y : m ≡ length (raw_tree h.held) = short_inj m (length (raw_tree h.held)) (sym z ∙ output_short E n h e (ltb-true n (length (raw_tree h.held)) t)) in
        (h, refl, y, omega (arith, y, ltb-true n (length (raw_tree h.held)) t))
    go false t = absurd (short_shown m (raw_tree h.held) (sym z ∙ show_whole n E h e t))

-- no length is invented: 11 comes with the length of the raw tree that is requested, and only where the output is shorter
pub told_length : (s : Lent) (m n : ℕ) (p : Cursor) (before after : Bytes) → Requests s (Err (OutputShort m)) n p before after →
    (h : Held) × (requested (viewed s) ≡ some h) × (m ≡ length (raw_tree h.held)) × (length before < m)
told_length s m n p before after x =
    let d = x.done (λ z. omega (arith, z)) in
    short_length (length before) m (viewed s) (requested (viewed s)) refl (sym d.1.is)
