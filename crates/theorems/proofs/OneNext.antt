-- An answer that reads the next request is the two calls one after the other, so what holds of each holds of it: the answer decides the editor, and the editor the request. Assumes nothing.
use mathlib.Core.Path.{◌≡◌, refl, sym, ap, ◌∙◌, subst}
use mathlib.Core.Bool.{Bool, true, false}
use mathlib.Core.List.{List, [], ◌∷◌, ◌++◌, map, append-nil}
use native.Mathlib.Omega.{arith}
use borrow.Author.Tests.{eqb-true, eqb-false}
use lib.Dec.{eqb}
use Rattle.std.specs.Prelude.{Result}
use Rattle.model.specs.Bytes.{Bytes}
use Rattle.model.specs.Written.{Request}
use Rattle.editor_terms.specs.Answers.{Answer, code_number}
use Rattle.editor_terms.specs.Ids.{id_bytes}
use Rattle.editor_terms.specs.declared.id.Id.{Id}
use Rattle.editor_terms.specs.declared.refusal.Refusal.{Refusal}
use Rattle.editor.specs.Lent.{Lent, Good, viewed}
use Rattle.editor_write.specs.Requests.{answer_of}
use Rattle.editor_write.specs.declared.request.Asked.{Asked}
use Rattle.theorems.specs.Public.{RequestSays, call, Proceeds, answer_and_request}
use Rattle.theorems.specs.Runs.{Reads, Asks, Nexts}
use Rattle.theorems.proofs.Accepted.{accepted}
use Rattle.theorems.proofs.OneAnswer.{One, one_answer, spare_unread}
use Rattle.theorems.proofs.OneRequest.{one_request, spare_unread_request}

-- over a store that holds an editor neither number is 13, and the store holds one afterwards
pub next_accepted : (id : Id) (s : Lent) (k : Answer) (q : Lent) (next : Result Asked Refusal) (before after : Bytes) → Proceeds id s k q next before after → Good s →
    (code_number k ≡ 13 → ⊥) × (code_number (answer_of next) ≡ 13 → ⊥) × Good q
next_accepted id s k q next before after x g =
    let a = accepted (call (answer_and_request id)) s (code_number k) q x.store g in
    (a.0, λ z. (x.request.refused z).0 a.1, a.1)

module _ (id : Id) (before : Bytes) (k k' : Answer) (q q' : Lent) (next next' : Result Asked Refusal) (after after' : Bytes) where
  -- two answers are the same, and so are the requests that are read, every byte
  pub one_next : (s : Lent) → Proceeds id s k q next before after → Proceeds id s k' q' next' before after' → One k q k' q' × (next ≡ next') × (after ≡ after')
  one_next s x x' =
      let y = go (eqb (code_number k) 13) refl in
      (z, y.0, y.1)
    where
      z : One k q k' q'
      z = one_answer (call (answer_and_request id)) s k k' q q' x.store x'.store

      go : (b : Bool) → eqb (code_number k) 13 ≡ b → (next ≡ next') × (after ≡ after')
      go true e =
          let w : q ≡ q' = z.store.bytes (omega (arith, eqb-true (code_number k) 13 e)) in
          one_request q before next next' after after' x.request (subst (λ (t : Lent). RequestSays t next' before after') (sym w) x'.request)
      go false e =
          let g : Good s = (x.store.done (eqb-false (code_number k) 13 e)).0 in
          let h : Good q = (next_accepted id s k q next before after x g).2 in
          let h' : Good q' = (next_accepted id s k' q' next' before after' x' g).2 in
          spare_unread_request q q' before next next' after after' h h' z.store.editor x.request x'.request

  -- over two stores that hold one editor the answers are the same, the editors that they leave, and the requests
  pub spare_unread_next : (s s' : Lent) → Good s → Good s' → viewed s ≡ viewed s' → Proceeds id s k q next before after → Proceeds id s' k' q' next' before after' →
      (k ≡ k') × (viewed q ≡ viewed q') × (next ≡ next') × (after ≡ after')
  spare_unread_next s s' g g' v x x' =
      let z = spare_unread (answer_and_request id) s s' k k' q q' g g' v x.store x'.store in
      let h : Good q = (next_accepted id s k q next before after x g).2 in
      let h' : Good q' = (next_accepted id s' k' q' next' before after' x' g').2 in
      let y = spare_unread_request q q' before next next' after after' h h' z.1 x.request x'.request in
      (z.0, z.1, y.0, y.1)

-- ---- a host that writes by it

-- once the first request is read, it has the requests of a host that reads and answers by two calls
pub next_asks : (is : List Id) (s : Lent) (r rest : List Request) → Reads s r → Nexts is s rest → Asks (map id_bytes is) s (r ++ rest)
next_asks [] s r rest x e = subst (Reads s) (sym (ap (λ (l : List Request). r ++ l) e ∙ append-nil r)) x
next_asks (i ∷ is) s r rest x (t, r₁, y, rest₁, n, e) =
    (r, x, code_number y.answer, t, y.made.store, r₁ ++ rest₁, next_asks is t r₁ rest₁ y.reads n, ap (λ (l : List Request). r ++ l) e)
