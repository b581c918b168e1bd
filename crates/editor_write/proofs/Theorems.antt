-- What the statements of the write's calls give together: 45,056 bytes of output always suffice, since the requested tree is within the limits; and a write makes at most 64 requests, since each uses up a tree. Assumes nothing.
use Prim.Native.Nat.{ℕ, suc, ◌≤◌, ◌<◌}
use mathlib.Core.Path.{◌≡◌, refl, sym, ap, ap₂, ◌∙◌}
use mathlib.Core.Bool.{Bool, true, false}
use mathlib.Core.List.{List, [], ◌∷◌, map}
use mathlib.Core.Option.{Option, none, some}
use native.Mathlib.Omega.{arith}
use borrow.Author.Tests.{eqb-true, eqb-false}
use lib.Dec.{eqb}
use lib.ListN.{length, take}
use Rattle.std.specs.Prelude.{Ok}
use Rattle.model.specs.Bytes.{Bytes}
use Rattle.model.specs.Raw.{raw_tree}
use Rattle.model.specs.Calls.{Answer}
use Rattle.model.specs.Editor.{Held, Cache, Write}
use Rattle.model.specs.Editor.{Editor as Model}
use Rattle.model.specs.Formats.{sha1}
use Rattle.model.specs.Valid.{valid}
use Rattle.model.specs.Write.{Shown, shown, requested, answered, show}
use Rattle.model.specs.Written.{as_request, requests}
use Rattle.model.proofs.Theorems as model
use Rattle.store_slots.specs.View.{held_at}
use Rattle.store_check.proofs.StoredLaws.{sha1_width}
use Rattle.editor_terms.specs.Answers.{Answer as Told, code_number}
use Rattle.editor_terms.specs.Ids.{id_bytes}
use Rattle.editor_terms.specs.declared.id.Id.{Id}
use Rattle.editor.specs.Lent.{Lent, Good, viewed, Does}
use Rattle.editor.specs.Looks.{cursor_at}
use Rattle.editor.specs.declared.cursor.Cursor.{Cursor}
use Rattle.editor_write.specs.Requests.{shown_as, shown_number, place_in, Requests}
use Rattle.editor_write.specs.Steps.{fronts}
use Rattle.editor_write.proofs.SameAnswers.{front_of, zero_code}
use Rattle.editor_write.proofs.FailLaws.{valid_20, front_holds}
use Rattle.editor_write.proofs.RequestLaws.{asked_of}

pub viewed_valid : (s : Lent) → Good s → valid sha1 (viewed s) ≡ true
viewed_valid s g = valid_20 (fronts s) (front_holds s g)

-- the requested tree of an open write
abbrev pub asked : Lent → Held
asked s = held_at 20 (take 64 s.plens) (take 8192 s.paths) (take 64 s.tlens) (take 38912 s.trees) s.ed.asked

is_asked : (s : Lent) → (s.ed.«open» ≡ 0 → ⊥) → requested (viewed s) ≡ some (asked s)
is_asked s n = asked_of s.ed.«open» (viewed s).cached (asked s) _ _ n

-- with 45,056 bytes of output a request is answered with its tree and its path
pub output_suffices : (s : Lent) (code : Told) (n : ℕ) (place : Cursor) (before after : Bytes) → Good s → (s.ed.«open» ≡ 0 → ⊥) → 45056 ≤ length before → Requests s code n place before after →
    (code ≡ Ok tt) × (take n after ≡ raw_tree (asked s).held) × (place ≡ cursor_at (asked s).path)
output_suffices s code n place before after g o l r = go (eqb (code_number code) 13) refl
  where
    u : show (length before) (viewed s) ≡ shown (raw_tree (asked s).held)
    u = model.output_20 sha1 (viewed s) (length before) (asked s) sha1_width (viewed_valid s g) l (is_asked s o)

    go : (b : Bool) → eqb (code_number code) 13 ≡ b → (code ≡ Ok tt) × (take n after ≡ raw_tree (asked s).held) × (place ≡ cursor_at (asked s).path)
    go true e = absurd ((r.refused (eqb-true (code_number code) 13 e)).0 g)
    go false e =
        let d = r.done (eqb-false (code_number code) 13 e) in
        let c : code ≡ Ok tt = zero_code code (d.1.number ∙ ap shown_number u) in (
          c,
          ap (front_of []) (ap (λ (x : Told). shown_as x n after) (sym c) ∙ d.1.is ∙ u),
          d.2 ∙ ap₂ (λ (x : Shown) (y : Option Held). cursor_at (place_in x y)) u (is_asked s o),
        )

-- ---- at most 64 requests

-- these ids are answered one after the other, and each is accepted
abbrev pub Answered : List Id → Lent → Lent → Type 0
Answered [] s q = s ≡ q
Answered (i ∷ is) s q = (t : Lent) × Does (answered sha1 (id_bytes i)) s 0 t × Answered is t q

-- an answer that is accepted is one to a request
counted : (i : Bytes) (is : List Bytes) (c : Cache) (o : Option Write) (E : Model) → record { code = 0; editor = E } ≡ answered sha1 i (record { cached = c; writing = o }) →
    length (requests sha1 (i ∷ is) (record { cached = c; writing = o })) ≡ suc (length (requests sha1 is E))
unfolding answered requested
counted i is c none E e = absurd (omega (arith, ap (λ (a : Answer). a.code) e))
counted i is c (some w) E e = ap (λ (a : Answer). suc (length (requests sha1 is a.editor))) (sym e)

count : (is : List Id) (s q : Lent) → Answered is s q → (q.ed.«open» ≡ 0 → ⊥) → length (requests sha1 (map id_bytes is) (viewed s)) ≡ suc (length is)
count [] s q e n = ap (λ (x : Lent). length (requests sha1 [] (viewed x))) e ∙ ap (λ (o : Option Held). length (as_request o [])) (is_asked q n)
count (i ∷ is) s q (t, d, r) n =
    counted (id_bytes i) (map id_bytes is) (viewed s).cached (viewed s).writing (viewed t) (d.done (λ z. omega (arith, z))).1 ∙ ap suc (count is t q r n)

-- a request that is open after k answers is at most the 64th
pub at_most_64 : (is : List Id) (s q : Lent) → Good s → Answered is s q → (q.ed.«open» ≡ 0 → ⊥) → length is < 64
at_most_64 is s q g r n = omega (arith, count is s q r n, model.at_most_64_open sha1 (map id_bytes is) (viewed s) (viewed_valid s g))
