-- Any two answers that a call's statement admits are the same: 255 where the arguments mean nothing, and else as the calls below. Assumes nothing.
use Prim.Native.Nat.{ℕ}
use mathlib.Core.Path.{◌≡◌, refl, sym, ap, ◌∙◌, subst}
use mathlib.Core.Bool.{Bool, true, false}
use mathlib.Core.Option.{Option, none, some}
use lib.Dec.{eqb, leb}
use lib.ListN.{length, set}
use native.Mathlib.Omega.{arith}
use borrow.Author.Tests.{eqb-true, eqb-false, leb-true, leb-false}
use Rattle.model.specs.Bytes.{Bytes}
use Rattle.model.specs.Editor.{Editor as Model}
use Rattle.model.specs.Calls.{Answer}
use Rattle.model.specs.Formats.{sha1}
use Rattle.model.specs.Write.{requested, show, answered}
use Rattle.editor.specs.Lent.{Lent, Good, Behind, Does, viewed}
use Rattle.editor.proofs.SameAnswers.{Same, same_does}
use Rattle.editor_write.specs.Requests.{shown_number, place_in}
use Rattle.adapter_numbers.specs.Asks.{Slices, read_to, Room, Reads, Asks, Whole, Turns, AnswersAndAsks}
use Rattle.adapter_numbers.specs.Numbers.{Numbers}

-- two answers of a call whose arguments mean o
pub same_numbers : (o : Option (Model → Answer)) (s : Lent) (c c' : ℕ) (q q' : Lent) → Numbers o s c q → Numbers o s c' q' → Same c q c' q'
same_numbers none s c c' q q' n n' =
    let z : q ≡ q' = n.1 ∙ sym n'.1 in
    record { number = n.0 ∙ sym n'.0; editor = ap viewed z; behind = subst (Behind q) z (record { plens = refl; paths = refl; tlens = refl; trees = refl; order = refl }); bytes = λ h. z }
same_numbers (some f) s c c' q q' n n' = same_does f s c c' q q' n n'

-- ---- reading the request

-- two answers of a reading, of stores that hold the same editor or none
same_reads : (s s' : Lent) (d : Slices) (n n' : ℕ) (q q' : Slices) → viewed s ≡ viewed s' → (Good s → Good s') → (Good s' → Good s) → Reads s d n q → Reads s' d n' q' → (n ≡ n') × (q ≡ q')
same_reads s s' d n n' q q' v g g' r r' = go (eqb n 13) refl (eqb n' 13) refl
  where
    number : Model → ℕ
    number E = shown_number (show (length d.out) E)

    told : Model → Slices
    told E = read_to (show (length d.out) E) (place_in (show (length d.out) E) (requested E)) d

    go : (b : Bool) → eqb n 13 ≡ b → (b' : Bool) → eqb n' 13 ≡ b' → (n ≡ n') × (q ≡ q')
    go true e true e' = (eqb-true n 13 e ∙ sym (eqb-true n' 13 e'), (r.refused (eqb-true n 13 e)).1 ∙ sym (r'.refused (eqb-true n' 13 e')).1)
    go true e false e' = absurd ((r.refused (eqb-true n 13 e)).0 (g' (r'.done (eqb-false n' 13 e')).0))
    go false e true e' = absurd ((r'.refused (eqb-true n' 13 e')).0 (g (r.done (eqb-false n 13 e)).0))
    go false e false e' =
        let x = r.done (eqb-false n 13 e) in
        let y = r'.done (eqb-false n' 13 e') in
        (x.1 ∙ ap number v ∙ sym y.1, x.2 ∙ ap told v ∙ sym y.2)

-- two answers of reading the request, with what its slices hold
pub same_asks : (s : Lent) (d : Slices) (n n' : ℕ) (q q' : Slices) → Asks s d n q → Asks s d n' q' → (n ≡ n') × (q ≡ q')
same_asks s d n n' q q' a a' = go (leb 2 (length d.lens)) refl (leb 1024 (length d.path)) refl
  where
    none : (Room d → ⊥) → (n ≡ n') × (q ≡ q')
    none h = ((a.bad h).0 ∙ sym (a'.bad h).0, (a.bad h).1 ∙ sym (a'.bad h).1)

    go : (b : Bool) → leb 2 (length d.lens) ≡ b → (b' : Bool) → leb 1024 (length d.path) ≡ b' → (n ≡ n') × (q ≡ q')
    go true e true e' =
        let r : Room d = record { lens = leb-true 2 (length d.lens) e; path = leb-true 1024 (length d.path) e' } in
        same_reads s s d n n' q q' refl (λ g. g) (λ g. g) (a.good r) (a'.good r)
    go true e false e' = none (λ r. omega (arith, r.path, leb-false 1024 (length d.path) e'))
    go false e b' e' = none (λ r. omega (arith, r.lens, leb-false 2 (length d.lens) e))

-- ---- an answer and the reading after it

-- what an answer leaves holds an editor for one of two admitted answers where it does for the other
same_good : (f : Model → Answer) (s : Lent) (c c' : ℕ) (q q' : Lent) → Does f s c q → Does f s c' q' → Good q → Good q'
same_good f s c c' q q' a a' g = go (eqb c' 13) refl
  where
    go : (b : Bool) → eqb c' 13 ≡ b → Good q'
    go true e =
        let n : c' ≡ 13 = eqb-true c' 13 e in
        let w = same_does f s c c' q q' a a' in
        subst Good (w.bytes (omega (arith, n, w.number))) g
    go false e = (a'.done (eqb-false c' 13 e)).2

-- two answers of the call that makes both: all of the answer, the slices that were read to, and the number of the reading
pub record Both (n : ℕ) (q : Lent) (e : Slices) (m : Bytes) (n' : ℕ) (q' : Lent) (e' : Slices) (m' : Bytes) : Type 0 where
  pub answer : Same n q n' q'
  pub slices : e ≡ e'
  pub number : m ≡ m'

module _ (id : Bytes) (s : Lent) (d : Slices) (next : Bytes) (n n' : ℕ) (q q' : Lent) (e e' : Slices) (m m' : Bytes) where
  same_turns : Turns id s d next n q e m → Turns id s d next n' q' e' m' → Both n q e m n' q' e' m'
  same_turns t t' =
      let w = same_does (answered sha1 id) s n n' q q' t.does t'.does in
      let r = same_reads q q' d t.number t'.number e e' w.editor (same_good (answered sha1 id) s n n' q q' t.does t'.does) (same_good (answered sha1 id) s n' n q' q t'.does t.does) t.reads t'.reads in
      record { answer = w; slices = r.1; number = t.given ∙ ap (set next 0) r.0 ∙ sym t'.given }

  pub same_answers_and_asks : AnswersAndAsks id s d next n q e m → AnswersAndAsks id s d next n' q' e' m' → Both n q e m n' q' e' m'
  same_answers_and_asks a a' = go (eqb (length id) 20) refl (leb 1024 (length d.path)) refl (leb 2 (length d.lens)) refl (leb 1 (length next)) refl
    where
      unmeant : (Whole id d.path d.lens next → ⊥) → Both n q e m n' q' e' m'
      unmeant h =
          let x = a.bad h in
          let x' = a'.bad h in
          record { answer = same_numbers none s n n' q q' (x.0, x.1) (x'.0, x'.1); slices = x.2 ∙ sym x'.2; number = x.3 ∙ sym x'.3 }

      go : (b₁ : Bool) → eqb (length id) 20 ≡ b₁ → (b₂ : Bool) → leb 1024 (length d.path) ≡ b₂ → (b₃ : Bool) → leb 2 (length d.lens) ≡ b₃ → (b₄ : Bool) → leb 1 (length next) ≡ b₄ → Both n q e m n' q' e' m'
      go true h₁ true h₂ true h₃ true h₄ =
          let w : Whole id d.path d.lens next = record { id = eqb-true (length id) 20 h₁; path = leb-true 1024 (length d.path) h₂; lens = leb-true 2 (length d.lens) h₃; next = leb-true 1 (length next) h₄ } in
          same_turns (a.good w) (a'.good w)
      go true h₁ true h₂ true h₃ false h₄ = unmeant (λ w. omega (arith, w.next, leb-false 1 (length next) h₄))
      go true h₁ true h₂ false h₃ b₄ h₄ = unmeant (λ w. omega (arith, w.lens, leb-false 2 (length d.lens) h₃))
      go true h₁ false h₂ b₃ h₃ b₄ h₄ = unmeant (λ w. omega (arith, w.path, leb-false 1024 (length d.path) h₂))
      go false h₁ b₂ h₂ b₃ h₃ b₄ h₄ = unmeant (λ w. eqb-false (length id) 20 h₁ w.id)
