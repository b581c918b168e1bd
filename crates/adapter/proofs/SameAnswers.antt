-- Any two answers that the statement of a call that reads admits are equal: the lookup is decided, and what is told of it too. Assumes nothing.
use Prim.Native.Nat.{ℕ, ◌<◌, ◌≤◌}
use mathlib.Core.Path.{◌≡◌, refl, sym, ap, ◌∙◌, subst}
use mathlib.Core.Bool.{Bool, true, false}
use native.Mathlib.Omega.{arith}
use lib.Dec.{eqb, leb}
use lib.ListN.{length}
use borrow.Author.Tests.{eqb-true, eqb-false, leb-true, leb-false}
use Rattle.model.specs.Bytes.{Bytes}
use Rattle.model.specs.Tree.{Mode, TREE, BLOB, EXEC, LINK, COMMIT}
use Rattle.model.specs.Lookup.{Looked, found, missing, refusal}
use Rattle.names.specs.Bits.{bits_of}
use Rattle.editor.specs.Lent.{Lent, viewed}
use Rattle.editor.specs.Looks.{Looks}
use Rattle.editor.proofs.SameAnswers.{same_look}
use Rattle.editor.proofs.LookLaws.{refusal_of, looked_low}
use Rattle.adapter.specs.Reads.{Tells, Gives, Finds, Gets}

-- two answers of a test
pub same_tells : (P : Type 0) (n n' : ℕ) → Tells P n → Tells P n' → n ≡ n'
same_tells P n n' t t' = go (eqb n 1) refl (eqb n' 1) refl
  where
    go : (b : Bool) → eqb n 1 ≡ b → (b' : Bool) → eqb n' 1 ≡ b' → n ≡ n'
    go true e true e' = eqb-true n 1 e ∙ sym (eqb-true n' 1 e')
    go true e false e' = absurd (eqb-false n' 1 e' (t'.so (t.one (eqb-true n 1 e))))
    go false e true e' = absurd (eqb-false n 1 e (t.so (t'.one (eqb-true n' 1 e'))))
    go false e false e' = t.bit (eqb-false n 1 e) ∙ sym (t'.bit (eqb-false n' 1 e'))

no_mode : (m : Mode) → 255 ≡ bits_of m → ⊥
no_mode TREE z = omega (arith, z)
no_mode BLOB z = omega (arith, z)
no_mode EXEC z = omega (arith, z)
no_mode LINK z = omega (arith, z)
no_mode COMMIT z = omega (arith, z)

same_gives : (r : Looked) (d : Bytes) (n n' : ℕ) (a a' : Bytes) → Gives r d n a → Gives r d n' a' → (n ≡ n') × (a ≡ a')
same_gives (found e) d n n' a a' g g' = (g.0 ∙ sym g'.0, g.1 ∙ sym g'.1)
same_gives missing d n n' a a' g g' = (g.0 ∙ sym g'.0, g.1 ∙ sym g'.1)
same_gives (refusal m) d n n' a a' g g' = (g.0 ∙ sym g'.0, g.1 ∙ sym g'.1)

same_finds : (prefix path : Bytes) (s : Lent) (d : Bytes) (n n' : ℕ) (a a' : Bytes) → Finds prefix path s d n a → Finds prefix path s d n' a' → (n ≡ n') × (a ≡ a')
same_finds prefix path s d n n' a a' g g' =
    let e : g'.looked ≡ g.looked = same_look prefix path s g'.looked g.looked g'.looks g.looks in
    same_gives g.looked d n n' a a' g.gives (subst (λ (r : Looked). Gives r d n' a') e g'.gives)

-- two answers of a lookup, with what the slice for the id holds
pub same_gets : (prefix path : Bytes) (s : Lent) (d : Bytes) (n n' : ℕ) (a a' : Bytes) → Gets prefix path s d n a → Gets prefix path s d n' a' → (n ≡ n') × (a ≡ a')
same_gets prefix path s d n n' a a' g g' = go (leb 20 (length d)) refl
  where
    go : (b : Bool) → leb 20 (length d) ≡ b → (n ≡ n') × (a ≡ a')
    go true h =
        let l : 20 ≤ length d = leb-true 20 (length d) h in
        same_finds prefix path s d n n' a a' (g.good l) (g'.good l)
    go false h =
        let l : length d < 20 = leb-false 20 (length d) h in
        ((g.bad l).0 ∙ sym (g'.bad l).0, (g.bad l).1 ∙ sym (g'.bad l).1)

-- 255 is given only there: a mode has more than three digits, and the numbers of a lookup end at 13
pub only_short : (prefix path : Bytes) (s : Lent) (d a : Bytes) → Gets prefix path s d 255 a → length d < 20
only_short prefix path s d a g = go (leb 20 (length d)) refl
  where
    other : (r : Looked) → refusal_of r ≤ 13 → Gives r d 255 a → ⊥
    other (found e) l z = no_mode e.mode z.0
    other missing l z = omega (arith, z.0)
    other (refusal m) l z = omega (arith, l, z.0)

    low : (r : Looked) → Looks prefix path s r → refusal_of r ≤ 13
    low r l = by (eqb (refusal_of r) 13) refl
      where
        by : (b : Bool) → eqb (refusal_of r) 13 ≡ b → refusal_of r ≤ 13
        by true e = omega (arith, eqb-true (refusal_of r) 13 e)
        by false e =
            let m = (l.answered (λ z. eqb-false (refusal_of r) 13 e (ap refusal_of z))).1 in
            omega (arith, ap refusal_of m, looked_low prefix path (viewed s))

    go : (b : Bool) → leb 20 (length d) ≡ b → length d < 20
    go true h =
        let f = g.good (leb-true 20 (length d) h) in
        absurd (other f.looked (low f.looked f.looks) f.gives)
    go false h = leb-false 20 (length d) h
