-- Any two answers that a call's statement admits are equal: 13 is decided by the store alone, and any other answer by the model. Assumes nothing.
use Prim.Native.Nat.{ℕ}
use mathlib.Core.Path.{◌≡◌, refl, sym, ap, ◌∙◌, subst}
use mathlib.Core.Bool.{Bool, true, false}
use native.Mathlib.Omega.{arith}
use borrow.Author.Tests.{eqb-true, eqb-false}
use lib.Dec.{eqb}
use Rattle.model.specs.Bytes.{Bytes}
use Rattle.model.specs.Raw.{read_tree}
use Rattle.model.specs.Editor.{Editor as Model}
use Rattle.model.specs.Calls.{Answer, rooted}
use Rattle.model.specs.Lookup.{Looked, found, missing, refusal}
use Rattle.editor.specs.Lent.{Lent, Long, Good, viewed, Behind, Still, Does}
use Rattle.editor.specs.Looks.{Looks}
use Rattle.editor.specs.Roots.{Makes}
use Rattle.editor.proofs.LookLaws.{refusal_of}

-- ---- lookups

thirteen : (r : Looked) → refusal_of r ≡ 13 → r ≡ refusal 13
thirteen (found e) h = absurd (omega (arith, h))
thirteen missing h = absurd (omega (arith, h))
thirteen (refusal n) h = ap refusal h

-- two answers of a lookup are equal
pub same_look : (prefix path : Bytes) (s : Lent) (r r' : Looked) → Looks prefix path s r → Looks prefix path s r' → r ≡ r'
same_look prefix path s r r' l l' = go (eqb (refusal_of r) 13) refl (eqb (refusal_of r') 13) refl
  where
    other : (x : Looked) → eqb (refusal_of x) 13 ≡ false → x ≡ refusal 13 → ⊥
    other x e h = eqb-false (refusal_of x) 13 e (ap refusal_of h)

    go : (b : Bool) → eqb (refusal_of r) 13 ≡ b → (b' : Bool) → eqb (refusal_of r') 13 ≡ b' → r ≡ r'
    go true e true e' = thirteen r (eqb-true (refusal_of r) 13 e) ∙ sym (thirteen r' (eqb-true (refusal_of r') 13 e'))
    go true e false e' = absurd (l.refused (thirteen r (eqb-true (refusal_of r) 13 e)) (l'.answered (other r' e')).0)
    go false e true e' = absurd (l'.refused (thirteen r' (eqb-true (refusal_of r') 13 e')) (l.answered (other r e)).0)
    go false e false e' = (l.answered (other r e)).1 ∙ sym (l'.answered (other r' e')).1

-- ---- calls that change the store

-- two answers are the same: the number, the editor, what lies behind the fronts, and each byte where the number says that nothing has changed
pub record Same (code : ℕ) (q : Lent) (code' : ℕ) (q' : Lent) : Type 0 where
  pub number : code ≡ code'
  pub editor : viewed q ≡ viewed q'
  pub behind : Behind q q'
  pub bytes : Still code → q ≡ q'

-- what the statements say in common: 13 exactly where P is not so, and else the answer a
record Told (P : Type 0) (a : Answer) (s : Lent) (code : ℕ) (q : Lent) : Type 0 where
  pub refused : code ≡ 13 → (P → ⊥) × (q ≡ s)
  pub done : (code ≡ 13 → ⊥) → P × (record { code = code; editor = viewed q } ≡ a) × Behind s q
  pub kept : Still code → q ≡ s

stays_behind : (q : Lent) → Behind q q
stays_behind q = record { plens = refl; paths = refl; tlens = refl; trees = refl; order = refl }

both_behind : (s q q' : Lent) → Behind s q → Behind s q' → Behind q q'
both_behind s q q' b b' =
    record {
      plens = b'.plens ∙ sym b.plens;
      paths = b'.paths ∙ sym b.paths;
      tlens = b'.tlens ∙ sym b.tlens;
      trees = b'.trees ∙ sym b.trees;
      order = b'.order ∙ sym b.order;
    }

module _ {P : Type 0} {a : Answer} (s : Lent) (c c' : ℕ) (q q' : Lent) (t : Told P a s c q) (t' : Told P a s c' q') where
  same_told : Same c q c' q'
  same_told = go (eqb c 13) refl (eqb c' 13) refl
    where
      go : (b : Bool) → eqb c 13 ≡ b → (b' : Bool) → eqb c' 13 ≡ b' → Same c q c' q'
      go true e true e' =
          let n : c ≡ 13 = eqb-true c 13 e in
          let n' : c' ≡ 13 = eqb-true c' 13 e' in
          let z : q ≡ q' = (t.refused n).1 ∙ sym (t'.refused n').1 in
          record { number = n ∙ sym n'; editor = ap viewed z; behind = subst (Behind q) z (stays_behind q); bytes = λ h. z }
      go true e false e' = absurd ((t.refused (eqb-true c 13 e)).0 (t'.done (eqb-false c' 13 e')).0)
      go false e true e' = absurd ((t'.refused (eqb-true c' 13 e')).0 (t.done (eqb-false c 13 e)).0)
      go false e false e' =
          let d = t.done (eqb-false c 13 e) in
          let d' = t'.done (eqb-false c' 13 e') in
          let x : ◌≡◌ {A = Answer} (record { code = c; editor = viewed q }) (record { code = c'; editor = viewed q' }) = d.1 ∙ sym d'.1 in
          let n : c ≡ c' = ap (λ (y : Answer). y.code) x in
          record {
            number = n;
            editor = ap (λ (y : Answer). y.editor) x;
            behind = both_behind s q q' d.2 d'.2;
            bytes = λ h. t.kept h ∙ sym (t'.kept (subst Still n h));
          }

does_told : (f : Model → Answer) (s : Lent) (c : ℕ) (q : Lent) → Does f s c q → Told (Good s) (f (viewed s)) s c q
does_told f s c q d = record { refused = d.refused; done = λ n. ((d.done n).0, (d.done n).1, (d.done n).3); kept = d.kept }

-- two answers of a call that does what f says
pub same_does : (f : Model → Answer) (s : Lent) (c c' : ℕ) (q q' : Lent) → Does f s c q → Does f s c' q' → Same c q c' q'
same_does f s c c' q q' d d' = same_told s c c' q q' (does_told f s c q d) (does_told f s c' q' d')

makes_told : (raw : Bytes) (s : Lent) (c : ℕ) (q : Lent) → Makes raw s c q → Told (Long s) (rooted (viewed s) (read_tree 20 raw)) s c q
makes_told raw s c q m =
    record {
      refused = m.refused;
      done = λ n. ((m.done n).0, (m.done n).1.is, (m.done n).1.behind);
      kept = λ h. go h (eqb c 13) refl;
    }
  where
    go : Still c → (b : Bool) → eqb c 13 ≡ b → q ≡ s
    go h true e = (m.refused (eqb-true c 13 e)).1
    go h false e = (m.done (eqb-false c 13 e)).1.kept h

-- two answers of the call that makes an editor
pub same_makes : (raw : Bytes) (s : Lent) (c c' : ℕ) (q q' : Lent) → Makes raw s c q → Makes raw s c' q' → Same c q c' q'
same_makes raw s c c' q q' m m' = same_told s c c' q q' (makes_told raw s c q m) (makes_told raw s c' q' m')
