-- Every store that the public calls leave is accepted: each statement says that the store afterwards holds an editor, or that it is as it was. Assumes nothing.
use Prim.Native.Nat.{ℕ}
use mathlib.Core.Path.{◌≡◌, refl, sym, ap, ◌∙◌, subst}
use mathlib.Core.Bool.{Bool, true, false, not}
use mathlib.Core.List.{List, [], ◌∷◌}
use mathlib.Core.Option.{Option, none, some}
use native.Mathlib.Omega.{arith}
use borrow.Author.Tests.{eqb-true, eqb-false}
use lib.Dec.{eqb}
use Rattle.model.specs.Bytes.{Bytes}
use Rattle.model.specs.Tree.{Tree}
use Rattle.model.specs.Raw.{read_tree}
use Rattle.model.specs.Editor.{fits}
use Rattle.model.specs.Editor.{Editor as Model}
use Rattle.model.specs.Formats.{sha1}
use Rattle.model.specs.Calls.{Answer, refuse_if, rooted, root_only}
use Rattle.model.specs.Order.{All}
use Rattle.editor.specs.Lent.{Lent, Long, Good, viewed, Still, Does}
use Rattle.editor.specs.Roots.{Roots, Makes}
use Rattle.theorems.specs.Public.{does, Public, new, call, Says, Made}

-- ---- one call

-- over a store that holds an editor, the number and the editor are the model's, and the store holds that editor
module _ (f : Model → Answer) (s : Lent) (n : ℕ) (t : Lent) (d : Does f s n t) (g : Good s) where
  usual : n ≡ 13 → ⊥
  usual z = (d.refused z).0 g

  pub does_is : record { code = n; editor = viewed t } ≡ f (viewed s)
  does_is = (d.done usual).1

  pub does_good : Good t
  does_good = (d.done usual).2

-- over a store that holds an editor no call answers 13, and the store holds one afterwards
abbrev Keeps : Lent → ℕ → Lent → Type 0
Keeps s c q = Good s → (c ≡ 13 → ⊥) × Good q

does_keeps : (f : Model → Answer) (s : Lent) (c : ℕ) (q : Lent) → Does f s c q → Keeps s c q
does_keeps f s c q d g = (usual f s c q d g, does_good f s c q d g)

good_long : (s : Lent) → Good s → Long s
unfolding sha1
good_long s g = record { plens = g.plens_room; paths = g.paths_room; tlens = g.tlens_room; trees = g.trees_room; order = g.order_room }

-- the numbers of a new root are 0, 5 and 12
rooted_number : (E : Model) (o : Option Tree) → (((rooted E o).code ≡ 0 → ⊥) → Still (rooted E o).code)
unfolding rooted refuse_if
rooted_number E none = λ h. omega arith
rooted_number E (some t) = go (not (fits (root_only t).cached))
  where
    go : (b : Bool) → (((refuse_if b 5 E (record { code = 0; editor = root_only t })).code ≡ 0 → ⊥) → Still (refuse_if b 5 E (record { code = 0; editor = root_only t })).code)
    go true h = omega arith
    go false h = absurd (h refl)

makes_keeps : (raw : Bytes) (s : Lent) (c : ℕ) (q : Lent) → Makes raw s c q → Keeps s c q
makes_keeps raw s c q m g = (n, go (eqb c 0) refl)
  where
    n : c ≡ 13 → ⊥
    n z = (m.refused z).0 (good_long s g)

    d : Roots raw s c q
    d = (m.done n).1

    number : (rooted (viewed s) (read_tree 20 raw)).code ≡ c
    number = ap (λ (a : Answer). a.code) (sym d.is)

    go : (b : Bool) → eqb c 0 ≡ b → Good q
    go true e = d.good (eqb-true c 0 e)
    go false e =
        let h : Still (rooted (viewed s) (read_tree 20 raw)).code = rooted_number (viewed s) (read_tree 20 raw) (λ z. eqb-false c 0 e (sym number ∙ z)) in
        subst Good (sym (d.kept (omega (arith, h, number)))) g

-- over a store that holds an editor
pub accepted : (x : Public) (s : Lent) (c : ℕ) (q : Lent) → Says x s c q → Good s → (c ≡ 13 → ⊥) × Good q
accepted (new raw) = makes_keeps raw
accepted (call x) = does_keeps (does x)

-- whatever the memory held: an editor that is made is accepted
pub made_accepted : (raw : Bytes) (s q : Lent) → Says (new raw) s 0 q → Good q
made_accepted raw s q m = (m.done (λ z. omega (arith, z))).1.good refl

-- ---- lists of calls, of whatever kinds, in whatever order

pub all_accepted : (xs : List Public) (ns : List ℕ) (s q : Lent) → Made xs ns s q → Good s → All (λ n. n ≡ 13 → ⊥) ns × Good q
all_accepted [] [] s q e g = (tt, subst Good e g)
all_accepted [] (n ∷ ns) s q e g = absurd e
all_accepted (x ∷ xs) [] s q e g = absurd e
all_accepted (x ∷ xs) (n ∷ ns) s q (t, d, r) g =
    let (h, k) = accepted x s n t d g in
    let (hs, l) = all_accepted xs ns t q r k in
    ((h, hs), l)

-- from the making of an editor on, in memory of any content: no call answers 13, and the store is accepted
pub accepted_from_new : (raw : Bytes) (xs : List Public) (ns : List ℕ) (s t q : Lent) → Says (new raw) s 0 t → Made xs ns t q → All (λ n. n ≡ 13 → ⊥) ns × Good q
accepted_from_new raw xs ns s t q m r = all_accepted xs ns t q r (made_accepted raw s t m)
