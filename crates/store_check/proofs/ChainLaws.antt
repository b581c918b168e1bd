-- Laws of the trees that a write has taken: those set aside one after the other, those stacked, and the start. Assumes nothing.
use mathlib.Core.Path.{◌≡◌, refl, sym, ap, ◌∙◌}
use mathlib.Core.Bool.{Bool, true, false, ◌&&◌}
use mathlib.Core.List.{List, [], ◌∷◌, ◌++◌, map, reverse, reverse-append}
use Prim.Native.Nat.{ℕ, zero, suc, ◌+◌, ◌-◌, ◌≤◌, ◌<◌}
use native.Mathlib.Omega.{arith}
use borrow.Author.Tests.{eq-eqb, ne_eqb}
use lib.Dec.{eqb}
use lib.ListN.{length, take, drop, get_or, drop_of_length-le, length-drop}
use lib.Seq.{take-suc, drop-cons, get_or-drop}
use Rattle.model.specs.Bytes.{Bytes, same, is_nil}
use Rattle.model.specs.Editor.{Held}
use Rattle.model.specs.Valid.{has_parent, have_parents, aside_good, taken_good}
use Rattle.model.specs.Write.{bottom}
use Rattle.model.proofs.ByteLaws.{same_refl}
use Rattle.store_runs.proofs.FindLaws.{and_false}
use Rattle.store_slots.specs.View.{held_at, path_of, start_from}
use Rattle.store_check.specs.Written.{aside_by}

map_append : {A B : Type 0} (f : A → B) (a b : List A) → map f (a ++ b) ≡ map f a ++ map f b
map_append f [] b = refl
map_append f (x ∷ a) b = ap (λ (l : List _). f x ∷ l) (map_append f a b)

and_swap : (x y z : Bool) → (x && (y && z)) ≡ (y && (x && z))
and_swap true y z = refl
and_swap false true z = refl
and_swap false false z = refl

-- ---- the start's path

-- the trees set aside are good below some start where they are so below their first, and that is the start
aside_start : (s : Bytes) (h : Held) (hs : List Held) → aside_good s (h ∷ hs) ≡ (same (bottom h hs).path s && aside_good (bottom h hs).path (h ∷ hs))
aside_start s h [] = both (same h.path s) (same h.path h.path) (same_refl h.path)
  where
    both : (x y : Bool) → y ≡ true → x ≡ (x && y)
    both true y e = sym e
    both false y e = refl
aside_start s h (k ∷ ks) =
    ap (λ (x : Bool). has_parent h.path (k ∷ ks) && x) (aside_start s k ks)
    ∙ and_swap (has_parent h.path (k ∷ ks)) (same (bottom k ks).path s) (aside_good (bottom k ks).path (k ∷ ks))

pub taken_start : (s : Bytes) (asked : Held) (stacked aside : List Held) →
    taken_good s asked stacked aside ≡ (same (bottom asked aside).path s && taken_good (bottom asked aside).path asked stacked aside)
unfolding taken_good
taken_start s asked stacked [] = ap (λ (x : Bool). same asked.path s && (x && is_nil stacked)) (sym (same_refl asked.path))
taken_start s asked stacked (h ∷ hs) =
    ap (λ (x : Bool). x && has_parent asked.path (h ∷ hs) && have_parents stacked (h ∷ hs)) (aside_start s h hs)
    ∙ regroup (same (bottom h hs).path s) (aside_good (bottom h hs).path (h ∷ hs)) (has_parent asked.path (h ∷ hs)) (have_parents stacked (h ∷ hs))
  where
    regroup : (a b c d : Bool) → (((a && b) && c) && d) ≡ (a && ((b && c) && d))
    regroup true b c d = refl
    regroup false b c d = refl

module _ (w : ℕ) (plens paths tlens trees order : List ℕ) where
  abbrev h : ℕ → Held
  h = held_at w plens paths tlens trees

  abbrev by : ℕ → List Held
  by n = aside_by w plens paths tlens trees order n

  abbrev s : Bytes
  s = path_of plens paths (get_or order 0 0)

  -- one more set aside
  pub aside_more : (n : ℕ) → n < length order → by (suc n) ≡ h (get_or order n 0) ∷ by n
  aside_more n l =
      ap (λ (x : List ℕ). reverse (map h x)) (take-suc order n 0 l) ∙ ap reverse (map_append h (take n order) (get_or order n 0 ∷ []))
      ∙ reverse-append (map h (take n order)) (h (get_or order n 0) ∷ [])

  good_more : (j : ℕ) → 1 ≤ j → j < length order → aside_good s (by (suc j)) ≡ (has_parent (path_of plens paths (get_or order j 0)) (by j) && aside_good s (by j))
  good_more zero l g = absurd (omega arith)
  good_more (suc j) l g =
      let e : by (suc j) ≡ h (get_or order j 0) ∷ by j = aside_more j (omega arith) in
      ap (aside_good s) (aside_more (suc j) g ∙ ap (λ (x : List Held). h (get_or order (suc j) 0) ∷ x) e)
      ∙ ap (λ (x : List Held). has_parent (path_of plens paths (get_or order (suc j) 0)) x && aside_good s x) (sym e)

  good_one : 0 < length order → aside_good s (by 1) ≡ true
  good_one l = ap (aside_good s) (aside_more 0 l) ∙ same_refl s

  -- those after the first i have their parents: the first i decide
  pub record Linking (n i : ℕ) : Type 0 where
    pub low : 1 ≤ i
    pub high : i ≤ n
    pub rest : aside_good s (by n) ≡ aside_good s (by i)

  pub linking_all : (n : ℕ) → 1 ≤ n → Linking n n
  linking_all n l = record { low = l; high = omega arith; rest = refl }

  module _ (n i : ℕ) (k : Linking n i) (l : n ≤ length order) where
    module _ (j : ℕ) (e : i ≡ suc j) (g : 1 ≤ j) (b : Bool) (t : b ≡ has_parent (path_of plens paths (get_or order j 0)) (by j)) where
      turn : aside_good s (by n) ≡ (b && aside_good s (by j))
      turn =
          k.rest ∙ ap (λ (x : ℕ). aside_good s (by x)) e ∙ good_more j g (omega (arith, k.high, e))
          ∙ ap (λ (x : Bool). x && aside_good s (by j)) (sym t)

      pub linking_bad : b ≡ false → false ≡ aside_good s (by n)
      linking_bad f = sym (turn ∙ ap (λ (x : Bool). x && aside_good s (by j)) f)

      pub linking_more : b ≡ true → Linking n j
      linking_more f = record { low = g; high = omega (arith, k.high, e); rest = turn ∙ ap (λ (x : Bool). x && aside_good s (by j)) f }

    pub linking_done : i ≤ 1 → true ≡ aside_good s (by n)
    linking_done g =
        let e : i ≡ 1 = omega (arith, k.low, g) in
        sym (k.rest ∙ ap (λ (x : ℕ). aside_good s (by x)) e ∙ good_one (omega (arith, k.low, k.high, l)))

  -- each of a list has its parent, or one of it has none
  each_has : (A : List Held) (l : List ℕ) → ((j : ℕ) → j < length l → has_parent (path_of plens paths (get_or l j 0)) A ≡ true) → have_parents (map h l) A ≡ true
  each_has A [] f = refl
  each_has A (k ∷ l) f = ap (λ (x : Bool). x && have_parents (map h l) A) (f 0 (omega arith)) ∙ each_has A l (λ j g. f (suc j) (omega (arith, g)))

  one_has_not : (A : List Held) (l : List ℕ) (j : ℕ) → j < length l → has_parent (path_of plens paths (get_or l j 0)) A ≡ false → have_parents (map h l) A ≡ false
  one_has_not A [] j g e = absurd (omega arith)
  one_has_not A (k ∷ l) zero g e = ap (λ (x : Bool). x && have_parents (map h l) A) e
  one_has_not A (k ∷ l) (suc j) g e = sym (and_false (has_parent (path_of plens paths k) A) (have_parents (map h l) A) (one_has_not A l j (omega arith) e))

  -- the stacked trees that stand from a on
  pub stack_all : (A : List Held) (a : ℕ) → length order ≡ 64 → ((j : ℕ) → a ≤ j → j < 64 → has_parent (path_of plens paths (get_or order j 0)) A ≡ true) → have_parents (map h (drop a order)) A ≡ true
  stack_all A a l f =
      each_has A (drop a order)
      (λ j g. ap (λ (x : ℕ). has_parent (path_of plens paths x) A) (get_or-drop a order j 0) ∙ f (a + j) (omega arith) (omega (arith, g, length-drop a order, l)))

  pub stack_bad : (A : List Held) (a j : ℕ) → length order ≡ 64 → a ≤ j → j < 64 → has_parent (path_of plens paths (get_or order j 0)) A ≡ false → have_parents (map h (drop a order)) A ≡ false
  stack_bad A a j l g m e =
      let q : a + (j - a) ≡ j = omega arith in
      one_has_not A (drop a order) (j - a) (omega (arith, length-drop a order, l)) (ap (λ (x : ℕ). has_parent (path_of plens paths x) A) (get_or-drop a order (j - a) 0 ∙ ap (λ (x : ℕ). get_or order x 0) q) ∙ e)

  -- ---- all that are taken

  no_stack : (n : ℕ) → length order ≡ 64 → n ≤ 64 → is_nil (map h (drop (64 - n) order)) ≡ eqb n 0
  no_stack zero l g = ap (λ (x : List ℕ). is_nil (map h x)) (drop_of_length-le order {i = 64} (omega (arith, l))) ∙ sym (eq-eqb 0 0 refl)
  no_stack (suc n) l g = ap (λ (x : List ℕ). is_nil (map h x)) (drop-cons order (64 - suc n) 0 (omega (arith, l))) ∙ sym (ne_eqb (suc n) 0 (λ e. omega (arith, e)))

  -- nothing is set aside: the start is requested
  pub chain_none : (m asked stacked : ℕ) → length order ≡ 64 → stacked ≤ 64 → m ≡ 0 → eqb stacked 0 ≡ taken_good (path_of plens paths (start_from m asked order)) (h asked) (map h (drop (64 - stacked) order)) (by m)
  unfolding taken_good
  chain_none m asked stacked l g e =
      sym (ap (λ (x : ℕ). taken_good (path_of plens paths (start_from x asked order)) (h asked) (map h (drop (64 - stacked) order)) (by x)) e
      ∙ ap (λ (x : Bool). x && is_nil (map h (drop (64 - stacked) order))) (same_refl (path_of plens paths asked)) ∙ no_stack stacked l g)

  chain_some : (m asked : ℕ) (stack : List Held) → (m ≡ 0 → ⊥) → m ≤ length order →
      taken_good (path_of plens paths (start_from m asked order)) (h asked) stack (by m) ≡ ((aside_good s (by m) && has_parent (path_of plens paths asked) (by m)) && have_parents stack (by m))
  unfolding taken_good
  chain_some zero asked stack n g = absurd (n refl)
  chain_some (suc m) asked stack n g =
      let e : by (suc m) ≡ h (get_or order m 0) ∷ by m = aside_more m g in
      ap (taken_good s (h asked) stack) e ∙ ap (λ (x : List Held). (aside_good s x && has_parent (path_of plens paths asked) x) && have_parents stack x) (sym e)

  -- something is: it is good, and so is what lies below it
  module _ (m asked : ℕ) (stack : List Held) (n : m ≡ 0 → ⊥) (g : m ≤ length order) (b : Bool) (t : b ≡ aside_good s (by m)) where
    pub chain_unlinked : b ≡ false → false ≡ taken_good (path_of plens paths (start_from m asked order)) (h asked) stack (by m)
    chain_unlinked e = sym (chain_some m asked stack n g ∙ ap (λ (x : Bool). (x && has_parent (path_of plens paths asked) (by m)) && have_parents stack (by m)) (sym t ∙ e))

    pub chain_rest : b ≡ true → (d : Bool) → d ≡ (has_parent (path_of plens paths asked) (by m) && have_parents stack (by m)) → d ≡ taken_good (path_of plens paths (start_from m asked order)) (h asked) stack (by m)
    chain_rest y d q = q ∙ sym (chain_some m asked stack n g ∙ ap (λ (x : Bool). (x && has_parent (path_of plens paths asked) (by m)) && have_parents stack (by m)) (sym t ∙ y))

  -- the first set aside is the start
  bottom_first : (n : ℕ) (g : Held) → n < length order → bottom g (by (suc n)) ≡ h (get_or order 0 0)
  bottom_first zero g l = ap (bottom g) (aside_more 0 l)
  bottom_first (suc n) g l = ap (bottom g) (aside_more (suc n) l) ∙ bottom_first n (h (get_or order (suc n) 0)) (omega arith)

  pub bottom_start : (m asked : ℕ) → m ≤ length order → (bottom (h asked) (by m)).path ≡ path_of plens paths (start_from m asked order)
  bottom_start zero asked l = refl
  bottom_start (suc m) asked l = ap (λ (x : Held). x.path) (bottom_first m (h asked) l)
