-- Laws of the slots that are set in a map one after the other: each takes its tree off the list of those left. Assumes nothing.
use mathlib.Core.Path.{◌≡◌, refl, sym, ap, ◌∙◌, subst}
use mathlib.Core.Bool.{Bool, true, false, not, ◌&&◌}
use mathlib.Core.List.{List, [], ◌∷◌, ◌++◌, map}
use Prim.Native.Nat.{ℕ, zero, suc, ◌+◌, ◌*◌, ◌/◌, ◌%◌, ◌^◌, ◌≤◌, ◌<◌}
use native.Mathlib.Nat.{pow-suc}
use native.Mathlib.Omega.{arith}
use borrow.Author.Tests.{eqb-true, eqb-false, eq-eqb, ne_eqb, ltb-true, lt-ltb, le-ltb}
use lib.Arith.{lt-one}
use lib.Dec.{eqb, ltb}
use lib.ListN.{length, take, drop, get_or, set}
use lib.Seq.{take_all, take-suc, get_or-set_same, get_or-set_other}
use Rattle.std.specs.Prelude.{Option, Some, None}
use Rattle.model.specs.Bytes.{Bytes, has}
use Rattle.model.specs.Tree.{distinct}
use Rattle.model.specs.Editor.{Held, at}
use Rattle.model.specs.Order.{All}
use Rattle.model.proofs.SoundTrees.{total}
use Rattle.model.proofs.Basics.{and_left, and_right, not_true, no_way}
use Rattle.model.proofs.ByteLaws.{has_past}
use Rattle.store_slots.proofs.Marked.{length_marked, marked_other}
use Rattle.store_runs.specs.Digits.{digits}
use Rattle.store_runs.proofs.DigitLaws.{length_digits}
use Rattle.store_slots.specs.View.{if_used, held_in, slots_of, marked, all_different}
use Rattle.store_slots.proofs.Slots.{front, back, slot, id, split_used, if_used_append}
use Rattle.store_slots.proofs.Gather.{total_more, distinct_remove}
use Rattle.store_check.specs.Written.{markable, Marks}

-- one slot set
slots_mark : (k w : ℕ) (ds : List ℕ) (ps bs : List Bytes) → k < length ds → length ps ≡ length ds → length bs ≡ length ds →
    slots_of w (set ds k 1) ps bs ≡ front k w ds ps bs ++ back k w ds ps bs
unfolding slots_of
slots_mark k w [] ps bs h l r = absurd (omega arith)
slots_mark k w (d ∷ ds) [] bs h l r = absurd (omega arith)
slots_mark k w (d ∷ ds) (p ∷ ps) [] h l r = absurd (omega arith)
slots_mark zero w (d ∷ ds) (p ∷ ps) (b ∷ bs) h l r = refl
slots_mark (suc k) w (d ∷ ds) (p ∷ ps) (b ∷ bs) h l r =
    ap (if_used d (held_in w p b)) (slots_mark k w ds ps bs (omega arith) (omega arith) (omega arith))
    ∙ if_used_append d (held_in w p b) (front k w ds ps bs) (back k w ds ps bs)

-- a place whose digit is 0
pub record Clear (ds : List ℕ) (k : ℕ) : Type 0 where
  pub low : k < length ds
  pub unset : get_or ds k 0 ≡ 0

abbrev pub held_of : ℕ → List Bytes → List Bytes → ℕ → Held
held_of w ps bs k = held_in w (get_or ps k []) (get_or bs k [])

-- the paths of the slots left are different
module _ (w : ℕ) (ds : List ℕ) (ps bs : List Bytes) (l : length ps ≡ length ds) (r : length bs ≡ length ds) where
  pub distinct_marked : (ks : List ℕ) → All (Clear ds) ks → all_different ks ≡ true → distinct (map at (slots_of w ds ps bs)) ≡ true → distinct (map at (slots_of w (marked ks ds) ps bs)) ≡ true
  unfolding marked
  distinct_marked [] c d a = a
  distinct_marked (k ∷ ks) c d a =
      let m : List ℕ = marked ks ds in
      let n : length m ≡ length ds = length_marked ks ds in
      let h : k < length m = omega (arith, n, c.0.low) in
      let u : get_or m k 0 ≡ 0 = marked_other k ks ds (not_true (has k ks) (and_left (not (has k ks)) (all_different ks) d)) ∙ c.0.unset in
      let i : distinct (map at (slots_of w m ps bs)) ≡ true = distinct_marked ks c.1 (and_right (not (has k ks)) (all_different ks) d) a in
      ap (λ (x : List Held). distinct (map at x)) (slots_mark k w m ps bs h (l ∙ sym n) (r ∙ sym n))
      ∙ distinct_remove (front k w m ps bs) (slot k w ps bs id id) (back k w m ps bs)
      (ap (λ (x : List Held). distinct (map at x)) (sym (split_used k w m ps bs h (l ∙ sym n) (r ∙ sym n) u)) ∙ i)

-- the trees of the slots set and those left are all of them
module _ (f : Held → ℕ) (w : ℕ) (ds : List ℕ) (ps bs : List Bytes) (l : length ps ≡ length ds) (r : length bs ≡ length ds) where
  pub total_marked : (ks : List ℕ) → All (Clear ds) ks → all_different ks ≡ true → total f (slots_of w ds ps bs) ≡ total (λ k. f (held_of w ps bs k)) ks + total f (slots_of w (marked ks ds) ps bs)
  unfolding marked
  total_marked [] c d = omega arith
  total_marked (k ∷ ks) c d =
      let m : List ℕ = marked ks ds in
      let n : length m ≡ length ds = length_marked ks ds in
      let h : k < length m = omega (arith, n, c.0.low) in
      let u : get_or m k 0 ≡ 0 = marked_other k ks ds (not_true (has k ks) (and_left (not (has k ks)) (all_different ks) d)) ∙ c.0.unset in
      let e : total f (slots_of w m ps bs) ≡ total f (front k w m ps bs ++ back k w m ps bs) + f (held_of w ps bs k) =
      ap (total f) (split_used k w m ps bs h (l ∙ sym n) (r ∙ sym n) u) ∙ total_more f (front k w m ps bs) (slot k w ps bs id id) (back k w m ps bs) in
      let g : total f (slots_of w (set m k 1) ps bs) ≡ total f (front k w m ps bs ++ back k w m ps bs) = ap (total f) (slots_mark k w m ps bs h (l ∙ sym n) (r ∙ sym n)) in
      omega (arith, e, g, total_marked ks c.1 (and_right (not (has k ks)) (all_different ks) d))

-- the digit of a place that is among those set
pub marked_here : (j : ℕ) (ks ds : List ℕ) → has j ks ≡ true → j < length ds → get_or (marked ks ds) j 0 ≡ 1
unfolding marked
marked_here j [] ds h l = no_way (sym h)
marked_here j (k ∷ ks) ds h l = go (λ g. marked_here j ks ds g l) (eqb j k) refl
  where
    go : (has j ks ≡ true → get_or (marked ks ds) j 0 ≡ 1) → (b : Bool) → eqb j k ≡ b → get_or (set (marked ks ds) k 1) j 0 ≡ 1
    go ih true e = ap (λ (x : ℕ). get_or (set (marked ks ds) x 1) j 0) (sym (eqb-true j k e)) ∙ get_or-set_same (marked ks ds) j 1 0 (omega (arith, length_marked ks ds))
    go ih false e =
        let n : j ≡ k → ⊥ = eqb-false j k e in
        get_or-set_other (marked ks ds) k j 1 0 n ∙ ih (sym (has_past j k ks (λ q. n (sym q))) ∙ h)

-- one list of places after the other
pub marked_append : (a b ds : List ℕ) → marked (a ++ b) ds ≡ marked a (marked b ds)
unfolding marked
marked_append [] b ds = refl
marked_append (k ∷ a) b ds = ap (λ (l : List ℕ). set l k 1) (marked_append a b ds)

pub and_assoc : (x y z : Bool) → ((x && y) && z) ≡ (x && (y && z))
and_assoc true y z = refl
and_assoc false y z = refl

and_true : (b : Bool) → b ≡ (b && true)
and_true true = refl
and_true false = refl

pub markable_append : (a b ds : List ℕ) → markable (a ++ b) ds ≡ (markable b ds && markable a (marked b ds))
unfolding markable
markable_append [] b ds = and_true (markable b ds)
markable_append (k ∷ a) b ds =
    rw (markable_append a b ds, marked_append a b ds, length_marked b ds)
    (and_assoc (markable b ds) (markable a (marked b ds)) (ltb k (length ds) && eqb (get_or (marked a (marked b ds)) k 0) 0))

-- what may be set is clear and different
pub markable_clear : (ks ds : List ℕ) → markable ks ds ≡ true → All (Clear ds) ks × (all_different ks ≡ true)
unfolding markable
markable_clear [] ds h = (tt, refl)
markable_clear (k ∷ ks) ds h =
    let m : markable ks ds ≡ true = and_left (markable ks ds) (ltb k (length ds) && eqb (get_or (marked ks ds) k 0) 0) h in
    let t : (ltb k (length ds) && eqb (get_or (marked ks ds) k 0) 0) ≡ true = and_right (markable ks ds) (ltb k (length ds) && eqb (get_or (marked ks ds) k 0) 0) h in
    let l : k < length ds = ltb-true k (length ds) (and_left (ltb k (length ds)) (eqb (get_or (marked ks ds) k 0) 0) t) in
    let z : get_or (marked ks ds) k 0 ≡ 0 = eqb-true (get_or (marked ks ds) k 0) 0 (and_right (ltb k (length ds)) (eqb (get_or (marked ks ds) k 0) 0) t) in
    let n : has k ks ≡ false = absent (has k ks) refl l z in
    let (c, d) = markable_clear ks ds m in
    ((record { low = l; unset = sym (marked_other k ks ds n) ∙ z }, c), rw n d)
  where
    absent : (b : Bool) → has k ks ≡ b → k < length ds → get_or (marked ks ds) k 0 ≡ 0 → b ≡ false
    absent true e l z = absurd (omega (arith, marked_here k ks ds e l, z))
    absent false e l z = refl

pub clear_markable : (ks ds : List ℕ) → All (Clear ds) ks → all_different ks ≡ true → markable ks ds ≡ true
unfolding markable
clear_markable [] ds c d = refl
clear_markable (k ∷ ks) ds c d =
    let n : has k ks ≡ false = not_true (has k ks) (and_left (not (has k ks)) (all_different ks) d) in
    rw (
      clear_markable ks ds c.1 (and_right (not (has k ks)) (all_different ks) d),
      lt-ltb k (length ds) c.0.low,
    ) (eq-eqb (get_or (marked ks ds) k 0) 0 (marked_other k ks ds n ∙ c.0.unset))

-- ---- a slot set in a word

-- a word is told by its digits
pub digits_tell : (w m n : ℕ) → m < 2 ^ w → n < 2 ^ w → digits w m ≡ digits w n → m ≡ n
unfolding digits
digits_tell zero m n h g e = lt-one h ∙ sym (lt-one g)
digits_tell (suc w) m n h g e =
    let p : 2 ^ suc w ≡ 2 ^ w * 2 = pow-suc 2 w in
    let a : m % 2 ≡ n % 2 = ap (λ (l : List ℕ). get_or l 0 0) e in
    let b : digits w (m / 2) ≡ digits w (n / 2) = ap (λ (l : List ℕ). drop 1 l) e in
    let i : m / 2 ≡ n / 2 = digits_tell w (m / 2) (n / 2) (omega arith) (omega arith) b in
    omega arith

one_out : (k : ℕ) (ds : List ℕ) → length ds ≤ k → markable (k ∷ []) ds ≡ false
unfolding markable
one_out k ds h = rw (le-ltb k (length ds) h)

one_set : (k : ℕ) (ds : List ℕ) → get_or ds k 0 ≡ 1 → markable (k ∷ []) ds ≡ false
unfolding markable marked
one_set k ds h = go (ltb k (length ds))
  where
    go : (b : Bool) → (true && (b && eqb (get_or ds k 0) 0)) ≡ false
    go true = ne_eqb (get_or ds k 0) 0 (λ z. omega (arith, h, z))
    go false = refl

one_clear : (k : ℕ) (ds : List ℕ) → k < length ds → get_or ds k 0 ≡ 0 → markable (k ∷ []) ds ≡ true
unfolding markable marked
one_clear k ds l h = rw (lt-ltb k (length ds) l) (eq-eqb (get_or ds k 0) 0 h)

marked_one : (k : ℕ) (ds : List ℕ) → marked (k ∷ []) ds ≡ set ds k 1
unfolding marked
marked_one k ds = refl

module _ (before k : ℕ) where
  pub marks_out : 64 ≤ k → Marks (k ∷ []) before None
  marks_out h = one_out k (digits 64 before) (omega (arith, length_digits 64 before))

  pub marks_set : get_or (digits 64 before) k 0 ≡ 1 → Marks (k ∷ []) before None
  marks_set h = one_set k (digits 64 before) h

  pub marks_one : (m : ℕ) → k < 64 → get_or (digits 64 before) k 0 ≡ 0 → digits 64 m ≡ set (digits 64 before) k 1 → Marks (k ∷ []) before (Some m)
  marks_one m l h e = (one_clear k (digits 64 before) (omega (arith, length_digits 64 before)) h, e ∙ sym (marked_one k (digits 64 before)))

-- ---- one list of slots after the other

pub marks_bad : (a b : List ℕ) (before : ℕ) → Marks b before None → Marks (a ++ b) before None
marks_bad a b before f = markable_append a b (digits 64 before) ∙ ap (λ (x : Bool). x && markable a (marked b (digits 64 before))) f

module _ (a b : List ℕ) (before mid : ℕ) (m : Marks b before (Some mid)) where
  markable_rest : markable (a ++ b) (digits 64 before) ≡ markable a (digits 64 mid)
  markable_rest =
      markable_append a b (digits 64 before) ∙ ap (λ (x : Bool). x && markable a (marked b (digits 64 before))) m.0 ∙ ap (markable a) (sym m.1)

  pub marks_append : (o : Option ℕ) → Marks a mid o → Marks (a ++ b) before o
  marks_append None f = markable_rest ∙ f
  marks_append (Some after) f = (markable_rest ∙ f.0, f.1 ∙ ap (marked a) m.1 ∙ sym (marked_append a b (digits 64 before)))

-- ---- the last first

-- those from i on are set: the others decide
pub record Setting (before : ℕ) (ks : List ℕ) (i now : ℕ) : Type 0 where
  pub rest : (o : Option ℕ) → Marks (take i ks) now o → Marks ks before o

pub setting_all : (before : ℕ) (ks : List ℕ) (i : ℕ) → length ks ≤ i → Setting before ks i before
setting_all before ks i h = record { rest = λ o m. subst (λ (x : List ℕ). Marks x before o) (take_all i ks h) m }

module _ {before : ℕ} {ks : List ℕ} {i now : ℕ} (s : Setting before ks i now) where
  module _ (j k : ℕ) (e : i ≡ suc j) (h : j < length ks) (q : k ≡ get_or ks j 0) where
    part : take i ks ≡ take j ks ++ (k ∷ [])
    part = ap (λ (x : ℕ). take x ks) e ∙ take-suc ks j 0 h ∙ ap (λ (x : ℕ). take j ks ++ (x ∷ [])) (sym q)

    pub setting_bad : Marks (k ∷ []) now None → Marks ks before None
    setting_bad m = s.rest None (ap (λ (x : List ℕ). markable x (digits 64 now)) part ∙ marks_bad (take j ks) (k ∷ []) now m)

    pub setting_more : (after : ℕ) → Marks (k ∷ []) now (Some after) → Setting before ks j after
    setting_more after m = record { rest = λ o n. s.rest o (subst (λ (x : List ℕ). Marks x now o) (sym part) (marks_append (take j ks) (k ∷ []) now after m o n)) }

  pub setting_done : i ≡ 0 → Marks ks before (Some now)
  unfolding markable marked
  setting_done e = s.rest (Some now) (subst (λ (x : List ℕ). Marks x now (Some now)) (sym (ap (λ (x : ℕ). take x ks) e)) (refl, refl))
