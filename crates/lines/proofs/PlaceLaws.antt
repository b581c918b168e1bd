-- Laws of lines by their places: the newline and the key decide what is found. Assumes nothing.
use Prim.Native.Nat.{ℕ, ◌+◌, ◌-◌, ◌≤◌, ◌<◌}
use mathlib.Core.Path.{◌≡◌, refl, sym, ap, ◌∙◌}
use mathlib.Core.Bool.{Bool, true, false, cond}
use mathlib.Core.Option.{Option, none, some}
use native.Mathlib.Omega.{arith}
use lib.Dec.{ltb}
use lib.ListN.{length, take, drop, length-take, length-drop}
use borrow.Author.Tests.{lt-ltb, le-ltb, ltb-true}
use Rattle.std.proofs.Common.{nat_eq, rules}
use Rattle.std.specs.Bool.{Decides}
use Rattle.std.specs.Cmp.Lexicographic.{pointwise}
use Rattle.std.proofs.lemmas.Slice.Eq.{bytes_eq-Decides}
use Rattle.model.specs.Bytes.{Bytes, same}
use Rattle.model.proofs.Basics.{none_some, some_none, some_inj}
use Rattle.model.proofs.ByteLaws.{same_eq, same_of}
use Rattle.names.specs.Places.{index_of}
use Rattle.lines.specs.Lines.{starts}
use Rattle.lines.specs.Places.{Part, line_len, value_at, Told, told, bind}

-- a text begins with a key only if it is as long
pub starts_long : (key l : Bytes) → starts key l ≡ true → length key ≤ length l
starts_long key l e =
    let q = simp length-take at (ap length (same_eq (take (length key) l) key e)) in
    omega (arith, q)

-- comparing byte by byte tells whether two texts are the same
pub same_test : (a b : Bytes) → same a b ≡ pointwise nat_eq a b
same_test a b =
    let h : Decides (same a b) (a ≡ b) = (same_eq a b, same_of a b) in
    search (rules, bytes_eq-Decides)

-- The line at a place, of which n bytes stand before the newline
module _ (key s : Bytes) (at : ℕ) {rest : Bytes} (er : rest ≡ drop at s) where
  pub no_newline : index_of 10 rest ≡ length rest → none ≡ value_at key s at
  unfolding value_at
  no_newline h =
      let e : ltb (line_len s at) (length (drop at s)) ≡ false = rw (← er) (le-ltb (index_of 10 rest) (length rest) (omega arith)) in
      rw e

  -- its text begins with the key, or not
  module _ {n : ℕ} (h : (n ≡ index_of 10 rest) × (n < length rest)) where
    line_there : ltb (line_len s at) (length (drop at s)) ≡ true
    line_there = rw (← er, ← h.0) (lt-ltb n (length rest) h.1)

    begins : {t : Bool} → pointwise nat_eq (take (length key) (take n rest)) key ≡ t → starts key (take (line_len s at) (drop at s)) ≡ t
    begins e = rw (← er, ← h.0) (same_test (take (length key) (take n rest)) key ∙ e)

    pub other_key : pointwise nat_eq (take (length key) (take n rest)) key ≡ false → none ≡ value_at key s at
    unfolding value_at
    other_key e = rw (line_there, begins e)

    pub has_key : {v : Bytes} → (pointwise nat_eq (take (length key) (take n rest)) key ≡ true) × (v ≡ drop (length key) (take n rest)) × (length v + length key ≡ length (take n rest)) →
        some (record { at = at + length key; len = length v }) ≡ value_at key s at
    unfolding value_at
    has_key {v} (e, _, l) =
        let q : length v ≡ n - length key = omega (arith, l, length-take n rest, h.1) in
        rw (line_there, begins e, q, ← er, ← h.0)

-- a value ends before the end of the input, after the place of its line
pub value_inside : (key s : Bytes) (at : ℕ) {p : Part} → value_at key s at ≡ some p → (at ≤ p.at) × (p.at + p.len < length s)
unfolding value_at
value_inside key s at {p} e = go (ltb (line_len s at) (length (drop at s))) refl (starts key (take (line_len s at) (drop at s))) refl e
  where
    go : (t : Bool) → ltb (line_len s at) (length (drop at s)) ≡ t → (u : Bool) → starts key (take (line_len s at) (drop at s)) ≡ u →
        cond t (cond u (some (record { at = at + length key; len = line_len s at - length key })) none) none ≡ some p → (at ≤ p.at) × (p.at + p.len < length s)
    go false f u g q = none_some p q
    go true f false g q = none_some p q
    go true f true g q =
        let i = some_inj (record { at = at + length key; len = line_len s at - length key }) p q in
        let a : at + length key ≡ p.at = ap (λ (x : Part). x.at) i in
        let l : line_len s at - length key ≡ p.len = ap (λ (x : Part). x.len) i in
        let k = starts_long key (take (line_len s at) (drop at s)) g in
        let m : length (take (line_len s at) (drop at s)) ≤ line_len s at = rw length-take (omega arith) in
        (omega arith, omega (arith, k, m, ltb-true (line_len s at) (length (drop at s)) f, length-drop at s))

-- what a call found, by the form of its answer
pub from : {A B : Type 0} (f : A → B) {x y : A} {z : B} → f x ≡ z → x ≡ y → z ≡ f y
from f e q = sym e ∙ ap f q

-- What a line told comes from, and where nothing is told
pub value_of : {A B : Type 0} (x : Option A) (f : A → Option B) (b : B) → bind x f ≡ some b → (a : A) × (x ≡ some a) × (f a ≡ some b)
value_of none f b e = none_some b e
value_of (some a) f b e = (a, refl, e)

pub told_of : {A : Type 0} (o : Option A) (n : ℕ) (t : Told A) → told o n ≡ some t → (o ≡ some t.what) × (n ≡ t.next)
told_of none n t e = none_some t e
told_of {A} (some a) n t e =
    let q = some_inj (record { what = a; next = n }) t e in
    (ap (λ (x : Told A). some x.what) q, ap (λ (x : Told A). x.next) q)

pub if_of : {A : Type 0} (b : Bool) (x y : A) → cond b (some x) none ≡ some y → (b ≡ true) × (x ≡ y)
if_of true x y e = (refl, some_inj x y e)
if_of false x y e = none_some y e

pub told_none : {A : Type 0} (o : Option A) (n : ℕ) → told o n ≡ none → o ≡ none
told_none none n e = refl
told_none (some a) n e = some_none (record { what = a; next = n }) e

pub if_none : {A : Type 0} (b : Bool) (x : A) → cond b (some x) none ≡ none → b ≡ false
if_none true x e = some_none x e
if_none false x e = refl
