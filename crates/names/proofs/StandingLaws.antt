-- Two neighbours: the bytes after those that both names begin with decide how they stand to each other. Assumes nothing.
use Prim.Native.Nat.{ℕ, zero, suc, ◌+◌, ◌≤◌, ◌<◌, min, compare, Ordering}
use mathlib.Core.Path.{◌≡◌, refl, sym, ap, ◌∙◌}
use mathlib.Core.List.{[], ◌∷◌, ◌++◌}
use mathlib.Core.Bool.{Bool, true, false, not, true≢false, false≢true}
use native.Mathlib.Numerals.{add-one}
use native.Mathlib.Omega.{arith}
use lib.ListN.{length, take, drop, get_or, length-append, take-append-drop, drop_of_length-le}
use lib.Seq.{drop-cons, take-append-le}
use borrow.Author.Tests.{le-leb, not-true}
use Rattle.model.specs.Bytes.{Bytes, cmp, by, same, has}
use Rattle.model.specs.Tree.{as_kind, good_name}
use Rattle.model.proofs.Basics.{and_left, and_right, and_false}
use Rattle.model.proofs.ByteLaws.{compare_same, has_here, has_past}
use Rattle.model.proofs.RawLaws.{name_no_nul}
use Rattle.model.proofs.SoundTrees.{name_plain}
use Rattle.names.proofs.OrderLaws.{in_name_lem, after_name, Comparing, ends_left, ends_right, ends_both, byte_less, byte_more}
use Rattle.names.specs.Check.{Shorter, Shares, Lower, plain, besides}
use Rattle.names.specs.Standings.{StandsIn}
use Rattle.names.specs.declared.neighbour.Standing.TheVariants.{Apart, Within, Wrong}

-- the smaller of two lengths
pub shorter_min : {m n r : ℕ} → r ≡ min m n → Shorter m n r
shorter_min e = record { left = omega arith; right = omega arith; one = λ p q. omega (arith, p, q) }

-- at place i of two names that are alike so far
pub record Alike (a b : Bytes) (n i : ℕ) : Type 0 where
  pub bound : Shorter (length a) (length b) n
  pub within : i ≤ n
  pub same : take i a ≡ take i b

-- what follows the bytes that are alike decides
cmp_past : (i : ℕ) (k l : Bytes) → i ≤ length k → i ≤ length l → take i k ≡ take i l → cmp k l ≡ cmp (drop i k) (drop i l)
cmp_past zero k l h g e = refl
cmp_past (suc i) [] l h g e = absurd (omega arith)
cmp_past (suc i) (x ∷ k) [] h g e = absurd (omega arith)
cmp_past (suc i) (x ∷ k) (y ∷ l) h g e =
    let p : x ≡ y = cc in
    let q : take i k ≡ take i l = cc in
    rw (compare_same x y p) (cmp_past i k l (omega arith) (omega arith) q)

pub key_long : (x : Bool) (a : Bytes) (i : ℕ) → i ≤ length a → i ≤ length (as_kind x a)
key_long true a i h = omega (arith, length-append a (47 ∷ []))
key_long false a i h = h

key_take : (x : Bool) (a : Bytes) (i : ℕ) → i ≤ length a → take i (as_kind x a) ≡ take i a
key_take true a i h = take-append-le i a (47 ∷ []) h
key_take false a i h = refl

module _ {a b : Bytes} {i : ℕ} (s : Shares a b i) where
  pub shares_compare : (x y : Bool) → Comparing (as_kind x a) (as_kind y b) i
  shares_compare x y = record {
    within = key_long x a i s.left;
    rest = cmp_past i (as_kind x a) (as_kind y b) (key_long x a i s.left) (key_long y b i s.right) (key_take x a i s.left ∙ s.alike ∙ sym (key_take y b i s.right));
  }

-- where two names differ, the one with the lower byte comes first
shares_other : {a b : Bytes} {i : ℕ} → Shares a b i → Shares b a i
shares_other s = record { left = s.right; right = s.left; alike = sym s.alike; stop = λ p q e. s.stop q p (sym e) }

pub lower_less : {a b : Bytes} → Lower a b → (x y : Bool) → Ordering.lt ≡ cmp (as_kind x a) (as_kind y b)
lower_less {a} {b} l x y =
    byte_less (shares_compare l.shares x y) (in_name_lem a x l.at l.left) (in_name_lem b y l.at l.right) (key_long x a (suc l.at) l.left) (key_long y b (suc l.at) l.right) l.less

pub lower_greater : {a b : Bytes} → Lower b a → (x y : Bool) → Ordering.gt ≡ cmp (as_kind x a) (as_kind y b)
lower_greater {a} {b} l x y =
    byte_more (shares_compare (shares_other l.shares) x y) (in_name_lem a x l.at l.right) (in_name_lem b y l.at l.left) (key_long x a (suc l.at) l.right) (key_long y b (suc l.at) l.left) l.less

-- Neither slash nor NUL: of a name, and of its parts.
has_append : (c : ℕ) (a b : Bytes) → has c a ≡ false → has c (a ++ b) ≡ has c b
has_append c [] b h = refl
has_append c (x ∷ a) b h = go (compare c x) h (has_append c a b)
  where
    go : (o : Ordering) → by o (has c a) true (has c a) ≡ false → (has c a ≡ false → has c (a ++ b) ≡ has c b) → by o (has c (a ++ b)) true (has c (a ++ b)) ≡ has c b
    go Ordering.lt h ih = ih h
    go Ordering.eq h ih = absurd (true≢false h)
    go Ordering.gt h ih = ih h

has_front : (c : ℕ) (a b : Bytes) → has c (a ++ b) ≡ false → has c a ≡ false
has_front c [] b h = refl
has_front c (x ∷ a) b h = go (compare c x) h (has_front c a b)
  where
    go : (o : Ordering) → by o (has c (a ++ b)) true (has c (a ++ b)) ≡ false → (has c (a ++ b) ≡ false → has c a ≡ false) → by o (has c a) true (has c a) ≡ false
    go Ordering.lt h ih = ih h
    go Ordering.eq h ih = h
    go Ordering.gt h ih = ih h

has_take : (c i : ℕ) (a : Bytes) → has c a ≡ false → has c (take i a) ≡ false
has_take c i a h = has_front c (take i a) (drop i a) (ap (has c) (take-append-drop i a) ∙ h)

has_rest : (c i : ℕ) (a : Bytes) → has c (take i a) ≡ false → has c a ≡ has c (drop i a)
has_rest c i a h = ap (has c) (sym (take-append-drop i a)) ∙ has_append c (take i a) (drop i a) h

has_at : (c i : ℕ) (a : Bytes) → has c a ≡ false → i < length a → get_or a i 0 ≡ c → ⊥
has_at c i a h g e = true≢false (sym (has_here c (get_or a i 0) (drop (suc i) a) e) ∙ ap (has c) (sym (drop-cons a i 0 g)) ∙ sym (has_rest c i a (has_take c i a h)) ∙ h)

pub no_slash : (n : Bytes) → plain n ≡ true → has 47 n ≡ false
unfolding plain
no_slash n h = not-true (has 47 n) (and_left (not (has 47 n)) (not (has 0 n)) h)

pub no_nul : (n : Bytes) → plain n ≡ true → has 0 n ≡ false
unfolding plain
no_nul n h = not-true (has 0 n) (and_right (not (has 47 n)) (not (has 0 n)) h)

-- where the first of two parts is plain the second decides, and it is where the whole is
pub plain_append : (a b : Bytes) → plain a ≡ true → plain (a ++ b) ≡ plain b
unfolding plain
plain_append a b h = rw (has_append 47 a b (no_slash a h), has_append 0 a b (no_nul a h))

pub plain_front : (a b : Bytes) → plain (a ++ b) ≡ true → plain a ≡ true
unfolding plain
plain_front a b h = rw (has_front 47 a b (no_slash (a ++ b) h), has_front 0 a b (no_nul (a ++ b) h))

-- what of a name is left from place i on
pub record Plain (n : Bytes) (from i : ℕ) : Type 0 where
  pub rest : plain (drop from n) ≡ plain (drop i n)

pub plain_begin : (n : Bytes) (i : ℕ) → Plain n i i
plain_begin n i = record { rest = refl }

module _ {n : Bytes} {from i : ℕ} (at : Plain n from i) where
  pub plain_end : length n ≤ i → true ≡ plain (drop from n)
  unfolding plain
  plain_end h = sym (at.rest ∙ rw (drop_of_length-le n h))

  module _ (h : i < length n) where
    pub plain_slash : get_or n i 0 ≡ 47 → false ≡ plain (drop from n)
    unfolding plain
    plain_slash e = sym (at.rest ∙ rw (drop-cons n i 0 h, has_here 47 (get_or n i 0) (drop (suc i) n) e))

    pub plain_nul : get_or n i 0 ≡ 0 → false ≡ plain (drop from n)
    unfolding plain
    plain_nul e = sym (at.rest ∙ rw (drop-cons n i 0 h, has_here 0 (get_or n i 0) (drop (suc i) n) e) (and_false (not (has 47 (get_or n i 0 ∷ drop (suc i) n)))))

    pub plain_more : (get_or n i 0 ≡ 47 → ⊥) → (get_or n i 0 ≡ 0 → ⊥) → Plain n from (i + 1)
    unfolding plain
    plain_more s z = record { rest = at.rest ∙ rw (add-one, drop-cons n i 0 h, has_past 47 (get_or n i 0) (drop (suc i) n) s, has_past 0 (get_or n i 0) (drop (suc i) n) z) }

-- a name is good if it is plain, has some bytes and not too many
pub good_is : (n : Bytes) → (length n ≡ 0 → ⊥) → length n ≤ 255 → good_name n ≡ plain n
unfolding good_name plain
good_is [] h g = absurd (h refl)
good_is (x ∷ n) h g = rw (le-leb (length (x ∷ n)) 255 g)

pub good_plain : (n : Bytes) → good_name n ≡ true → plain n ≡ true
unfolding good_name plain
good_plain n h = rw (name_no_nul n h, name_plain n h)

-- of two names that begin alike, the rest of the second is to be looked at
pub shares_plain : {p n : Bytes} {i : ℕ} → Shares p n i → plain p ≡ true → plain n ≡ plain (drop i n)
unfolding plain
shares_plain {p} {n} {i} s h = rw (has_rest 47 i n (ap (has 47) (sym s.alike) ∙ has_take 47 i p (no_slash p h)), has_rest 0 i n (ap (has 0) (sym s.alike) ∙ has_take 0 i p (no_nul p h)))

-- so what is there past the shared bytes says whether the name is good
pub good_rest : {p n : Bytes} {i : ℕ} {r : Bool} → Shares p n i → plain p ≡ true → (length n ≡ 0 → ⊥) → length n ≤ 255 → r ≡ plain (drop i n) → good_name n ≡ r
good_rest {p} {n} s h some_bytes few e = good_is n some_bytes few ∙ shares_plain s h ∙ sym e

-- How neighbours stand to each other.
module _ (p : Bytes) (pt : Bool) (n : Bytes) (t : Bool) where
  pub bad_name_lem : good_name n ≡ false → StandsIn p pt n t Wrong
  unfolding besides
  bad_name_lem h = rw h

  module _ (gn : good_name n ≡ true) where
    may : same p n ≡ false → cmp (as_kind pt p) (as_kind t n) ≡ Ordering.lt → besides p pt n t ≡ true
    unfolding besides
    may d l = rw (gn, d, l)

    may_not : cmp (as_kind pt p) (as_kind t n) ≡ Ordering.gt → besides p pt n t ≡ false
    unfolding besides
    may_not l = rw (gn, l) (and_false (not (same p n)))

    twice : same p n ≡ true → besides p pt n t ≡ false
    unfolding besides
    twice d = rw (gn, d)

same_less : (p n : Bytes) → cmp p n ≡ Ordering.lt → same p n ≡ false
same_less p n e = rw e

same_more : (p n : Bytes) → cmp p n ≡ Ordering.gt → same p n ≡ false
same_more p n e = rw e

key_longer : (x : Bool) (a : Bytes) (i : ℕ) → i < length a → i < length (as_kind x a)
key_longer true a i h = omega (arith, length-append a (47 ∷ []))
key_longer false a i h = h

tree_longer : (a : Bytes) (i : ℕ) → i ≤ length a → i < length (as_kind true a)
tree_longer a i h = omega (arith, length-append a (47 ∷ []))

module _ {p n : Bytes} {i : ℕ} (s : Shares p n i) (pp : plain p ≡ true) (gn : good_name n ≡ true) where
  -- both names have more bytes: the first of these decide
  module _ (h : i < length p) (g : i < length n) where
    pub apart_byte : (pt t : Bool) → get_or p i 0 < get_or n i 0 → StandsIn p pt n t Apart
    apart_byte pt t l = (may p pt n t gn (same_less p n (less false false)) (less pt t), less true t)
      where
        less : (x y : Bool) → cmp (as_kind x p) (as_kind y n) ≡ Ordering.lt
        less x y = sym (byte_less (shares_compare s x y) (in_name_lem p x i h) (in_name_lem n y i g) (key_longer x p i h) (key_longer y n i g) l)

    pub wrong_byte : (pt t : Bool) → get_or n i 0 ≤ get_or p i 0 → StandsIn p pt n t Wrong
    wrong_byte pt t l =
        let ne = s.stop h g in
        let m : get_or n i 0 < get_or p i 0 = omega arith in
        may_not p pt n t gn (sym (byte_more (shares_compare s pt t) (in_name_lem p pt i h) (in_name_lem n t i g) (key_longer pt p i h) (key_longer t n i g) m))

  -- the second name ends: its slash decides, if it is a tree
  module _ (h : i < length p) (g : length n ≤ i) where
    pub apart_tree : (pt t : Bool) → t ≡ true → get_or p i 0 < 47 → StandsIn p pt n t Apart
    apart_tree pt false e l = absurd (false≢true e)
    apart_tree pt true e l = (may p pt n true gn (same_more p n (sym (ends_left (shares_compare s false false) h g))) (less pt), less true)
      where
        z : i < length (as_kind true n)
        z = tree_longer n i s.right

        less : (x : Bool) → cmp (as_kind x p) (as_kind true n) ≡ Ordering.lt
        less x = sym (byte_less (shares_compare s x true) (in_name_lem p x i h) (after_name n true i g z) (key_longer x p i h) z l)

    pub wrong_tree : (pt t : Bool) → t ≡ true → 47 ≤ get_or p i 0 → StandsIn p pt n t Wrong
    wrong_tree pt false e l = absurd (false≢true e)
    wrong_tree pt true e l =
        let z : i < length (as_kind true n) = tree_longer n i s.right in
        let ne = has_at 47 i p (no_slash p pp) h in
        let m : 47 < get_or p i 0 = omega arith in
        may_not p pt n true gn (sym (byte_more (shares_compare s pt true) (in_name_lem p pt i h) (after_name n true i g z) (key_longer pt p i h) z m))

    pub wrong_file : (pt t : Bool) → t ≡ false → StandsIn p pt n t Wrong
    wrong_file pt true e = absurd (true≢false e)
    wrong_file pt false e = may_not p pt n false gn (sym (ends_left (shares_compare s pt false) (key_longer pt p i h) g))

  -- the first name ends: its slash decides, if it is a tree
  module _ (h : length p ≤ i) (g : i < length n) where
    ends : (t : Bool) → cmp p (as_kind t n) ≡ Ordering.lt
    ends t = sym (ends_right (shares_compare s false t) h (key_longer t n i g))

    z : i < length (as_kind true p)
    z = tree_longer p i s.left

    pub past_slash : (pt t : Bool) → 47 < get_or n i 0 → StandsIn p pt n t Apart
    past_slash pt t l = (may p pt n t gn (same_less p n (ends false)) (less pt), less true)
      where
        less : (x : Bool) → cmp (as_kind x p) (as_kind t n) ≡ Ordering.lt
        less true = sym (byte_less (shares_compare s true t) (after_name p true i h z) (in_name_lem n t i g) z (key_longer t n i g) l)
        less false = ends t

    pub before_slash : (pt t : Bool) → pt ≡ true → get_or n i 0 ≤ 47 → StandsIn p pt n t Wrong
    before_slash false t e l = absurd (false≢true e)
    before_slash true t e l =
        let ne = has_at 47 i n (no_slash n (good_plain n gn)) g in
        let m : get_or n i 0 < 47 = omega arith in
        may_not p true n t gn (sym (byte_more (shares_compare s true t) (after_name p true i h z) (in_name_lem n t i g) z (key_longer t n i g) m))

    pub goes_on_lem : (pt t : Bool) → pt ≡ false → StandsIn p pt n t Within
    goes_on_lem true t e = absurd (true≢false e)
    goes_on_lem false t e = (may p false n t gn (same_less p n (ends false)) (ends t), refl)

  pub alike_names : (pt t : Bool) → length p ≤ i → length n ≤ i → StandsIn p pt n t Wrong
  alike_names pt t h g = twice p pt n t gn (ap (λ (o : Ordering). by o false true false) (sym (ends_both (shares_compare s false false) h g)))

-- the lower byte decides wherever it stands
pub lower_apart : {p n : Bytes} → Lower p n → plain p ≡ true → good_name n ≡ true → (pt t : Bool) → StandsIn p pt n t Apart
lower_apart l pp gn pt t = apart_byte l.shares pp gn l.left l.right pt t l.less
