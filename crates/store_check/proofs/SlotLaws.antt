-- What is so of every used slot is so of the list of the used slots, and back; sums over the runs are sums over the used slots. Assumes nothing.
use mathlib.Core.Path.{◌≡◌, refl, sym, ap, ◌∙◌}
use mathlib.Core.Logic.{◌≢◌}
use mathlib.Core.Bool.{Bool, true, false, not, ◌&&◌, ◌||◌}
use mathlib.Core.List.{List, [], ◌∷◌, map}
use Prim.Native.Nat.{ℕ, zero, suc, ◌+◌, ◌<◌}
use native.Mathlib.Omega.{arith}
use lib.ListN.{length, get_or}
use Rattle.model.specs.Bytes.{Bytes, same}
use Rattle.model.specs.Tree.{Tree, among, distinct, well_formed}
use Rattle.model.specs.Editor.{Held, at}
use Rattle.model.specs.Order.{All}
use Rattle.model.specs.Valid.{all_good}
use Rattle.model.proofs.Basics.{and_left, and_right, or_left, or_right, not_true}
use Rattle.model.proofs.ByteLaws.{same_eq, same_not}
use Rattle.model.proofs.SoundTrees.{total as sum}
use Rattle.names_compact.specs.Compact.{unpack, unpack_in}
use Rattle.store_runs.specs.Runs.{total}
use Rattle.store_slots.specs.View.{if_used, held_in, slots_of}
use Rattle.store_check.specs.Laid.{good_path}

-- ---- every used slot

pub slots_all : (w : ℕ) (P : Held → Type 0) (ds : List ℕ) (ps bs : List Bytes) → length ps ≡ length ds → length bs ≡ length ds →
    ((k : ℕ) → k < length ds → get_or ds k 0 ≡ 0 → P (held_in w (get_or ps k []) (get_or bs k []))) → All P (slots_of w ds ps bs)
unfolding slots_of
slots_all w P [] ps bs l r f = tt
slots_all w P (d ∷ ds) [] bs l r f = absurd (omega arith)
slots_all w P (d ∷ ds) (p ∷ ps) [] l r f = absurd (omega arith)
slots_all w P (d ∷ ds) (p ∷ ps) (b ∷ bs) l r f = go d (f 0 (omega arith)) (slots_all w P ds ps bs (omega arith) (omega arith) (λ k h u. f (suc k) (omega arith) u))
  where
    go : (d : ℕ) → (d ≡ 0 → P (held_in w p b)) → All P (slots_of w ds ps bs) → All P (if_used d (held_in w p b) (slots_of w ds ps bs))
    go zero f a = (f refl, a)
    go (suc d) f a = a

used_tail : (P : Held → Type 0) (d : ℕ) (h : Held) (hs : List Held) → All P (if_used d h hs) → All P hs
used_tail P zero h hs a = a.1
used_tail P (suc d) h hs a = a

used_head : (P : Held → Type 0) (d : ℕ) (h : Held) (hs : List Held) → d ≡ 0 → All P (if_used d h hs) → P h
used_head P zero h hs e a = a.0
used_head P (suc d) h hs e a = absurd (omega arith)

pub all_slots : (w : ℕ) (P : Held → Type 0) (ds : List ℕ) (ps bs : List Bytes) → length ps ≡ length ds → length bs ≡ length ds →
    All P (slots_of w ds ps bs) → (k : ℕ) → k < length ds → get_or ds k 0 ≡ 0 → P (held_in w (get_or ps k []) (get_or bs k []))
unfolding slots_of
all_slots w P [] ps bs l r a k h u = absurd (omega arith)
all_slots w P (d ∷ ds) [] bs l r a k h u = absurd (omega arith)
all_slots w P (d ∷ ds) (p ∷ ps) [] l r a k h u = absurd (omega arith)
all_slots w P (d ∷ ds) (p ∷ ps) (b ∷ bs) l r a zero h u = used_head P d (held_in w p b) (slots_of w ds ps bs) u a
all_slots w P (d ∷ ds) (p ∷ ps) (b ∷ bs) l r a (suc k) h u = all_slots w P ds ps bs (omega arith) (omega arith) (used_tail P d (held_in w p b) (slots_of w ds ps bs) a) k (omega arith) u

-- ---- good ones

abbrev pub Good : ℕ → Held → Type 0
Good w h = (good_path h.path ≡ true) × (well_formed w h.held ≡ true)

pub good_all : (w : ℕ) (hs : List Held) → All (Good w) hs → all_good w hs ≡ true
good_all w [] a = refl
good_all w (h ∷ hs) ((p, t), a) = join (good_path h.path) (well_formed w h.held) (all_good w hs) p t (good_all w hs a)
  where
    join : (x y z : Bool) → x ≡ true → y ≡ true → z ≡ true → (x && y && z) ≡ true
    join x y z e f g = rw (e, f, g)

pub all_good_lem : (w : ℕ) (hs : List Held) → all_good w hs ≡ true → All (Good w) hs
all_good_lem w [] e = tt
all_good_lem w (h ∷ hs) e =
    let x = good_path h.path in
    let y = well_formed w h.held in
    let z = all_good w hs in
    ((and_left x y (and_left (x && y) z e), and_right x y (and_left (x && y) z e)), all_good_lem w hs (and_right (x && y) z e))

-- ---- other paths

pub among_none : (p : Bytes) (hs : List Held) → All (λ h. h.path ≢ p) hs → among p (map at hs) ≡ false
among_none p [] a = refl
among_none p (h ∷ hs) (n, a) = go (same p h.path) refl (among_none p hs a)
  where
    go : (b : Bool) → same p h.path ≡ b → among p (map at hs) ≡ false → (b || among p (map at hs)) ≡ false
    go true e i = absurd (n (sym (same_eq p h.path e)))
    go false e i = i

pub none_among : (p : Bytes) (hs : List Held) → among p (map at hs) ≡ false → All (λ h. h.path ≢ p) hs
none_among p [] e = tt
none_among p (h ∷ hs) e =
    (λ q. same_not p h.path (or_left (same p h.path) (among p (map at hs)) e) (sym q), none_among p hs (or_right (same p h.path) (among p (map at hs)) e))

-- the paths of the used slots are different
abbrev pub Apart : List ℕ → List Bytes → Type 0
Apart ds ps = (j k : ℕ) → j < k → k < length ds → get_or ds j 0 ≡ 0 → get_or ds k 0 ≡ 0 → get_or ps j [] ≡ get_or ps k [] → ⊥

pub apart_distinct : (w : ℕ) (ds : List ℕ) (ps bs : List Bytes) → length ps ≡ length ds → length bs ≡ length ds → Apart ds ps → distinct (map at (slots_of w ds ps bs)) ≡ true
unfolding slots_of
apart_distinct w [] ps bs l r a = refl
apart_distinct w (d ∷ ds) [] bs l r a = absurd (omega arith)
apart_distinct w (d ∷ ds) (p ∷ ps) [] l r a = absurd (omega arith)
apart_distinct w (d ∷ ds) (p ∷ ps) (b ∷ bs) l r a =
    go d (λ k. a 0 (suc k)) (apart_distinct w ds ps bs (omega arith) (omega arith) (λ j k m h u v. a (suc j) (suc k) (omega arith) (omega arith) u v))
  where
    go : (d : ℕ) → ((k : ℕ) → 0 < suc k → suc k < suc (length ds) → d ≡ 0 → get_or ds k 0 ≡ 0 → p ≡ get_or ps k [] → ⊥) → distinct (map at (slots_of w ds ps bs)) ≡ true →
        distinct (map at (if_used d (held_in w p b) (slots_of w ds ps bs))) ≡ true
    go zero f i =
        let n : among p (map at (slots_of w ds ps bs)) ≡ false =
        among_none p (slots_of w ds ps bs) (slots_all w (λ h. h.path ≢ p) ds ps bs (omega arith) (omega arith) (λ k h u q. f k (omega arith) (omega arith) refl u (sym q))) in
        ap (λ (x : Bool). not x && distinct (map at (slots_of w ds ps bs))) n ∙ i
    go (suc d) f i = i

pub distinct_apart : (w : ℕ) (ds : List ℕ) (ps bs : List Bytes) → length ps ≡ length ds → length bs ≡ length ds → distinct (map at (slots_of w ds ps bs)) ≡ true → Apart ds ps
unfolding slots_of
distinct_apart w [] ps bs l r e j k m h u v q = absurd (omega arith)
distinct_apart w (d ∷ ds) [] bs l r e j k m h u v q = absurd (omega arith)
distinct_apart w (d ∷ ds) (p ∷ ps) [] l r e j k m h u v q = absurd (omega arith)
distinct_apart w (d ∷ ds) (p ∷ ps) (b ∷ bs) l r e zero zero m h u v q = absurd (omega arith)
distinct_apart w (d ∷ ds) (p ∷ ps) (b ∷ bs) l r e zero (suc k) m h u v q =
    all_slots w (λ x. x.path ≢ p) ds ps bs (omega arith) (omega arith) (none_among p (slots_of w ds ps bs) (first d u e)) k (omega arith) v (sym q)
  where
    first : (d : ℕ) → d ≡ 0 → distinct (map at (if_used d (held_in w p b) (slots_of w ds ps bs))) ≡ true → among p (map at (slots_of w ds ps bs)) ≡ false
    first zero u e = not_true (among p (map at (slots_of w ds ps bs))) (and_left (not (among p (map at (slots_of w ds ps bs)))) (distinct (map at (slots_of w ds ps bs))) e)
    first (suc d) u e = absurd (omega arith)
distinct_apart w (d ∷ ds) (p ∷ ps) (b ∷ bs) l r e (suc j) zero m h u v q = absurd (omega arith)
distinct_apart w (d ∷ ds) (p ∷ ps) (b ∷ bs) l r e (suc j) (suc k) m h u v q =
    distinct_apart w ds ps bs (omega arith) (omega arith) (rest d e) j k (omega arith) (omega arith) u v q
  where
    rest : (d : ℕ) → distinct (map at (if_used d (held_in w p b) (slots_of w ds ps bs))) ≡ true → distinct (map at (slots_of w ds ps bs)) ≡ true
    rest zero e = and_right (not (among p (map at (slots_of w ds ps bs)))) (distinct (map at (slots_of w ds ps bs))) e
    rest (suc d) e = e

-- ---- sums

pub unpack_none : (w : ℕ) → unpack w [] ≡ []
unfolding unpack unpack_in
unpack_none w = refl

pub sum_slots : (w : ℕ) (f : Tree → ℕ) (ds : List ℕ) (ps bs : List Bytes) → f [] ≡ 0 → length ps ≡ length ds → length bs ≡ length ds →
    ((k : ℕ) → k < length ds → (get_or ds k 0 ≡ 0 → ⊥) → get_or bs k [] ≡ []) → total (map (λ b. f (unpack w b)) bs) ≡ sum (λ h. f h.held) (slots_of w ds ps bs)
unfolding slots_of total
sum_slots w f [] ps [] z l r e = refl
sum_slots w f [] ps (b ∷ bs) z l r e = absurd (omega arith)
sum_slots w f (d ∷ ds) [] bs z l r e = absurd (omega arith)
sum_slots w f (d ∷ ds) (p ∷ ps) [] z l r e = absurd (omega arith)
sum_slots w f (d ∷ ds) (p ∷ ps) (b ∷ bs) z l r e =
    go d (e 0 (omega arith)) (sum_slots w f ds ps bs z (omega arith) (omega arith) (λ k h n. e (suc k) (omega arith) n))
  where
    go : (d : ℕ) → ((d ≡ 0 → ⊥) → b ≡ []) → total (map (λ b. f (unpack w b)) bs) ≡ sum (λ h. f h.held) (slots_of w ds ps bs) →
        f (unpack w b) + total (map (λ b. f (unpack w b)) bs) ≡ sum (λ h. f h.held) (if_used d (held_in w p b) (slots_of w ds ps bs))
    go zero g i = ap (λ (x : ℕ). f (unpack w b) + x) i
    go (suc d) g i =
        let n : f (unpack w b) ≡ 0 = ap (λ (x : Bytes). f (unpack w x)) (g (λ q. omega arith)) ∙ ap f (unpack_none w) ∙ z in
        omega (arith, n, i)
