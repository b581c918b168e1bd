-- Laws of the view: what is put together from the slots is found by its path, since the paths are different; so a slot more, less or changed is one tree more, less or changed. Assumes nothing.
use mathlib.Core.Path.{◌≡◌, refl, sym, ap, ◌∙◌}
use mathlib.Core.Logic.{◌≢◌}
use mathlib.Core.Bool.{Bool, true, false, not, cond, ◌&&◌, ◌||◌}
use mathlib.Core.Option.{Option, none, some}
use mathlib.Core.List.{List, [], ◌∷◌, ◌++◌, map}
use Prim.Native.Nat.{ℕ, ◌+◌, Ordering}
use native.Mathlib.Omega.{arith}
use lib.ListN.{length}
use Rattle.model.specs.Bytes.{Bytes, cmp, by, same}
use Rattle.model.specs.Map.{find, put, del, rising}
use Rattle.model.specs.Tree.{among, distinct, name_bytes}
use Rattle.model.specs.Editor.{Held, at, Cache, entry_count, name_count, path_count}
use Rattle.model.proofs.MapLaws.{cmp_refl, find_put_same, find_put_other, put_put, put_put_same, rising_put, ext}
use Rattle.model.proofs.Basics.{and_left, and_right, or_left, or_right, not_true}
use Rattle.model.proofs.ByteLaws.{same_eq, same_refl, same_not, same_turn}
use Rattle.model.proofs.SoundTrees.{total, total_put_new}
use Rattle.model.proofs.RoomCounts.{trees_total, entries_total, names_total, paths_total}
use Rattle.model.proofs.ValidSums.{total_append}
use Rattle.store_slots.specs.View.{gather}

-- the cache is in order
pub gather_rising : (hs : List Held) → rising at (gather hs) ≡ true
unfolding gather
gather_rising [] = refl
gather_rising (h ∷ hs) = rising_put at h (gather hs) (gather_rising hs)

-- ---- what is found in the view is the first slot at the path

unfoldable pub first_held : Bytes → List Held → Option Held
first_held p [] = none
first_held p (h ∷ hs) = cond (same p h.path) (some h) (first_held p hs)

pub find_gather : (p : Bytes) (hs : List Held) → find at p (gather hs) ≡ first_held p hs
unfolding gather first_held
find_gather p [] = refl
find_gather p (h ∷ hs) = go (find_gather p hs) (same p h.path) refl
  where
    go : find at p (gather hs) ≡ first_held p hs → (b : Bool) → same p h.path ≡ b → find at p (put at h (gather hs)) ≡ cond b (some h) (first_held p hs)
    go ih true e = ap (λ (q : Bytes). find at q (put at h (gather hs))) (same_eq p h.path e) ∙ find_put_same at h (gather hs)
    go ih false e = find_put_other at p h (gather hs) (same_not p h.path e) ∙ ih

pub not_found : (p : Bytes) (hs : List Held) → among p (map at hs) ≡ false → find at p (gather hs) ≡ none
unfolding first_held
not_found p hs h = find_gather p hs ∙ go hs h
  where
    go : (hs : List Held) → among p (map at hs) ≡ false → first_held p hs ≡ none
    go [] h = refl
    go (x ∷ xs) h = rw (or_left (same p x.path) (among p (map at xs)) h) (go xs (or_right (same p x.path) (among p (map at xs)) h))

-- ---- a slot in the middle

-- its place does not matter
pub gather_mid : (a : List Held) (h : Held) (b : List Held) → among h.path (map at a) ≡ false → gather (a ++ (h ∷ b)) ≡ put at h (gather (a ++ b))
unfolding gather
gather_mid [] h b n = refl
gather_mid (x ∷ a) h b n =
    ap (put at x) (gather_mid a h b (or_right (same h.path x.path) (among h.path (map at a)) n))
    ∙ put_put at x h (gather (a ++ b)) (λ e. same_not h.path x.path (or_left (same h.path x.path) (among h.path (map at a)) n) (sym e))

-- a slot's tree is changed
pub gather_change : (a : List Held) (h k : Held) (b : List Held) → among h.path (map at a) ≡ false → k.path ≡ h.path → gather (a ++ (k ∷ b)) ≡ put at k (gather (a ++ (h ∷ b)))
gather_change a h k b n e =
    gather_mid a k b (ap (λ (p : Bytes). among p (map at a)) e ∙ n) ∙ sym (put_put_same at k h (gather (a ++ b)) e) ∙ ap (put at k) (sym (gather_mid a h b n))

-- what was put under a new key goes again
pub del_put : (a : Held) (l : Cache) → find at a.path l ≡ none → del at a.path (put at a l) ≡ l
del_put a [] e = rw (cmp_refl a.path)
del_put a (x ∷ xs) e = go (del_put a xs) (cmp a.path x.path) refl e
  where
    go : (find at a.path xs ≡ none → del at a.path (put at a xs) ≡ xs) → (o : Ordering) → cmp a.path x.path ≡ o → by o none (some x) (find at a.path xs) ≡ none →
        del at a.path (by o (a ∷ x ∷ xs) (a ∷ xs) (x ∷ put at a xs)) ≡ x ∷ xs
    go ih Ordering.lt q f = rw (cmp_refl a.path)
    go ih Ordering.eq q f = absurd (let z : ◌≡◌ {A = ℕ} 0 1 = cc in omega arith)
    go ih Ordering.gt q f = rw (q, ih f)

among_append : (p : Bytes) (a b : List Held) → among p (map at a) ≡ false → among p (map at b) ≡ false → among p (map at (a ++ b)) ≡ false
among_append p [] b m n = n
among_append p (x ∷ a) b m n = rw (or_left (same p x.path) (among p (map at a)) m) (among_append p a b (or_right (same p x.path) (among p (map at a)) m) n)

-- a slot is freed
pub gather_free : (a : List Held) (h : Held) (b : List Held) → among h.path (map at a) ≡ false → among h.path (map at b) ≡ false →
    gather (a ++ b) ≡ del at h.path (gather (a ++ (h ∷ b)))
gather_free a h b m n =
    sym (ap (del at h.path) (gather_mid a h b m) ∙ del_put h (gather (a ++ b)) (not_found h.path (a ++ b) (among_append h.path a b m n)))

-- ---- slots at different paths

-- of a slot in the middle: no slot before it or after it is at its path
pub distinct_before : (a : List Held) (h : Held) (b : List Held) → distinct (map at (a ++ (h ∷ b))) ≡ true → among h.path (map at a) ≡ false
distinct_before [] h b d = refl
distinct_before (x ∷ a) h b d = go (distinct_before a h b (and_right (not (among x.path (map at (a ++ (h ∷ b))))) (distinct (map at (a ++ (h ∷ b)))) d)) (same h.path x.path) refl
  where
    fresh : among x.path (map at (a ++ (h ∷ b))) ≡ false
    fresh = not_true (among x.path (map at (a ++ (h ∷ b)))) (and_left (not (among x.path (map at (a ++ (h ∷ b))))) (distinct (map at (a ++ (h ∷ b)))) d)

    there : (q : Bytes) (l : List Held) → q ≡ h.path → among q (map at (l ++ (h ∷ b))) ≡ true
    there q [] e = rw (ap (λ (z : Bytes). same z h.path) e ∙ same_refl h.path)
    there q (y ∷ l) e = flip (same q y.path) (there q l e)
      where
        flip : (t : Bool) → among q (map at (l ++ (h ∷ b))) ≡ true → (t || among q (map at (l ++ (h ∷ b)))) ≡ true
        flip true i = refl
        flip false i = i

    go : among h.path (map at a) ≡ false → (t : Bool) → same h.path x.path ≡ t → (t || among h.path (map at a)) ≡ false
    go ih true e = sym (there x.path a (sym (same_eq h.path x.path e))) ∙ fresh
    go ih false e = ih

pub distinct_after : (a : List Held) (h : Held) (b : List Held) → distinct (map at (a ++ (h ∷ b))) ≡ true → among h.path (map at b) ≡ false
distinct_after [] h b d = not_true (among h.path (map at b)) (and_left (not (among h.path (map at b))) (distinct (map at b)) d)
distinct_after (x ∷ a) h b d = distinct_after a h b (and_right (not (among x.path (map at (a ++ (h ∷ b))))) (distinct (map at (a ++ (h ∷ b)))) d)

-- ---- counts

module _ (f : Held → ℕ) where
  pub total_gather : (hs : List Held) → distinct (map at hs) ≡ true → total f (gather hs) ≡ total f hs
  unfolding gather
  total_gather [] d = refl
  total_gather (h ∷ hs) d =
      total_put_new at f h (gather hs) (not_found h.path hs (not_true (among h.path (map at hs)) (and_left (not (among h.path (map at hs))) (distinct (map at hs)) d)))
      ∙ ap (λ (n : ℕ). f h + n) (total_gather hs (and_right (not (among h.path (map at hs))) (distinct (map at hs)) d))

-- the view's counts are sums over the slots
module _ (hs : List Held) (d : distinct (map at hs) ≡ true) where
  pub gather_entries : entry_count (gather hs) ≡ entry_count hs
  gather_entries = entries_total (gather hs) ∙ total_gather (λ h. length h.held) hs d ∙ sym (entries_total hs)

  pub gather_names : name_count (gather hs) ≡ name_count hs
  gather_names = names_total (gather hs) ∙ total_gather (λ h. name_bytes h.held) hs d ∙ sym (names_total hs)

  pub gather_paths : path_count (gather hs) ≡ path_count hs
  gather_paths = paths_total (gather hs) ∙ total_gather (λ h. length h.path) hs d ∙ sym (paths_total hs)

  pub gather_length : length (gather hs) ≡ length hs
  gather_length = trees_total (gather hs) ∙ total_gather (λ h. 1) hs d ∙ sym (trees_total hs)

-- ---- the order of the slots does not matter

pub gather_ext : (hs ks : List Held) → ((p : Bytes) → first_held p hs ≡ first_held p ks) → gather hs ≡ gather ks
gather_ext hs ks h = ext at (gather hs) (gather ks) (gather_rising hs) (gather_rising ks) (λ p. find_gather p hs ∙ h p ∙ sym (find_gather p ks))

pub gather_swap : (h k : Held) (hs : List Held) → h.path ≢ k.path → gather (h ∷ k ∷ hs) ≡ gather (k ∷ h ∷ hs)
unfolding gather
gather_swap h k hs n = put_put at h k (gather hs) n

-- ---- sums over slots one of which changes

pub total_mid : (f : Held → ℕ) (a : List Held) (h k : Held) (b : List Held) → total f (a ++ (k ∷ b)) + f h ≡ total f (a ++ (h ∷ b)) + f k
total_mid f a h k b = omega (arith, total_append f a (h ∷ b), total_append f a (k ∷ b))

pub total_more : (f : Held → ℕ) (a : List Held) (h : Held) (b : List Held) → total f (a ++ (h ∷ b)) ≡ total f (a ++ b) + f h
total_more f a h b = omega (arith, total_append f a (h ∷ b), total_append f a b)

-- ---- a slot more, or one fewer, at different paths

or_false : (b c : Bool) → b ≡ false → c ≡ false → (b || c) ≡ false
or_false b c e f = rw e f

among_insert : (q : Bytes) (a : List Held) (h : Held) (b : List Held) → among q (map at (a ++ b)) ≡ false → same q h.path ≡ false → among q (map at (a ++ (h ∷ b))) ≡ false
among_insert q [] h b n s = or_false (same q h.path) (among q (map at b)) s n
among_insert q (x ∷ a) h b n s =
    or_false (same q x.path) (among q (map at (a ++ (h ∷ b)))) (or_left (same q x.path) (among q (map at (a ++ b))) n)
    (among_insert q a h b (or_right (same q x.path) (among q (map at (a ++ b))) n) s)

among_remove : (q : Bytes) (a : List Held) (h : Held) (b : List Held) → among q (map at (a ++ (h ∷ b))) ≡ false → among q (map at (a ++ b)) ≡ false
among_remove q [] h b n = or_right (same q h.path) (among q (map at b)) n
among_remove q (x ∷ a) h b n =
    or_false (same q x.path) (among q (map at (a ++ b))) (or_left (same q x.path) (among q (map at (a ++ (h ∷ b)))) n)
    (among_remove q a h b (or_right (same q x.path) (among q (map at (a ++ (h ∷ b)))) n))

and_true : (b c : Bool) → b ≡ true → c ≡ true → (b && c) ≡ true
and_true b c e f = rw e f

pub distinct_insert : (a : List Held) (h : Held) (b : List Held) → among h.path (map at (a ++ b)) ≡ false → distinct (map at (a ++ b)) ≡ true → distinct (map at (a ++ (h ∷ b))) ≡ true
distinct_insert [] h b n d = and_true (not (among h.path (map at b))) (distinct (map at b)) (ap not n) d
distinct_insert (x ∷ a) h b n d =
    let fresh : among x.path (map at (a ++ b)) ≡ false = not_true (among x.path (map at (a ++ b))) (and_left (not (among x.path (map at (a ++ b)))) (distinct (map at (a ++ b))) d) in
    and_true (not (among x.path (map at (a ++ (h ∷ b))))) (distinct (map at (a ++ (h ∷ b))))
    (ap not (among_insert x.path a h b fresh (same_turn x.path h.path ∙ or_left (same h.path x.path) (among h.path (map at (a ++ b))) n)))
    (distinct_insert a h b (or_right (same h.path x.path) (among h.path (map at (a ++ b))) n) (and_right (not (among x.path (map at (a ++ b)))) (distinct (map at (a ++ b))) d))

pub distinct_remove : (a : List Held) (h : Held) (b : List Held) → distinct (map at (a ++ (h ∷ b))) ≡ true → distinct (map at (a ++ b)) ≡ true
distinct_remove [] h b d = and_right (not (among h.path (map at b))) (distinct (map at b)) d
distinct_remove (x ∷ a) h b d =
    let fresh : among x.path (map at (a ++ (h ∷ b))) ≡ false = not_true (among x.path (map at (a ++ (h ∷ b)))) (and_left (not (among x.path (map at (a ++ (h ∷ b))))) (distinct (map at (a ++ (h ∷ b)))) d) in
    and_true (not (among x.path (map at (a ++ b)))) (distinct (map at (a ++ b))) (ap not (among_remove x.path a h b fresh))
    (distinct_remove a h b (and_right (not (among x.path (map at (a ++ (h ∷ b))))) (distinct (map at (a ++ (h ∷ b)))) d))
