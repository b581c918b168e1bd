-- Laws of the search: the keys of a tree rise, so with an entry that is lower than the key all before it are, and with one that is higher all behind it. Assumes nothing.
use Prim.Native.Nat.{ℕ, zero, suc, ◌+◌, ◌≤◌, ◌<◌, Ordering}
use mathlib.Core.Path.{◌≡◌, refl, sym, ap, ◌∙◌, subst}
use mathlib.Core.Bool.{Bool, true, false}
use mathlib.Core.List.{List, [], ◌∷◌}
use native.Mathlib.Omega.{arith}
use lib.Dec.{eqb}
use borrow.Author.Tests.{eqb-true, eqb-false}
use lib.ListN.{length, get_or}
use Rattle.std.specs.Prelude.{Ok, Err}
use Rattle.std.specs.declared.cmp.Ordering as std
use Rattle.std.specs.declared.cmp.Ordering.TheVariants.{Less, Equal, Greater}
use Rattle.model.specs.Bytes.{Bytes, cmp}
use Rattle.model.specs.Map.{find, rising, rising_from, is_some}
use Rattle.model.specs.Tree.{Tree, as_kind, key, good_name}
use Rattle.model.proofs.MapLaws.{cmp_eq, cmp_gt, cmp_lt, cmp_trans, cmp_turn, turned_round, above_head, above_tail, rising_tail}
use Rattle.names.specs.Answers.{as_ordering}
use Rattle.names_compact.specs.Compact.{blank}
use Rattle.names_salvage.specs.Answers.{empty, Lists, Goes, SearchIs}
use Rattle.names_salvage.specs.Slots.{slot_order}
use Rattle.names_salvage.specs.declared.table.Slot.{Slot}
use Rattle.names_salvage.proofs.StandLaws.{slot_says}

-- the keys behind one are above it
above_all : (j : Bytes) (t : Tree) → rising_from key j t ≡ true → (i : ℕ) → i < length t → cmp j (key (get_or t i blank)) ≡ Ordering.lt
above_all j [] r i h = absurd (omega arith)
above_all j (x ∷ t) r zero h = above_head key j x t r
above_all j (x ∷ t) r (suc i) h =
    cmp_trans j (key x) (key (get_or t i blank)) (above_head key j x t r) (above_all (key x) t (above_tail key j x t r) i (omega arith))

rises : (t : Tree) → rising key t ≡ true → (i j : ℕ) → i < j → j < length t → cmp (key (get_or t i blank)) (key (get_or t j blank)) ≡ Ordering.lt
rises [] r i j h g = absurd (omega arith)
rises (x ∷ t) r i zero h g = absurd (omega arith)
rises (x ∷ t) r zero (suc j) h g = above_all (key x) t r j (omega arith)
rises (x ∷ t) r (suc i) (suc j) h g = rises t (rising_tail key x t r) i j (omega arith) (omega arith)

-- a key that stands at a place is found
found : (k : Bytes) (t : Tree) → rising key t ≡ true → (i : ℕ) → i < length t → cmp (key (get_or t i blank)) k ≡ Ordering.eq → is_some (find key k t) ≡ true
found k [] r i h e = absurd (omega arith)
found k (x ∷ t) r zero h e = rw (cmp_turn (key x) k ∙ ap turned_round e)
found k (x ∷ t) r (suc i) h e =
    let q : cmp (key x) k ≡ Ordering.lt =
    subst (λ (z : Bytes). cmp (key x) z ≡ Ordering.lt) (cmp_eq (key (get_or t i blank)) k e) (above_all (key x) t r i (omega arith)) in
    rw (cmp_lt (key x) k q) (found k t (rising_tail key x t r) i (omega arith) e)

-- a place with lower keys before it and higher keys from it on
gap : (k : Bytes) (t : Tree) (i : ℕ) → i ≤ length t → ((j : ℕ) → j < i → cmp (key (get_or t j blank)) k ≡ Ordering.lt) →
    ((j : ℕ) → i ≤ j → j < length t → cmp (key (get_or t j blank)) k ≡ Ordering.gt) → Goes t k i
gap k [] zero h low high = (refl, λ e q. refl, omega arith)
gap k [] (suc i) h low high = absurd (omega arith)
gap k (x ∷ t) zero h low high =
    let f : cmp k (key x) ≡ Ordering.lt = cmp_gt (key x) k (high 0 (omega arith) (omega arith)) in
    (rw f, λ e q. rw (q, f), omega arith)
gap k (x ∷ t) (suc i) h low high =
    let f : cmp k (key x) ≡ Ordering.gt = cmp_lt (key x) k (low 0 (omega arith)) in
    let g = gap k t i (omega arith) (λ j z. low (suc j) (omega arith)) (λ j z y. high (suc j) (omega arith) (omega arith)) in
    (rw f g.0, λ e q. rw (q, f) (ap (λ (l : Tree). x ∷ l) (g.1 e q)), omega (arith, g.2))

-- a search of which the entries from lo up to hi are left
pub record Seeking (t : Tree) (k : Bytes) (lo hi : ℕ) : Type 0 where
  pub low : (j : ℕ) → j < lo → cmp (key (get_or t j blank)) k ≡ Ordering.lt
  pub high : (j : ℕ) → hi ≤ j → j < length t → cmp (key (get_or t j blank)) k ≡ Ordering.gt

pub seek_all : (t : Tree) (k : Bytes) (n : ℕ) → length t ≤ n → Seeking t k 0 n
seek_all t k n h = record { low = λ j f. absurd (omega arith); high = λ j f g. absurd (omega arith) }

pub seek_none : {t : Tree} {k : Bytes} {lo hi : ℕ} → Seeking t k lo hi → lo ≤ length t → hi ≤ lo → SearchIs t k (Err lo)
seek_none {t} {k} {lo} {hi} s h g = record { is = gap k t lo h s.low (λ j f e. s.high j (omega arith) e) }

-- a slot at the middle says by its order where the search goes on
module _ {raw : Bytes} {vs : List Slot} {t : Tree} (l : Lists raw vs t) (up : rising key t ≡ true) (n : Bytes) (a : Bool) (g : good_name n ≡ true) (m : ℕ) (h : m < length vs) where
  there : m < length t
  there = omega (arith, l.many)

  says : (o : std.Ordering) → o ≡ slot_order raw n a (get_or vs m empty).word → cmp (key (get_or t m blank)) (as_kind a n) ≡ as_ordering o
  says o e = sym (ap as_ordering e ∙ slot_says (l.each m there) n g a)

  pub seek_hit : Equal ≡ slot_order raw n a (get_or vs m empty).word → SearchIs t (as_kind a n) (Ok m)
  seek_hit e = record { is = found (as_kind a n) t up m there (says Equal e) }

  module _ {lo hi : ℕ} (s : Seeking t (as_kind a n) lo hi) where
    pub seek_up : Less ≡ slot_order raw n a (get_or vs m empty).word → Seeking t (as_kind a n) (m + 1) hi
    seek_up e = record { low = λ j f. go j f (eqb j m) refl; high = s.high }
      where
        go : (j : ℕ) → j < m + 1 → (b : Bool) → eqb j m ≡ b → cmp (key (get_or t j blank)) (as_kind a n) ≡ Ordering.lt
        go j f true q = rw (eqb-true j m q) (says Less e)
        go j f false q =
            let ne = eqb-false j m q in
            cmp_trans _ (key (get_or t m blank)) (as_kind a n) (rises t up j m (omega (arith, ne)) there) (says Less e)

    pub seek_down : Greater ≡ slot_order raw n a (get_or vs m empty).word → Seeking t (as_kind a n) lo m
    seek_down e = record { low = s.low; high = λ j f d. go j f d (eqb j m) refl }
      where
        go : (j : ℕ) → m ≤ j → j < length t → (b : Bool) → eqb j m ≡ b → cmp (key (get_or t j blank)) (as_kind a n) ≡ Ordering.gt
        go j f d true q = rw (eqb-true j m q) (says Greater e)
        go j f d false q =
            let ne = eqb-false j m q in
            cmp_lt (as_kind a n) (key (get_or t j blank)) (cmp_trans (as_kind a n) (key (get_or t m blank)) _ (cmp_gt _ (as_kind a n) (says Greater e)) (rises t up m j (omega (arith, ne)) d))
