-- Laws of the halving search: what is left to search decides. Assumes nothing.
use mathlib.Core.Path.{◌≡◌, refl, sym, ap, ap₂, ◌∙◌}
use mathlib.Core.List.{List, [], ◌∷◌, ◌++◌}
use Prim.Native.Nat.{ℕ, zero, suc, ◌+◌, ◌-◌, ◌/◌, ◌≤◌, ◌<◌, Ordering}
use native.Mathlib.Omega.{arith}
use lib.ListN.{length, take, drop, length-append, length-drop}
use lib.Seq.{length-take-le, drop-cons, take-take, drop-drop, drop_at, take-add, get_or-take, get_or-drop, take-length}
use Rattle.model.specs.Bytes.{Bytes, cmp, by}
use Rattle.model.specs.Tree.{Entry, Tree, key}
use Rattle.model.specs.Search.{Spot, hit, miss, Searched, further, past_by, counted, at_middle, halving, searched}
use Rattle.model.proofs.SearchLaws.{half_length}
use Rattle.std.specs.Prelude.{Ok, Err}
use Rattle.names_compact.specs.Compact.{packed_all, unpack, Run, offset, blank, entry_at, Tells}

module _ {A : Type 0} (key : A → Bytes) where
  -- the bound on the depth does not matter
  halving_enough : (n m : ℕ) (k : Bytes) (l : List A) → length l ≤ n → length l ≤ m → halving key n k l ≡ halving key m k l
  halving_enough zero zero k l h g = refl
  halving_enough zero (suc m) k [] h g = refl
  halving_enough zero (suc m) k (y ∷ ys) h g = absurd (omega arith)
  halving_enough (suc n) zero k [] h g = refl
  halving_enough (suc n) zero k (y ∷ ys) h g = absurd (omega arith)
  halving_enough (suc n) (suc m) k [] h g = refl
  halving_enough (suc n) (suc m) k (y ∷ ys) h g =
      go (drop i (y ∷ ys)) refl (λ l a b. halving_enough n m k l a b)
    where
      i : ℕ
      i = length (y ∷ ys) / 2

      go : (d : List A) → drop i (y ∷ ys) ≡ d → ((l : List A) → length l ≤ n → length l ≤ m → halving key n k l ≡ halving key m k l) →
          at_middle key (λ h. halving key n k h) k (take i (y ∷ ys)) i d ≡ at_middle key (λ h. halving key m k h) k (take i (y ∷ ys)) i d
      go [] e ih = refl
      go (x ∷ after) e ih =
          let la : suc (length after) ≡ length (y ∷ ys) - i = sym (ap length e) ∙ length-drop i (y ∷ ys) in
          ap₂ (λ (p q : Searched). counted (by (cmp k (key x)) p (record { spot = hit i; count = 0 }) (past_by (suc i) q)))
          (ih (take i (y ∷ ys)) (omega (arith, half_length key y ys)) (omega (arith, half_length key y ys)))
          (ih after (omega (arith, la)) (omega (arith, la)))

  -- one comparison of a search
  pub searched_step : (k : Bytes) (l : List A) (n m : ℕ) (x : A) (after : List A) → length l ≡ n → 0 < n → m ≡ n / 2 → drop m l ≡ x ∷ after →
      searched key k l ≡ counted (by (cmp k (key x)) (searched key k (take m l)) (record { spot = hit m; count = 0 }) (past_by (suc m) (searched key k after)))
  searched_step k [] n m x after ln h em e = absurd (omega arith)
  searched_step k (y ∷ ys) n m x after ln h em e =
      let q : m ≡ length (y ∷ ys) / 2 = em ∙ ap (λ (z : ℕ). z / 2) (sym ln) in
      let la : suc (length after) ≡ length (y ∷ ys) - m = sym (ap length e) ∙ length-drop m (y ∷ ys) in
      let lt : length (take m (y ∷ ys)) ≡ m = ap (λ (z : ℕ). length (take z (y ∷ ys))) q ∙ half_length key y ys ∙ sym q in
      ap (λ (z : ℕ). at_middle key (λ h. halving key (length ys) k h) k (take z (y ∷ ys)) z (drop z (y ∷ ys))) (sym q)
      ∙ ap (at_middle key (λ h. halving key (length ys) k h) k (take m (y ∷ ys)) m) e
      ∙ ap₂ (λ (p r : Searched). counted (by (cmp k (key x)) p (record { spot = hit m; count = 0 }) (past_by (suc m) r)))
      (halving_enough (length ys) (length (take m (y ∷ ys))) k (take m (y ∷ ys)) (omega (arith, lt)) (omega arith))
      (halving_enough (length ys) (length after) k after (omega (arith, la)) (omega arith))

abbrev tallied : ℕ → Searched → Searched
tallied c s = record { spot = s.spot; count = c + s.count }

-- a search in which c names were compared and the len entries from lo on are left
pub record Seeking (w : ℕ) (b k : Bytes) (len lo at c : ℕ) : Type 0 where
  pub room : lo + len ≤ length (unpack w b)
  pub is : at ≡ offset w b lo
  pub few : c + len ≤ length (unpack w b)
  pub rest : searched key k (unpack w b) ≡ tallied c (past_by lo (searched key k (take len (drop lo (unpack w b)))))

further_zero : (s : Spot) → s ≡ further 0 s
further_zero (hit i) = ap hit (let q : i ≡ 0 + i = omega arith in q)
further_zero (miss i) = ap miss (let q : i ≡ 0 + i = omega arith in q)

pub seek_all : (w : ℕ) (b k : Bytes) (len : ℕ) → len ≡ length (unpack w b) → Seeking w b k len 0 0 0
unfolding packed_all
seek_all w b k len e =
    record {
      room = omega arith;
      is = refl;
      few = omega arith;
      rest = go (searched key k (unpack w b)) ∙ ap (λ (l : Tree). tallied 0 (past_by 0 (searched key k l))) (sym (ap (λ (n : ℕ). take n (unpack w b)) e ∙ take-length (unpack w b)));
    }
  where
    go : (s : Searched) → s ≡ tallied 0 (past_by 0 s)
    go s = ap₂ (λ (x : Spot) (y : ℕ). record { spot = x; count = y }) (further_zero s.spot) (let q : s.count ≡ 0 + s.count = omega arith in q)

further_further : (a b c : ℕ) (s : Spot) → a + b ≡ c → further a (further b s) ≡ further c s
further_further a b c (hit i) e = ap hit (let q : a + (b + i) ≡ c + i = omega arith in q)
further_further a b c (miss i) e = ap miss (let q : a + (b + i) ≡ c + i = omega arith in q)

module _ {w : ℕ} {b k : Bytes} {len lo at c : ℕ} (s : Seeking w b k len lo at c) (m : ℕ) (h : 0 < len) (em : m ≡ len / 2) where
  abbrev t : Tree
  t = unpack w b

  abbrev x : Entry
  x = entry_at w b (lo + m)

  abbrev l : Tree
  l = take len (drop lo t)

  l_length : length l ≡ len
  l_length = length-take-le len (drop lo t) (omega (arith, length-drop lo t, s.room))

  middle : drop m l ≡ x ∷ drop (suc m) l
  middle =
      drop-cons l m blank (omega (arith, l_length))
      ∙ ap (λ (e : Entry). e ∷ drop (suc m) l) (get_or-take len (drop lo t) m blank (omega arith) ∙ get_or-drop lo t m blank)

  step : searched key k t ≡ tallied c (past_by lo (counted (by (cmp k (key x)) (searched key k (take m l)) (record { spot = hit m; count = 0 }) (past_by (suc m) (searched key k (drop (suc m) l))))))
  step = s.rest ∙ ap (λ (z : Searched). tallied c (past_by lo z)) (searched_step key k l len m x (drop (suc m) l) l_length h em middle)

  by_case : (o : Ordering) → cmp k (key x) ≡ o →
      searched key k t ≡ tallied c (past_by lo (counted (by o (searched key k (take m l)) (record { spot = hit m; count = 0 }) (past_by (suc m) (searched key k (drop (suc m) l))))))
  by_case o e = step ∙ ap (λ (z : Ordering). tallied c (past_by lo (counted (by z (searched key k (take m l)) (record { spot = hit m; count = 0 }) (past_by (suc m) (searched key k (drop (suc m) l))))))) e

  one_more : (n : ℕ) → c + suc n ≡ c + 1 + n
  one_more n = omega arith

  pub seek_low : Ordering.lt ≡ cmp k (key x) → Seeking w b k m lo at (c + 1)
  seek_low o =
      record {
        room = omega (arith, s.room);
        is = s.is;
        few = omega (arith, s.few);
        rest = by_case Ordering.lt (sym o)
            ∙ ap (λ (z : ℕ). record { spot = further lo (searched key k (take m l)).spot; count = z }) (one_more (searched key k (take m l)).count)
            ∙ ap (λ (z : Tree). tallied (c + 1) (past_by lo (searched key k z))) (take-take m len (drop lo t) (omega arith));
      }

  high_part : drop (suc m) l ≡ take (len - m - 1) (drop (lo + m + 1) t)
  high_part =
      let q : len ≡ suc m + (len - m - 1) = omega arith in
      let r : lo + suc m ≡ lo + m + 1 = omega arith in
      ap (λ (z : ℕ). drop (suc m) (take z (drop lo t))) q ∙ ap (drop (suc m)) (take-add (suc m) (len - m - 1) (drop lo t))
      ∙ drop_at (take (suc m) (drop lo t)) (take (len - m - 1) (drop (suc m) (drop lo t))) (suc m) (length-take-le (suc m) (drop lo t) (omega (arith, length-drop lo t, s.room)))
      ∙ ap (take (len - m - 1)) (drop-drop (suc m) lo t ∙ ap (λ (z : ℕ). drop z t) r)

  pub seek_high : (at' : ℕ) → at' ≡ offset w b (lo + m + 1) → Ordering.gt ≡ cmp k (key x) → Seeking w b k (len - m - 1) (lo + m + 1) at' (c + 1)
  seek_high at' e o =
      record {
        room = omega (arith, s.room);
        is = e;
        few = omega (arith, s.few);
        rest = by_case Ordering.gt (sym o)
            ∙ ap₂ (λ (y : Spot) (z : ℕ). record { spot = y; count = z }) (further_further lo (suc m) (lo + m + 1) (searched key k (drop (suc m) l)).spot (omega arith)) (one_more (searched key k (drop (suc m) l)).count)
            ∙ ap (λ (z : Tree). tallied (c + 1) (past_by (lo + m + 1) (searched key k z))) high_part;
      }

  pub seek_hit : (a : ℕ) → a ≡ offset w b (lo + m) → Ordering.eq ≡ cmp k (key x) → Tells w b (searched key k t) (Ok (record { index = lo + m; at = a; compared = c + 1 }))
  seek_hit a e o =
      let q : searched key k t ≡ record { spot = hit (lo + m); count = c + 1 } = by_case Ordering.eq (sym o) in
      record {
        spot = sym (ap (λ (z : Searched). z.spot) q);
        within = omega (arith, s.room);
        start = e;
        count = sym (ap (λ (z : Searched). z.count) q);
      }

none_left : (len w : ℕ) (b k : Bytes) (lo at c : ℕ) → Seeking w b k len lo at c → len ≤ 0 → Tells w b (searched key k (unpack w b)) (Err (record { index = lo; at = at; compared = c }))
none_left zero w b k lo at c s h =
    record {
      spot = ap miss (let q : lo ≡ lo + 0 = omega arith in q) ∙ sym (ap (λ (z : Searched). z.spot) s.rest);
      within = omega (arith, s.room);
      start = s.is;
      count = (let q : c ≡ c + 0 = omega arith in q) ∙ sym (ap (λ (z : Searched). z.count) s.rest);
    }
none_left (suc len) w b k lo at c s h = absurd (omega arith)

pub seek_none : {w : ℕ} {b k : Bytes} {len lo at c : ℕ} → Seeking w b k len lo at c → len ≤ 0 → Tells w b (searched key k (unpack w b)) (Err (record { index = lo; at = at; compared = c }))
seek_none {w = w} {b = b} {k = k} {len = len} {lo = lo} {at = at} {c = c} s h = none_left len w b k lo at c s h

-- there are no more entries than bytes
packed_more : (t : Tree) → length t ≤ length (packed_all t)
unfolding packed_all
packed_more [] = omega arith
packed_more (e ∷ es) = omega (arith, packed_more es, length-append (e.id ++ e.name) (packed_all es))

pub entries_fewer : (w : ℕ) (b : Bytes) → Run w b → length (unpack w b) ≤ length b
entries_fewer w b r = omega (arith, packed_more (unpack w b), ap length r.bytes)

pub seek_moved : {w : ℕ} {b k : Bytes} {len lo at c : ℕ} → Seeking w b k len lo at c → (len' lo' at' : ℕ) → len' ≡ len → lo' ≡ lo → at' ≡ at → Seeking w b k len' lo' at' c
seek_moved s len' lo' at' e f g = rw (e, f, g) s
