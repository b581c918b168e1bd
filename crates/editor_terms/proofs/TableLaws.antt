-- Laws of the object table: no object passed has the id and the offsets so far do not fall, so what is left of it decides. Assumes nothing.
use Prim.Native.Nat.{ℕ, ◌+◌, ◌-◌, ◌*◌, ◌/◌, ◌%◌, ◌≤◌, ◌<◌}
use mathlib.Core.Path.{◌≡◌, refl, sym, ap, ap₂, ◌∙◌}
use mathlib.Core.List.{List, [], ◌∷◌, ◌++◌}
use mathlib.Core.Logic.{◌⊎◌, inl, inr}
use mathlib.Core.Bool.{true, false, ◌&&◌, cond}
use mathlib.Core.Option.{none, some}
use native.Mathlib.Numerals.{add-one}
use native.Mathlib.Omega.{arith}
use lib.Dec.{leb, eqb}
use lib.ListN.{length, get_or, take, drop, drop_of_length-le, length-append}
use lib.Seq.{drop-cons, drop-drop, take-append_seam, drop-append_seam}
use borrow.Author.Tests.{le-leb, lt-leb, leb-true, eq-eqb, ne_eqb, eqb-true}
use Rattle.model.specs.Bytes.{Bytes, same}
use Rattle.model.specs.Table.{ends_from, good_table, raw_of, looked_up}
use Rattle.model.proofs.Basics.{and_left, and_right}
use Rattle.editor_terms.specs.Objects.{table_of}

-- the offsets from i on, with the raws from `from` on
ends_step : (ends : List ℕ) (size from i : ℕ) → i < length ends →
    ends_from from size (drop i ends) ≡ (leb from (get_or ends i 0) && leb (get_or ends i 0) size && ends_from (get_or ends i 0) size (drop (i + 1) ends))
ends_step ends size from i h = rw (add-one, drop-cons ends i 0)

pub record Checking (ends : List ℕ) (size from i : ℕ) : Type 0 where
  pub within : i ≤ length ends
  pub rest : ends_from 0 size ends ≡ ends_from from size (drop i ends)

pub check_begin : (ends : List ℕ) (size : ℕ) → Checking ends size 0 0
check_begin ends size = record { within = omega arith; rest = refl }

module _ {ends : List ℕ} {size from i : ℕ} (k : Checking ends size from i) where
  pub check_end : length ends ≤ i → true ≡ ends_from 0 size ends
  check_end h = sym (k.rest ∙ rw (drop_of_length-le ends h))

  module _ (h : i < length ends) where
    pub check_falls : get_or ends i 0 < from → false ≡ ends_from 0 size ends
    check_falls f = sym (k.rest ∙ ends_step ends size from i h ∙ rw (lt-leb from (get_or ends i 0) f))

    module _ (f : from ≤ get_or ends i 0) where
      pub check_passes : size < get_or ends i 0 → false ≡ ends_from 0 size ends
      check_passes g = sym (k.rest ∙ ends_step ends size from i h ∙ rw (le-leb from (get_or ends i 0) f, lt-leb (get_or ends i 0) size g))

      pub check_more : get_or ends i 0 ≤ size → Checking ends size (get_or ends i 0) (i + 1)
      check_more g = record { within = omega arith; rest = k.rest ∙ ends_step ends size from i h ∙ rw (le-leb from (get_or ends i 0) f, le-leb (get_or ends i 0) size g) }

-- whether the table is one, by its parts
module _ (ids : Bytes) (ends : List ℕ) (raws : Bytes) where
  pub not_each : (length ids / 20 ≡ length ends → ⊥) → false ≡ good_table 20 (table_of ids ends raws)
  unfolding good_table
  not_each n = rw (ne_eqb (length ids) (20 * length ends) (λ e. n (omega (arith, e))))

  pub not_whole : (length ids % 20 ≡ 0 → ⊥) → false ≡ good_table 20 (table_of ids ends raws)
  unfolding good_table
  not_whole n = rw (ne_eqb (length ids) (20 * length ends) (λ e. n (omega (arith, e))))

  pub good_each : length ids / 20 ≡ length ends → length ids % 20 ≡ 0 → ends_from 0 (length raws) ends ≡ good_table 20 (table_of ids ends raws)
  unfolding good_table
  good_each e f = rw (eq-eqb (length ids) (20 * length ends) (let q : length ids ≡ 20 * length ends = omega arith in q))

-- what is left of the table decides
pub record Finding (ids : Bytes) (ends : List ℕ) (raws wanted : Bytes) (from : ℕ) (left : Bytes) (over : List ℕ) : Type 0 where
  pub long : length left ≡ 20 * length over
  pub sound : from ≤ length raws
  pub good : ends_from from (length raws) over ≡ true
  pub rest : looked_up 20 (table_of ids ends raws) wanted ≡ raw_of 20 wanted over left from (drop from raws)

pub find_begin : (ids : Bytes) (ends : List ℕ) (raws wanted : Bytes) → good_table 20 (table_of ids ends raws) ≡ true → Finding ids ends raws wanted 0 ids ends
unfolding good_table looked_up
find_begin ids ends raws wanted e =
    record {
      long = eqb-true (length ids) (20 * length ends) (and_left (eqb (length ids) (20 * length ends)) (ends_from 0 (length raws) ends) e);
      sound = omega arith;
      good = and_right (eqb (length ids) (20 * length ends)) (ends_from 0 (length raws) ends) e;
      rest = refl;
    }

module _ {ids : Bytes} {ends : List ℕ} {raws wanted : Bytes} {from : ℕ} {left : Bytes} {over : List ℕ} (k : Finding ids ends raws wanted from left over) where
  pub find_none : (length left < 20) ⊎ (length over ≡ 0) → looked_up 20 (table_of ids ends raws) wanted ≡ none
  find_none h = k.rest ∙ rw (no_more over (of h))
    where
      of : (length left < 20) ⊎ (length over ≡ 0) → length over ≡ 0
      of (inl f) = omega (arith, f, k.long)
      of (inr f) = f

      no_more : (l : List ℕ) → length l ≡ 0 → l ≡ []
      no_more [] e = refl
      no_more (x ∷ xs) e = absurd (omega (arith, e))

  -- the next object ends there
  module _ {e : ℕ} {rest : List ℕ} (q : over ≡ e ∷ rest) where
    both : (leb from e && leb e (length raws) && ends_from e (length raws) rest) ≡ true
    both = ap (ends_from from (length raws)) (sym q) ∙ k.good

    pub rises : from ≤ e
    rises = leb-true from e (and_left (leb from e) (leb e (length raws)) (and_left (leb from e && leb e (length raws)) (ends_from e (length raws) rest) both))

    pub inside : e ≤ length raws
    inside = leb-true e (length raws) (and_right (leb from e) (leb e (length raws)) (and_left (leb from e && leb e (length raws)) (ends_from e (length raws) rest) both))

    -- and has this id, with more of them after it
    module _ (id more : Bytes) (p : left ≡ id ++ more) (w : length id ≡ 20) where
      step : looked_up 20 (table_of ids ends raws) wanted
          ≡ cond (same id wanted) (some (take (e - from) (drop from raws))) (raw_of 20 wanted rest more e (drop (e - from) (drop from raws)))
      step = k.rest ∙ ap₂ (λ (a : List ℕ) (b : Bytes). raw_of 20 wanted a b from (drop from raws)) q p
          ∙ ap₂ (λ (a b : Bytes). cond (same a wanted) (some (take (e - from) (drop from raws))) (raw_of 20 wanted rest b e (drop (e - from) (drop from raws))))
          (ap (λ (n : ℕ). take n (id ++ more)) (sym w) ∙ take-append_seam id more) (ap (λ (n : ℕ). drop n (id ++ more)) (sym w) ∙ drop-append_seam id more)

      pub find_here : same id wanted ≡ true → looked_up 20 (table_of ids ends raws) wanted ≡ some (take (e - from) (drop from raws))
      find_here f = step ∙ rw f

      pub find_more : same id wanted ≡ false → Finding ids ends raws wanted e more rest
      find_more f =
          let m : length (id ++ more) ≡ length id + length more = length-append id more in
          let n : from + (e - from) ≡ e = omega (arith, rises) in
          record {
            long = omega (arith, k.long, ap length p, ap length q, m, w);
            sound = inside;
            good = and_right (leb from e && leb e (length raws)) (ends_from e (length raws) rest) both;
            rest = step ∙ rw f (ap (raw_of 20 wanted rest more e) (drop-drop (e - from) from raws ∙ ap (λ (n : ℕ). drop n raws) n));
          }
