-- Laws of the runs one after the other: the first, and those behind it. Assumes nothing.
use mathlib.Core.Path.{◌≡◌, refl, sym, ap, ap₂, ◌∙◌}
use mathlib.Core.List.{List, [], ◌∷◌}
use Prim.Native.Nat.{ℕ, zero, suc, ◌+◌, ◌≤◌, ◌<◌}
use native.Mathlib.Omega.{arith}
use lib.ListN.{length, take, drop, get_or, length-drop}
use Rattle.std.specs.Prelude.{Option, Some, None}
use denote.Ref.{Bor}
use Rattle.std.proofs.lemmas.List.{get_or_default}
use Rattle.std.proofs.iter.Yields.{nat_range_steps}
use Rattle.std.proofs.lemmas.Iterator.{YieldsList, zips, YieldsList-from_range, YieldsList-from_zip}
use Rattle.std.proofs.lemmas.Iterator.Consumers.{YieldsList-from_first, YieldsList-turn, YieldsList-end}
use Rattle.std.specs.Iterator.{YieldsFirstRef, Yields}
use Rattle.std.specs.declared.ops.Range.{Range}
use Rattle.std.specs.declared.iter.Zip.{Zip}
use Rattle.std.specs.Iterator.Adapters.{zip_first, zip_second}
use Rattle.std.specs.List.{range_with_len, zip}
use Rattle.model.specs.Bytes.{Bytes}
use Rattle.store_runs.specs.Runs.{total, cut}
use Rattle.store_check.specs.declared.runs.Each.{Each}

pub cut_none : (lens bytes : List ℕ) → length lens ≡ 0 → cut lens bytes ≡ []
unfolding cut
cut_none [] bytes e = refl
cut_none (n ∷ lens) bytes e = absurd (omega arith)

module _ {lens rest : List ℕ} {n : ℕ} (bytes : List ℕ) (e : lens ≡ n ∷ rest) where
  pub cut_first : {run others : List ℕ} → run ≡ take n bytes → others ≡ drop n bytes → cut lens bytes ≡ run ∷ cut rest others
  unfolding cut
  cut_first f g = ap (λ (l : List ℕ). cut l bytes) e ∙ sym (ap₂ (λ (x y : List ℕ). x ∷ cut rest y) f g)

  sums : total lens ≡ n + total rest
  unfolding total
  sums = ap total e

  module _ (fits : total lens ≤ length bytes) where
    pub first_fits : n ≤ length bytes
    first_fits = omega (arith, sums)

    pub rest_fits : total rest ≤ length (drop n bytes)
    rest_fits = omega (arith, sums, length-drop n bytes)

-- the runs that an iterator gives are those that it has left
pub each : (s : Each) {bs : List Bytes} → cut s.lens.now s.bytes.now ≡ bs → YieldsList (YieldsFirstRef (λ (s : Each). cut s.lens.now s.bytes.now)) (λ x. x.now) s bs
each s {bs} e = YieldsList-from_first (λ x. x.now) (λ (s : Each). cut s.lens.now s.bytes.now) bs e

-- a walk over all of them
module _ {s it : Each} {bs : List Bytes} (g : s ≡ it) (c : cut it.lens.now it.bytes.now ≡ bs) where
  all_of : YieldsList (YieldsFirstRef (λ (s : Each). cut s.lens.now s.bytes.now)) (λ x. x.now) s bs
  all_of = each s (ap (λ (x : Each). cut x.lens.now x.bytes.now) g ∙ c)

  module _ (xs : List (Bor Bytes)) (t : Each) (y : Yields (YieldsFirstRef (λ (s : Each). cut s.lens.now s.bytes.now)) s xs t) {r : Option (Bor Bytes)} (u : Each) (n : YieldsFirstRef (λ (s : Each). cut s.lens.now s.bytes.now) t r u) where
    pub each_turn : (b : Bor Bytes) → r ≡ Some b → (length xs < length bs) × (b.now ≡ get_or bs (length xs) [])
    each_turn b i =
        let w = YieldsList-turn all_of xs t y r u b i n in
        (w.0, w.1 ∙ get_or_default bs (length xs) b.now [] w.0)

    pub each_end : r ≡ None → length xs ≡ length bs
    each_end i = (YieldsList-end all_of xs t y r u i n).1

-- ---- the runs with their numbers

zip_length : (a k : ℕ) (bs : List Bytes) → k ≤ length bs → length (zip (range_with_len a k) bs) ≡ k
zip_length a zero bs h = refl
zip_length a (suc k) [] h = absurd (omega arith)
zip_length a (suc k) (b ∷ bs) h = omega (arith, zip_length (a + 1) k bs (omega arith))

zip_at : (a k : ℕ) (bs : List Bytes) (n : ℕ) (d : ℕ × Bytes) → n < k → k ≤ length bs → ((get_or (zip (range_with_len a k) bs) n d).0 ≡ a + n) × ((get_or (zip (range_with_len a k) bs) n d).1 ≡ get_or bs n [])
zip_at a zero bs n d h l = absurd (omega arith)
zip_at a (suc k) [] n d h l = absurd (omega arith)
zip_at a (suc k) (b ∷ bs) zero d h l = (omega arith, refl)
zip_at a (suc k) (b ∷ bs) (suc n) d h l =
    let i = zip_at (a + 1) k bs n d (omega arith) (omega arith) in
    (omega (arith, i.0), i.1)

abbrev numbers : ℕ → List Bytes → List (ℕ × Bytes)
numbers k bs = zip (range_with_len 0 k) bs

abbrev pub Numbers : Zip (Range ℕ) Each → Option (ℕ × Bor Bytes) → Zip (Range ℕ) Each → Type 0
Numbers = zips nat_range_steps (YieldsFirstRef (λ (s : Each). cut s.lens.now s.bytes.now))

-- a walk over the first k runs, each with its number: it goes over s, which is z, and that is made of the numbers and the runs
module _ {s z : Zip (Range ℕ) Each} {it : Each} {k : ℕ} {bs : List Bytes} (g : s ≡ z) (e : zip_first z ≡ record { start = 0; end = k }) (f : zip_second z ≡ it) (c : cut it.lens.now it.bytes.now ≡ bs) (h : k ≤ length bs) where
  road : YieldsList Numbers (λ p. (p.0, p.1.now)) s (numbers k bs)
  road =
      YieldsList-from_zip (YieldsList-from_range 0 k k (ap zip_first g ∙ e) (omega arith))
      (each (zip_second s) (ap (λ (x : Zip (Range ℕ) Each). cut (zip_second x).lens.now (zip_second x).bytes.now) g ∙ ap (λ (x : Each). cut x.lens.now x.bytes.now) f ∙ c))

  module _ (xs : List (ℕ × Bor Bytes)) (t : Zip (Range ℕ) Each) (y : Yields Numbers s xs t) {r : Option (ℕ × Bor Bytes)} (u : Zip (Range ℕ) Each) (n : Numbers t r u) where
    pub at_turn : (j : ℕ) (b : Bor Bytes) → r ≡ Some (j, b) → (length xs < k) × (j ≡ length xs) × (b.now ≡ get_or bs (length xs) [])
    at_turn j b i =
        let w = YieldsList-turn road xs t y r u (j, b) i n in
        let l : length xs < k = omega (arith, w.0, zip_length 0 k bs h) in
        let m = zip_at 0 k bs (length xs) (j, b.now) l h in
        (l, omega (arith, ap (λ (p : ℕ × Bytes). p.0) w.1, m.0), ap (λ (p : ℕ × Bytes). p.1) w.1 ∙ m.1)

    pub at_end : r ≡ None → length xs ≡ k
    at_end i = (YieldsList-end road xs t y r u i n).1 ∙ zip_length 0 k bs h
