-- The word that is made of a path step by step is the one of all its bytes. Assumes nothing.
use mathlib.Core.Path.{◌≡◌, refl, sym, ap, ap₂, ◌∙◌}
use Prim.Native.Nat.{ℕ, suc, ◌+◌, ◌-◌, ◌*◌, ◌/◌, ◌%◌, ◌≤◌, ◌<◌}
use native.Mathlib.Omega.{arith}
use lib.ListN.{length}
use Rattle.model.specs.Bytes.{Bytes}
use Rattle.store_check.specs.Tag.{word_at, turned, joined, by_words}

-- one word more
joined_more : (h : ℕ) (f : ℕ → ℕ) (n m : ℕ) → m ≡ suc n → joined h f m ≡ turned (joined h f n) (f n)
unfolding joined
joined_more h f n m e = ap (joined h f) e

-- the first i bytes, four by four
pub record Wordwise (p : Bytes) (h i : ℕ) : Type 0 where
  pub below : i < length p
  pub fours : i % 4 ≡ 0
  pub made : h ≡ joined (length p % 65536) (λ j. word_at p (4 * j)) (i / 4)

pub words_none : (p : Bytes) → 4 ≤ length p → Wordwise p (length p % 65536) 0
unfolding joined
words_none p l = record { below = omega arith; fours = refl; made = refl }

module _ {p : Bytes} {h i : ℕ} (at : Wordwise p h i) where
  pub words_more : (w g : ℕ) → i < length p - 4 → w ≡ word_at p i → g ≡ turned h w → Wordwise p g (i + 4)
  words_more w g l e f =
      let q : 4 * (i / 4) ≡ i = omega (arith, at.fours) in
      record {
        below = omega arith;
        fours = omega (arith, at.fours);
        made = f ∙ ap₂ turned at.made (e ∙ ap (word_at p) (sym q)) ∙ sym (joined_more (length p % 65536) (λ j. word_at p (4 * j)) (i / 4) ((i + 4) / 4) (omega arith));
      }

  pub words_all : (w g : ℕ) → length p - 4 ≤ i → w ≡ word_at p (length p - 4) → g ≡ turned h w → g ≡ by_words p
  words_all w g l e f =
      let q : i / 4 ≡ (length p - 1) / 4 = omega (arith, at.fours, at.below) in
      f ∙ ap₂ turned (at.made ∙ ap (joined (length p % 65536) (λ j. word_at p (4 * j))) q) e
