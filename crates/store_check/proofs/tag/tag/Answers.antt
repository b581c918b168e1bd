-- `store_check::tag::tag` meets its contract: the word of a short path is made of its bytes, that of another of words. Assumes nothing.
use borrow.Author.Tests.{lt-ltb, le-ltb, le-leb, lt-leb}
use mathlib.Core.Path.{◌≡◌, refl, sym, ap, ◌∙◌}
use Prim.Native.Nat.{ℕ, ◌≤◌, ◌<◌}
use native.Mathlib.Omega.{arith}
use lib.ListN.{length}
use Rattle.model.specs.Bytes.{Bytes}
use Rattle.store_check.specs.Tag.{by_bytes, by_four, by_words, spread_of, tag_of}
use Rattle.store_check.proofs.tag.tag.Goals as goal
use Rattle.store_check.proofs.tag.tag.Goals.{in-0-to-3, in-4-to-16, in_default}

module _ (p : Bytes) (h r : ℕ) (f : r ≡ spread_of h) where
  few : length p < 4 → h ≡ by_bytes p → r ≡ tag_of p
  unfolding tag_of
  few l e = f ∙ ap spread_of (e ∙ sym (rw (lt-ltb (length p) 4 l) refl))

  some : 4 ≤ length p → length p ≤ 16 → h ≡ by_four p → r ≡ tag_of p
  unfolding tag_of
  some l m e = f ∙ ap spread_of (e ∙ sym (rw (le-ltb (length p) 4 l, le-leb (length p) 16 m) refl))

  many : 4 ≤ length p → 16 < length p → h ≡ by_words p → r ≡ tag_of p
  unfolding tag_of
  many l m e = f ∙ ap spread_of (e ∙ sym (rw (le-ltb (length p) 4 l, lt-leb (length p) 16 m) refl))

pub returns : goal.returns
returns c = (
  elim c.if-path-lt4.branch [
    | in-0-to-3 w ↦ few _ _ _ (c.spread.ensures ∙ ap spread_of w.spread-is) (omega arith) w.by_bytes.ensures
    | in-4-to-16 w ↦ some _ _ _ (c.spread.ensures ∙ ap spread_of w.spread-is) (omega arith) (omega arith) w.by_four.ensures
    | in_default w ↦ many _ _ _ (c.spread.ensures ∙ ap spread_of w.spread-is) (omega arith) (omega arith) w.by_words.ensures
  ],
  omega (arith, c.spread.ensures),
)
