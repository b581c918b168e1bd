-- Laws of lines: the line at a place is the first of those that follow it, and its value is what it says. Assumes nothing.
use Prim.Native.Nat.{ℕ, zero, suc, ◌+◌, ◌-◌, ◌≤◌, ◌<◌}
use mathlib.Core.Path.{◌≡◌, refl, sym, ap, ◌∙◌}
use mathlib.Core.List.{List, [], ◌∷◌}
use mathlib.Core.Bool.{Bool, true, false, cond}
use mathlib.Core.Option.{none, some}
use native.Mathlib.Omega.{arith}
use lib.Dec.{ltb, eqb}
use lib.ListN.{length, take, drop, length-take}
use lib.Seq.{drop-drop, take-nil}
use borrow.Author.Tests.{ltb-true}
use Rattle.model.specs.Bytes.{Bytes}
use Rattle.model.proofs.Basics.{none_some, some_inj}
use Rattle.names.specs.Places.{index_of}
use Rattle.lines.specs.Lines.{whole, cut, onto_line, lines, starts, said}
use Rattle.lines.specs.Places.{Part, text_at, past, line_len, value_at}
use Rattle.lines.proofs.PlaceLaws.{starts_long}

-- The first line of some bytes: it ends at the first newline, or nowhere
pub first_line : (s : Bytes) → index_of 10 s < length s → lines s ≡ whole (take (index_of 10 s) s) ∷ lines (drop (suc (index_of 10 s)) s)
unfolding index_of lines
first_line [] h = absurd (omega arith)
first_line (b ∷ s) h = go (eqb b 10) refl (first_line s) h
  where
    go : (t : Bool) → eqb b 10 ≡ t → (index_of 10 s < length s → lines s ≡ whole (take (index_of 10 s) s) ∷ lines (drop (suc (index_of 10 s)) s)) → cond t zero (suc (index_of 10 s)) < suc (length s) →
        cond t (whole [] ∷ lines s) (onto_line b (lines s)) ≡ whole (take (cond t zero (suc (index_of 10 s))) (b ∷ s)) ∷ lines (drop (suc (cond t zero (suc (index_of 10 s)))) (b ∷ s))
    go true e ih k = refl
    go false e ih k = ap (onto_line b) (ih (omega arith))

pub no_first_line : (s : Bytes) → 0 < length s → length s ≤ index_of 10 s → lines s ≡ cut ∷ []
unfolding index_of lines
no_first_line [] g h = absurd (omega arith)
no_first_line (b ∷ s) g h = go (eqb b 10) refl (no_first_line s) h
  where
    rest : (l : Bytes) → (0 < length l → length l ≤ index_of 10 l → lines l ≡ cut ∷ []) → length l ≤ index_of 10 l → onto_line b (lines l) ≡ cut ∷ []
    rest [] ih k = refl
    rest (x ∷ l) ih k = ap (onto_line b) (ih (omega arith) k)

    go : (t : Bool) → eqb b 10 ≡ t → (0 < length s → length s ≤ index_of 10 s → lines s ≡ cut ∷ []) → suc (length s) ≤ cond t zero (suc (index_of 10 s)) →
        cond t (whole [] ∷ lines s) (onto_line b (lines s)) ≡ cut ∷ []
    go true e ih k = absurd (omega arith)
    go false e ih k = rest s ih (omega arith)

-- the rest of a line after its key
drop_take : {A : Type 0} (k n : ℕ) (l : List A) → drop k (take n l) ≡ take (n - k) (drop k l)
drop_take zero n l =
    let q : n - 0 ≡ n = omega arith in
    rw q
drop_take (suc k) zero l =
    let q : 0 - suc k ≡ 0 = omega arith in
    rw q
drop_take (suc k) (suc n) [] = sym (take-nil (suc n - suc k))
drop_take (suc k) (suc n) (x ∷ l) =
    let q : suc n - suc k ≡ n - k = omega arith in
    rw q (drop_take k n l)

-- the line at a place where a key's value stands
pub record Stands (key s : Bytes) (at : ℕ) (p : Part) : Type 0 where
  pub text : Bytes
  pub says : said key text ≡ some (text_at s p)
  pub first : lines (drop at s) ≡ whole text ∷ lines (drop (past p) s)

module _ (key s : Bytes) (at : ℕ) where
  said_there : {p : Part} → ltb (line_len s at) (length (drop at s)) ≡ true → starts key (take (line_len s at) (drop at s)) ≡ true → at + length key ≡ p.at → line_len s at - length key ≡ p.len → Stands key s at p
  unfolding said
  said_there {p} f g a l =
      let k = starts_long key (take (line_len s at) (drop at s)) g in
      let m : length (take (line_len s at) (drop at s)) ≤ line_len s at = rw length-take (omega arith) in
      let q : at + suc (line_len s at) ≡ p.at + p.len + 1 = omega (arith, k, m) in
      record {
        text = take (line_len s at) (drop at s);
        says = rw g (ap some (drop_take (length key) (line_len s at) (drop at s) ∙ rw (drop-drop (length key) at s, a, l)));
        first = first_line (drop at s) (ltb-true (line_len s at) (length (drop at s)) f)
            ∙ ap (λ (j : Bytes). whole (take (line_len s at) (drop at s)) ∷ lines j) (drop-drop (suc (line_len s at)) at s ∙ ap (λ (j : ℕ). drop j s) q);
      }

  pub stands : {p : Part} → value_at key s at ≡ some p → Stands key s at p
  unfolding value_at
  stands {p} e = go (ltb (line_len s at) (length (drop at s))) refl (starts key (take (line_len s at) (drop at s))) refl e
    where
      go : (t : Bool) → ltb (line_len s at) (length (drop at s)) ≡ t → (u : Bool) → starts key (take (line_len s at) (drop at s)) ≡ u →
          cond t (cond u (some (record { at = at + length key; len = line_len s at - length key })) none) none ≡ some p → Stands key s at p
      go false f u g q = none_some p q
      go true f false g q = none_some p q
      go true f true g q =
          let i = some_inj (record { at = at + length key; len = line_len s at - length key }) p q in
          said_there f g (ap (λ (x : Part). x.at) i) (ap (λ (x : Part). x.len) i)

  -- no value stands there: the lines end, or the first is not ended, or it does not begin with the key
  pub no_said : (l : Bytes) → starts key l ≡ false → said key l ≡ none
  unfolding said
  no_said l e = rw e
