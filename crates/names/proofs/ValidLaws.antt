-- Laws of valid paths: a component ends at a slash or at the end of the path, so it is enough to look at its length there. Assumes nothing.
use Prim.Native.Nat.{ℕ, zero, suc, ◌+◌, ◌-◌, ◌≤◌, ◌<◌}
use mathlib.Core.Path.{◌≡◌, refl, sym, ap, subst, ◌∙◌}
use mathlib.Core.List.{List, [], ◌∷◌}
use mathlib.Core.Bool.{Bool, true, false, not, ◌||◌, true≢false}
use native.Mathlib.Nat.{zero-add}
use native.Mathlib.Numerals.{add-one}
use native.Mathlib.Omega.{arith}
use lib.Dec.{eqb, leb, ltb}
use lib.ListN.{length, get_or, take, drop, drop_of_length-le}
use lib.Seq.{drop-cons}
use borrow.Author.Tests.{ne_eqb, lt-ltb, le-ltb, le-leb, lt-leb, leb-true, leb-false}
use Rattle.model.specs.Bytes.{Bytes, has, is_nil}
use Rattle.model.specs.Paths.{onto_first, pieces, some_long, some_empty, refused, valid_path}
use Rattle.model.proofs.Basics.{or_true}
use Rattle.model.proofs.ByteLaws.{by_same, by_other, has_here, has_past}
use Rattle.model.proofs.PathLaws.{pieces_some}
use Rattle.names.proofs.RefusalLaws.{or_false}
use Rattle.names.proofs.StandingLaws.{no_slash, no_nul}
use Rattle.names.specs.Check.{plain}

-- no component has that many bytes
abbrev pub bad_len : ℕ → Bool
bad_len n = eqb n 0 || not (leb n 255)

-- whether a piece has a bad length, where r bytes of the first have passed
abbrev bad_pieces : ℕ → List Bytes → Bool
bad_pieces r [] = bad_len r
bad_pieces r (c ∷ cs) = bad_len (r + length c) || (some_empty cs || some_long cs)

-- a path has a NUL, or a piece of a bad length
abbrev pub bad_path : Bytes → Bool
bad_path p = has 0 p || (some_empty (pieces p) || some_long (pieces p))

-- the same of bytes, where r bytes of the first piece have passed
unfoldable pub bad_from : ℕ → Bytes → Bool
bad_from r bs = has 0 bs || bad_pieces r (pieces bs)

pub over_is : (n : ℕ) → ltb 255 n ≡ not (leb n 255)
over_is n = go (leb n 255) refl
  where
    go : (t : Bool) → leb n 255 ≡ t → ltb 255 n ≡ not t
    go true e = le-ltb 255 n (leb-true n 255 e)
    go false e = lt-ltb 255 n (leb-false n 255 e)

or_swap : (a b c : Bool) → (a || (b || c)) ≡ (b || (a || c))
or_swap true b c = sym (or_true b)
or_swap false b c = refl

bad_onto : (r b : ℕ) (cs : List Bytes) → bad_pieces r (onto_first b cs) ≡ bad_pieces (suc r) cs
bad_onto r b [] =
    let e : r + 1 ≡ suc r = omega arith in
    or_false (bad_len (r + 1)) ∙ ap bad_len e
bad_onto r b (c ∷ cs) =
    let e : r + suc (length c) ≡ suc r + length c = omega arith in
    ap (λ (n : ℕ). bad_len n || (some_empty cs || some_long cs)) e

bad_all : (cs : List Bytes) → is_nil cs ≡ false → bad_pieces 0 cs ≡ (some_empty cs || some_long cs)
bad_all [] h = absurd (let z : ◌≡◌ {A = ℕ} 0 1 = cc in omega arith)
bad_all ([] ∷ cs) h = refl
bad_all ((b ∷ bs) ∷ cs) h = rw (zero-add (length (b ∷ bs)), ne_eqb (length (b ∷ bs)) 0 (λ e. omega arith)) (or_swap (not (leb (length (b ∷ bs)) 255)) (some_empty cs) (some_long cs))

bad_is : (p : Bytes) → bad_from 0 p ≡ bad_path p
unfolding bad_from
bad_is p = ap (λ (z : Bool). has 0 p || z) (bad_all (pieces p) (pieces_some p))

bad_end : (r : ℕ) → bad_from r [] ≡ bad_len r
unfolding bad_from
bad_end r =
    let e : r + 0 ≡ r = omega arith in
    or_false (bad_len (r + 0)) ∙ ap bad_len e

bad_nul : (r b : ℕ) (bs : Bytes) → b ≡ 0 → bad_from r (b ∷ bs) ≡ true
unfolding bad_from
bad_nul r b bs e = rw (has_here 0 b bs e)

bad_slash : (r b : ℕ) (bs : Bytes) → b ≡ 47 → bad_from r (b ∷ bs) ≡ (bad_len r || bad_from 0 bs)
unfolding bad_from
bad_slash r b bs e =
    let k : r + 0 ≡ r = omega arith in
    let n : has 0 (b ∷ bs) ≡ has 0 bs = has_past 0 b bs (omega arith) in
    let q : pieces (b ∷ bs) ≡ [] ∷ pieces bs = by_same b 47 (onto_first b (pieces bs)) ([] ∷ pieces bs) e in
    rw (n, q, k, bad_all (pieces bs) (pieces_some bs)) (or_swap (has 0 bs) (bad_len r) (some_empty (pieces bs) || some_long (pieces bs)))

bad_other : (r b : ℕ) (bs : Bytes) → (b ≡ 0 → ⊥) → (b ≡ 47 → ⊥) → bad_from r (b ∷ bs) ≡ bad_from (suc r) bs
unfolding bad_from
bad_other r b bs z s =
    let q : pieces (b ∷ bs) ≡ onto_first b (pieces bs) = by_other b 47 (onto_first b (pieces bs)) ([] ∷ pieces bs) s in
    rw (has_past 0 b bs z, q) (ap (λ (x : Bool). has 0 bs || x) (bad_onto r b (pieces bs)))

bad_past : (i : ℕ) (p : Bytes) (r : ℕ) → i ≤ length p → has 47 (take i p) ≡ false → has 0 (take i p) ≡ false → bad_from r p ≡ bad_from (r + i) (drop i p)
bad_past zero p r h s z =
    let k : r ≡ r + 0 = omega arith in
    ap (λ (n : ℕ). bad_from n p) k
bad_past (suc i) [] r h s z = absurd (omega arith)
bad_past (suc i) (b ∷ p) r h s z =
    let x : b ≡ 0 → ⊥ = λ e. true≢false (sym (has_here 0 b (take i p) e) ∙ z) in
    let y : b ≡ 47 → ⊥ = λ e. true≢false (sym (has_here 47 b (take i p) e) ∙ s) in
    let k : suc r + i ≡ r + suc i = omega arith in
    bad_other r b p x y ∙ bad_past i p (suc r) (omega arith) (sym (has_past 47 b (take i p) y) ∙ s) (sym (has_past 0 b (take i p) x) ∙ z) ∙ ap (λ (n : ℕ). bad_from n (drop i p)) k

-- at place i of a path, in a component that begins at s
pub record Parting (p : Bytes) (s i : ℕ) : Type 0 where
  pub within : i ≤ length p
  pub begun : s ≤ i
  pub rest : bad_path p ≡ bad_from (i - s) (drop i p)

-- it begins past bytes that are neither slash nor NUL
pub part_front : (p : Bytes) (i : ℕ) → i ≤ length p → plain (take i p) ≡ true → Parting p 0 i
part_front p i h e =
    let k : 0 + i ≡ i - 0 = omega arith in
    record {
      within = h;
      begun = omega arith;
      rest = sym (bad_is p) ∙ bad_past i p 0 h (no_slash (take i p) e) (no_nul (take i p) e) ∙ ap (λ (r : ℕ). bad_from r (drop i p)) k;
    }

module _ {p : Bytes} {s i : ℕ} (at : Parting p s i) where
  pub part_end : length p ≤ i → {t : Bool} → t ≡ bad_len (i - s) → t ≡ bad_path p
  part_end h e = e ∙ sym (at.rest ∙ rw (drop_of_length-le p h) (bad_end (i - s)))

  module _ (h : i < length p) where
    pub part_nul : get_or p i 0 ≡ 0 → true ≡ bad_path p
    part_nul e = sym (at.rest ∙ rw (drop-cons p i 0 h) (bad_nul (i - s) (get_or p i 0) (drop (suc i) p) e))

    pub part_other : {t : ℕ} → t ≡ s → (get_or p i 0 ≡ 0 → ⊥) → (get_or p i 0 ≡ 47 → ⊥) → Parting p t (i + 1)
    part_other e z n =
        let k : suc (i - s) ≡ i + 1 - s = omega (arith, at.begun) in
        subst (λ (t : ℕ). Parting p t (i + 1)) (sym e)
        record {
          within = omega arith;
          begun = omega (arith, at.begun);
          rest = at.rest ∙ rw (add-one, drop-cons p i 0 h) (bad_other (i - s) (get_or p i 0) (drop (suc i) p) z n) ∙ ap (λ (r : ℕ). bad_from r (drop (i + 1) p)) k;
        }

    module _ (e : get_or p i 0 ≡ 47) {t : Bool} (et : t ≡ bad_len (i - s)) where
      step : bad_path p ≡ (t || bad_from 0 (drop (i + 1) p))
      step = at.rest ∙ rw (et, add-one, drop-cons p i 0 h) (bad_slash (i - s) (get_or p i 0) (drop (suc i) p) e)

      pub part_bad : t ≡ true → true ≡ bad_path p
      part_bad g = sym (step ∙ rw g)

      pub part_next : t ≡ false → {u : ℕ} → u ≡ i + 1 → Parting p u (i + 1)
      part_next g q =
          let k : 0 ≡ i + 1 - (i + 1) = omega arith in
          subst (λ (u : ℕ). Parting p u (i + 1)) (sym q)
          record { within = omega arith; begun = omega arith; rest = step ∙ rw g (ap (λ (r : ℕ). bad_from r (drop (i + 1) p)) k) }

-- the empty path is not valid
-- a path is valid where it has nothing bad and is not too long
pub valid_long : (p : Bytes) → 1024 < length p → false ≡ valid_path p
unfolding valid_path refused
valid_long [] h = absurd (omega arith)
valid_long (b ∷ bs) h = rw (lt-leb (length (b ∷ bs)) 1024 h, or_true (has 0 (b ∷ bs) || some_long (pieces (b ∷ bs))), or_true (some_empty (pieces (b ∷ bs))))

pub valid_short : (p : Bytes) → length p ≤ 1024 → {r : Bool} → r ≡ bad_path p → not r ≡ valid_path p
unfolding valid_path refused
valid_short [] h e = rw e
valid_short (b ∷ bs) h e = rw (e, le-leb (length (b ∷ bs)) 1024 h, or_false (has 0 (b ∷ bs) || some_long (pieces (b ∷ bs)))) (ap not (or_swap (has 0 (b ∷ bs)) (some_empty (pieces (b ∷ bs))) (some_long (pieces (b ∷ bs)))))
