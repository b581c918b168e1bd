-- Laws of a gap: what was behind it stands higher, and what is written into it is the run. Assumes nothing.
use mathlib.Core.Path.{◌≡◌, refl, sym, ap, ap₂, ◌∙◌}
use mathlib.Core.List.{List, [], ◌∷◌, ◌++◌, append_assoc}
use Prim.Native.Nat.{ℕ, zero, suc, ◌+◌, ◌-◌, ◌≤◌, ◌<◌}
use native.Mathlib.Omega.{arith}
use lib.ListN.{length, take, drop, get_or, set}
use lib.Seq.{take_at, drop_at, take-add, take-take, drop-drop, length-take-le, get_or-set_same}
use Rattle.names.specs.Splice.{splice}
use Rattle.names.proofs.WriteLaws.{splice_whole, length_splice}
use Rattle.store_runs.specs.Moves.{part}
use Rattle.store_runs.specs.Runs.{total, cut, with_run, Sound}
use Rattle.store_runs.proofs.MoveLaws.{splice_is, length_part, drop_take}
use Rattle.store_runs.proofs.RunLaws.{total_within, before, behind, before_length, lens_after, edited, edited_sum, splice_view, with_same}

-- two changes of one run, one after the other
pub with_twice : (f g : List ℕ → List ℕ) (rs : List (List ℕ)) (k : ℕ) → with_run k f (with_run k g rs) ≡ with_run k (λ (l : List ℕ). f (g l)) rs
unfolding with_run
with_twice f g [] k = refl
with_twice f g (r ∷ rs) zero = refl
with_twice f g (r ∷ rs) (suc k) = ap (λ (x : List (List ℕ)). r ∷ x) (with_twice f g rs k)

module _ (lens bytes : List ℕ) (used k : ℕ) (ok : Sound lens bytes used) (h : k < length lens) (z : get_or lens k 0 ≡ 0) (n : ℕ) (room : used + n ≤ length bytes) where
  abbrev a : ℕ
  a = total (take k lens)

  pub start_in : total (take k lens) ≤ used
  start_in = omega (arith, total_within lens k h, ok.sum)

  abbrev gap : List ℕ
  gap = part bytes a n

  gap_length : length gap ≡ n
  gap_length = length_part bytes a n (omega (arith, start_in))

  before_is : before lens bytes used k ok h ≡ take a bytes
  before_is = take-take a used bytes start_in

  behind_is : behind lens bytes used k ok h ≡ part bytes a (used - a)
  behind_is =
      let e : a + get_or lens k 0 ≡ a = omega (arith, z) in
      ap (λ (x : ℕ). drop x (take used bytes)) e ∙ drop_take a used bytes start_in ok.fits

  pub lens_place : total (take k (set lens k n)) ≡ total (take k lens)
  lens_place =
      ap (λ (l : List ℕ). total (take k l)) (lens_after lens bytes used k ok h n)
      ∙ ap total (take_at (take k lens) (n ∷ drop (suc k) lens) k (length-take-le k lens (omega arith)))

  pub lens_there : get_or (set lens k n) k 0 ≡ n
  lens_there = get_or-set_same lens k n 0 h

  pub widen_sum : total (set lens k n) ≡ used + n
  widen_sum = omega (arith, edited_sum lens bytes used k ok h n, z)

  module _ (bytes' : List ℕ) (e : bytes' ≡ splice bytes (total (take k lens) + n) (part bytes (total (take k lens)) (used - total (take k lens)))) where
    stands : bytes' ≡ before lens bytes used k ok h ++ (gap ++ (behind lens bytes used k ok h ++ drop (used + n) bytes))
    stands =
        let l : a + n + length (part bytes a (used - a)) ≡ used + n = omega (arith, length_part bytes a (used - a) (omega (arith, start_in, ok.fits)), start_in) in
        e ∙ splice_is bytes (a + n) (part bytes a (used - a))
        ∙ ap₂ (λ (x : List ℕ) (y : ℕ). x ++ (part bytes a (used - a) ++ drop y bytes)) (take-add a n bytes) l
        ∙ append_assoc (take a bytes) gap (part bytes a (used - a) ++ drop (used + n) bytes)
        ∙ ap₂ (λ (x y : List ℕ). x ++ (gap ++ (y ++ drop (used + n) bytes))) (sym before_is) (sym behind_is)

    gap_there : part bytes' a n ≡ gap
    gap_there =
        ap (λ (l : List ℕ). part l a n) stands
        ∙ ap (take n) (drop_at (before lens bytes used k ok h) (gap ++ (behind lens bytes used k ok h ++ drop (used + n) bytes)) a (before_length lens bytes used k ok h))
        ∙ take_at gap (behind lens bytes used k ok h ++ drop (used + n) bytes) n gap_length

    pub widen_view : cut (set lens k n) bytes' ≡ with_run k (λ (l : List ℕ). part bytes' (total (take k lens)) n) (cut lens bytes)
    widen_view = edited lens bytes used k ok h (λ (l : List ℕ). part bytes' a n) gap (set lens k n) bytes' (drop (used + n) bytes) gap_there (ap (set lens k) (sym gap_length)) stands

-- a part that comes back with other bytes
pub put_mid_lem : (d s : List ℕ) (a k : ℕ) → length s ≡ k → take a d ++ (s ++ drop k (drop a d)) ≡ splice d a s
put_mid_lem d s a k e =
    ap (λ (x : List ℕ). take a d ++ (s ++ x)) (drop-drop k a d ∙ ap (λ (x : ℕ). drop (a + x) d) (sym e)) ∙ sym (splice_is d a s)

-- what is written over the whole gap is the run
module _ (lens bytes lens' bytes' : List ℕ) (used k n a : ℕ) (ok : Sound lens' bytes' used) (h : k < length lens') (ea : a ≡ total (take k lens')) (en : get_or lens' k 0 ≡ n)
    (c : cut lens' bytes' ≡ with_run k (λ (l : List ℕ). part bytes' a n) (cut lens bytes)) where
  pub gap_fits : a + n ≤ length bytes'
  gap_fits = omega (arith, total_within lens' k h, ok.sum, ok.fits, ea, en)

  pub fill_view : (src bytes'' : List ℕ) → length src ≡ n → bytes'' ≡ splice bytes' a src → cut lens' bytes'' ≡ with_run k (λ (l : List ℕ). src) (cut lens bytes)
  fill_view src bytes'' ls e =
      let place : a ≡ total (take k lens') + 0 = omega (arith, ea) in
      splice_view lens' bytes' used k ok h 0 src bytes'' (omega (arith, ls, en)) (e ∙ ap (λ (x : ℕ). splice bytes' x src) place)
      ∙ ap (with_run k (λ (l : List ℕ). splice l 0 src)) c
      ∙ with_twice (λ (l : List ℕ). splice l 0 src) (λ (l : List ℕ). part bytes' a n) (cut lens bytes) k
      ∙ with_same (λ (l : List ℕ). splice (part bytes' a n) 0 src) (λ (l : List ℕ). src) (cut lens bytes) k (splice_whole (part bytes' a n) src (length_part bytes' a n gap_fits ∙ sym ls))

  pub fill_sound : (src bytes'' : List ℕ) → length src ≡ n → bytes'' ≡ splice bytes' a src → Sound lens' bytes'' used
  fill_sound src bytes'' ls e =
      record { sum = ok.sum; fits = omega (arith, ap length e, length_splice bytes' a src (omega (arith, ls, gap_fits)), ok.fits) }
