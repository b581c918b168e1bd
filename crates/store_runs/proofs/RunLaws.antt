-- Laws of runs: how the view goes over `++`, and what an edit of one run leaves. Assumes nothing.
use mathlib.Core.Path.{◌≡◌, refl, sym, ap, ap₂, ◌∙◌}
use mathlib.Core.List.{List, [], ◌∷◌, ◌++◌, append_assoc, append-nil}
use Prim.Native.Nat.{ℕ, zero, suc, ◌+◌, ◌-◌, ◌≤◌, ◌<◌}
use native.Mathlib.Nat.{zero-add}
use native.Mathlib.Numerals.{add-one}
use native.Mathlib.Omega.{arith}
use lib.ListN.{length, take, drop, get_or, set, replicate, length-append, take-append-drop, length-drop}
use lib.Seq.{set-get_or, take_at, drop_at, set_at, length-take-le, take-suc, drop-drop, take-append-le, drop-append-le, split_at}
use Rattle.std.specs.List.{sum}
use Rattle.std.proofs.lemmas.List.Sums.{sum_by-cons}
use Rattle.names.specs.Splice.{splice}
use Rattle.names.proofs.WriteLaws.{length_splice}
use Rattle.store_runs.specs.Moves.{inserted, removed, over}
use Rattle.store_runs.proofs.MoveLaws.{length_inserted, length_removed, splice_inner}
use Rattle.store_runs.specs.Runs.{total, cut, with_run, Sound}

pub total_append : (a b : List ℕ) → total (a ++ b) ≡ total a + total b
unfolding total
total_append [] b = sym (zero-add (total b))
total_append (n ∷ a) b = let h : total (a ++ b) ≡ total a + total b = total_append a b in omega arith

-- the library's sum
pub total_sum : (l : List ℕ) → total l ≡ sum l
unfolding total
total_sum [] = refl
total_sum (n ∷ l) = ap (λ (m : ℕ). n + m) (total_sum l) ∙ sym (sum_by-cons (λ (x : ℕ). x) n l)

-- a front's is at most the whole's
pub total_front : (l : List ℕ) (k : ℕ) → total (take k l) ≤ total l
total_front l k = omega (arith, ap total (take-append-drop k l), total_append (take k l) (drop k l))

-- one length more, as a loop has it
pub total_more : (l : List ℕ) (i : ℕ) → i < length l → total (take (i + 1) l) ≡ total (take i l) + get_or l i 0
unfolding total
total_more l i h =
    ap (λ (x : ℕ). total (take x l)) (add-one i) ∙ ap total (take-suc l i 0 h) ∙ total_append (take i l) (get_or l i 0 ∷ [])
    ∙ omega arith

-- what stands before and at a place is within the whole
pub total_within : (l : List ℕ) (i : ℕ) → i < length l → total (take i l) + get_or l i 0 ≤ total l
unfolding total
total_within l i h = omega (arith, ap total (split_at l i 0 h), total_append (take i l) (get_or l i 0 ∷ drop (suc i) l))

-- ---- the view

pub cut_append : (a b x y : List ℕ) → length x ≡ total a → cut (a ++ b) (x ++ y) ≡ cut a x ++ cut b y
unfolding cut total
cut_append [] b [] y h = refl
cut_append [] b (z ∷ x) y h = absurd (omega arith)
cut_append (n ∷ a) b x y h =
    let k : n ≤ length x = omega arith in
    let l : length (drop n x) ≡ total a = omega (arith, length-drop n x) in
    let t : take n (x ++ y) ≡ take n x = take-append-le n x y k in
    let d : drop n (x ++ y) ≡ drop n x ++ y = drop-append-le n x y k in
    ap₂ (λ (p : List ℕ) (q : List (List ℕ)). p ∷ q) t (ap (cut (a ++ b)) d ∙ cut_append a b (drop n x) y l)

pub with_mid : (f : List ℕ → List ℕ) (a : List (List ℕ)) (r : List ℕ) (b : List (List ℕ)) (n : ℕ) → length a ≡ n → with_run n f (a ++ (r ∷ b)) ≡ a ++ (f r ∷ b)
unfolding with_run
with_mid f [] r b zero h = refl
with_mid f [] r b (suc n) h = absurd (omega arith)
with_mid f (x ∷ a) r b zero h = absurd (omega arith)
with_mid f (x ∷ a) r b (suc n) h = ap (λ (l : List (List ℕ)). x ∷ l) (with_mid f a r b n (omega arith))

pub length_cut : (a x : List ℕ) → length (cut a x) ≡ length a
unfolding cut
length_cut [] x = refl
length_cut (n ∷ a) x = ap suc (length_cut a (drop n x))

cut_one : (n : ℕ) (b x y : List ℕ) → length x ≡ n → cut (n ∷ b) (x ++ y) ≡ x ∷ cut b y
unfolding cut
cut_one n b x y h = ap₂ (λ (p : List ℕ) (q : List ℕ). p ∷ cut b q) (take_at x y n h) (drop_at x y n h)

pub cut_mid : (a : List ℕ) (n : ℕ) (b x r y : List ℕ) → length x ≡ total a → length r ≡ n → cut (a ++ (n ∷ b)) (x ++ (r ++ y)) ≡ cut a x ++ (r ∷ cut b y)
cut_mid a n b x r y h k = cut_append a (n ∷ b) x (r ++ y) h ∙ ap (λ (q : List (List ℕ)). cut a x ++ q) (cut_one n b r y k)

-- bytes past the end of the runs do not count
pub cut_spare : (b y z : List ℕ) → length y ≡ total b → cut b (y ++ z) ≡ cut b y
unfolding cut
cut_spare b y z h = ap (λ (l : List ℕ). cut l (y ++ z)) (sym (append-nil b)) ∙ cut_append b [] y z h ∙ append-nil (cut b y)

-- ---- an edit of one run: x before it, r itself, y after it

module _ (lens bytes : List ℕ) (used k : ℕ) (ok : Sound lens bytes used) (h : k < length lens) where
  abbrev a : List ℕ
  a = take k lens

  abbrev n : ℕ
  n = get_or lens k 0

  abbrev b : List ℕ
  b = drop (suc k) lens

  abbrev all : List ℕ
  all = take used bytes

  abbrev pub before : List ℕ
  before = take (total a) all

  abbrev pub here : List ℕ
  here = take n (drop (total a) all)

  abbrev pub behind : List ℕ
  behind = drop (total a + n) all

  lens_is : lens ≡ a ++ (n ∷ b)
  lens_is = split_at lens k 0 h

  sum_is : total a + n + total b ≡ used
  unfolding total
  sum_is = omega (arith, ap total lens_is, total_append a (n ∷ b), ok.sum)

  all_length : length all ≡ used
  all_length = length-take-le used bytes ok.fits

  pub all_is : all ≡ before ++ (here ++ behind)
  all_is =
      sym (take-append-drop (total a) all)
      ∙ ap (λ (l : List ℕ). before ++ l) (sym (take-append-drop n (drop (total a) all)) ∙ ap (λ (l : List ℕ). here ++ l) (drop-drop n (total a) all))

  pub before_length : length before ≡ total a
  before_length = length-take-le (total a) all (omega (arith, sum_is, all_length))

  pub here_length : length here ≡ n
  here_length = length-take-le n (drop (total a) all) (omega (arith, sum_is, all_length, length-drop (total a) all))

  behind_length : length behind ≡ total b
  behind_length = omega (arith, sum_is, all_length, length-drop (total a + n) all)

  bytes_is : bytes ≡ before ++ (here ++ (behind ++ drop used bytes))
  bytes_is = sym (take-append-drop used bytes) ∙ ap (λ (l : List ℕ). l ++ drop used bytes) all_is ∙ simp append_assoc

  pub view_is : cut lens bytes ≡ cut a before ++ (here ∷ cut b behind)
  view_is =
      ap₂ cut lens_is bytes_is ∙ cut_mid a n b before here (behind ++ drop used bytes) before_length here_length
      ∙ ap (λ (l : List (List ℕ)). cut a before ++ (here ∷ l)) (cut_spare b behind (drop used bytes) behind_length)

  a_length : length (cut a before) ≡ k
  a_length = length_cut a before ∙ length-take-le k lens (omega arith)

  pub lens_after : (m : ℕ) → set lens k m ≡ a ++ (m ∷ b)
  lens_after m = ap (λ (l : List ℕ). set l k m) lens_is ∙ set_at a n b m k (length-take-le k lens (omega arith))

  -- one law for every edit: the run's new bytes stand between what was before it and what was behind it
  pub edited : (f : List ℕ → List ℕ) (r' lens' bytes' z : List ℕ) → f here ≡ r' → lens' ≡ set lens k (length r') → bytes' ≡ before ++ (r' ++ (behind ++ z))
      → cut lens' bytes' ≡ with_run k f (cut lens bytes)
  edited f r' lens' bytes' z e hl hb =
      ap₂ cut (hl ∙ lens_after (length r')) hb ∙ cut_mid a (length r') b before r' (behind ++ z) before_length refl
      ∙ ap (λ (l : List (List ℕ)). cut a before ++ (r' ∷ l)) (cut_spare b behind z behind_length)
      ∙ ap (λ (l : List ℕ). cut a before ++ (l ∷ cut b behind)) (sym e)
      ∙ sym (with_mid f (cut a before) here (cut b behind) k a_length)
      ∙ ap (with_run k f) (sym view_is)

  pub edited_sum : (m : ℕ) → total (set lens k m) + n ≡ used + m
  unfolding total
  edited_sum m = omega (arith, ap total (lens_after m), total_append a (m ∷ b), sum_is)

  -- a run of bytes put in
  pub insert_is : (at : ℕ) (src : List ℕ) → at ≤ n → inserted all (total a + at) src ≡ before ++ (inserted here at src ++ behind)
  insert_is at src le =
      let t : length (before ++ take at here) ≡ total a + at =
      omega (arith, length-append before (take at here), before_length, length-take-le at here (omega (arith, here_length))) in
      let e : all ≡ (before ++ take at here) ++ (drop at here ++ behind) =
      all_is ∙ ap (λ (l : List ℕ). before ++ (l ++ behind)) (sym (take-append-drop at here)) ∙ simp append_assoc in
      ap (λ (l : List ℕ). inserted l (total a + at) src) e
      ∙ ap₂ (λ (p q : List ℕ). p ++ (src ++ q)) (take_at (before ++ take at here) (drop at here ++ behind) (total a + at) t) (drop_at (before ++ take at here) (drop at here ++ behind) (total a + at) t)
      ∙ simp append_assoc

  pub remove_is : (at m : ℕ) → at + m ≤ n → removed all (total a + at) m ≡ before ++ (removed here at m ++ behind)
  remove_is at m le =
      let s : total a + at + m ≡ total a + (at + m) = omega arith in
      let t : length (before ++ take at here) ≡ total a + at =
      omega (arith, length-append before (take at here), before_length, length-take-le at here (omega (arith, here_length))) in
      let e : all ≡ (before ++ take at here) ++ (drop at here ++ behind) =
      all_is ∙ ap (λ (l : List ℕ). before ++ (l ++ behind)) (sym (take-append-drop at here)) ∙ simp append_assoc in
      let u : length (before ++ take (at + m) here) ≡ total a + at + m =
      omega (arith, length-append before (take (at + m) here), before_length, length-take-le (at + m) here (omega (arith, here_length))) in
      let f : all ≡ (before ++ take (at + m) here) ++ (drop (at + m) here ++ behind) =
      all_is ∙ ap (λ (l : List ℕ). before ++ (l ++ behind)) (sym (take-append-drop (at + m) here)) ∙ simp append_assoc in
      ap₂ (λ (p q : List ℕ). p ++ q)
      (ap (take (total a + at)) e ∙ take_at (before ++ take at here) (drop at here ++ behind) (total a + at) t)
      (ap (drop (total a + at + m)) f ∙ drop_at (before ++ take (at + m) here) (drop (at + m) here ++ behind) (total a + at + m) u)
      ∙ simp append_assoc

  pub insert_view : (at : ℕ) (src bytes' : List ℕ) → at ≤ n → bytes' ≡ over bytes (inserted all (total a + at) src)
      → cut (set lens k (n + length src)) bytes' ≡ with_run k (λ (l : List ℕ). inserted l at src) (cut lens bytes)
  insert_view at src bytes' le e =
      let m : n + length src ≡ length (inserted here at src) = sym (length_inserted here at src (omega (arith, here_length)) ∙ ap (λ (x : ℕ). x + length src) here_length) in
      edited (λ (l : List ℕ). inserted l at src) (inserted here at src) (set lens k (n + length src)) bytes' (drop (length (inserted all (total a + at) src)) bytes) refl
      (ap (set lens k) m) (e ∙ ap (λ (l : List ℕ). l ++ drop (length (inserted all (total a + at) src)) bytes) (insert_is at src le) ∙ simp append_assoc)

  pub remove_view : (at m : ℕ) (bytes' : List ℕ) → at + m ≤ n → bytes' ≡ over bytes (removed all (total a + at) m)
      → cut (set lens k (n - m)) bytes' ≡ with_run k (λ (l : List ℕ). removed l at m) (cut lens bytes)
  remove_view at m bytes' le e =
      let w : n - m ≡ length (removed here at m) = sym (length_removed here at m (omega (arith, here_length)) ∙ ap (λ (x : ℕ). x - m) here_length) in
      edited (λ (l : List ℕ). removed l at m) (removed here at m) (set lens k (n - m)) bytes' (drop (length (removed all (total a + at) m)) bytes) refl
      (ap (set lens k) w) (e ∙ ap (λ (l : List ℕ). l ++ drop (length (removed all (total a + at) m)) bytes) (remove_is at m le) ∙ simp append_assoc)

  -- a part of the run overwritten
  pub splice_view : (at : ℕ) (src bytes' : List ℕ) → at + length src ≤ n → bytes' ≡ splice bytes (total a + at) src → cut lens bytes' ≡ with_run k (λ (l : List ℕ). splice l at src) (cut lens bytes)
  splice_view at src bytes' le e =
      let fit : at + length src ≤ length here = omega (arith, here_length) in
      let m : n ≡ length (splice here at src) = sym (length_splice here at src fit ∙ here_length) in
      edited (λ (l : List ℕ). splice l at src) (splice here at src) lens bytes' (drop used bytes) refl
      (sym (ap (set lens k) (sym m) ∙ set-get_or lens k 0))
      (e ∙ ap (λ (l : List ℕ). splice l (total a + at) src) bytes_is ∙ splice_inner before here (behind ++ drop used bytes) (total a) at src before_length fit)

-- ---- the other runs stay

pub with_same : (f g : List ℕ → List ℕ) (rs : List (List ℕ)) (k : ℕ) → f (get_or rs k []) ≡ g (get_or rs k []) → with_run k f rs ≡ with_run k g rs
unfolding with_run
with_same f g [] k h = refl
with_same f g (r ∷ rs) zero h = ap (λ (x : List ℕ). x ∷ rs) h
with_same f g (r ∷ rs) (suc k) h = ap (λ (x : List (List ℕ)). r ∷ x) (with_same f g rs k h)

pub with_other : (f : List ℕ → List ℕ) (rs : List (List ℕ)) (k j : ℕ) → (j ≡ k → ⊥) → get_or (with_run k f rs) j [] ≡ get_or rs j []
unfolding with_run
with_other f [] k j h = refl
with_other f (r ∷ rs) zero zero h = absurd (h refl)
with_other f (r ∷ rs) zero (suc j) h = refl
with_other f (r ∷ rs) (suc k) zero h = refl
with_other f (r ∷ rs) (suc k) (suc j) h = with_other f rs k j (λ e. h (ap suc e))

-- ---- no run has a byte

pub total_none : (n : ℕ) → total (replicate n 0) ≡ 0
unfolding total
total_none zero = refl
total_none (suc n) = let h : total (replicate n 0) ≡ 0 = total_none n in omega arith

pub cut_none : (n : ℕ) (b : List ℕ) → cut (replicate n 0) b ≡ replicate n []
unfolding cut
cut_none zero b = refl
cut_none (suc n) b = ap (λ (x : List (List ℕ)). [] ∷ x) (cut_none n b)
