-- Laws of the search for a path: a slot that is not the one sought may be passed, so those that are left decide. Assumes nothing.
use mathlib.Core.Path.{◌≡◌, refl, sym, ap, ap₂, ◌∙◌}
use mathlib.Core.Bool.{Bool, true, false, ◌&&◌}
use mathlib.Core.List.{List, [], ◌∷◌}
use Prim.Native.Nat.{ℕ, zero, suc, ◌+◌, ◌≤◌, ◌<◌}
use native.Mathlib.Nat.{le_of_suc-le-suc, not-suc-le-zero}
use native.Mathlib.Numerals.{add-one}
use lib.ListN.{length, take, drop, get_or, drop_of_length-le}
use lib.Seq.{drop-cons, drop-drop}
use Rattle.store_runs.specs.Runs.{total, cut, run_of}
use Rattle.store_runs.specs.Find.{hit, pick, find_from}
use Rattle.std.specs.Prelude.{Some, None}

pub and_false : (b c : Bool) → c ≡ false → false ≡ (b && c)
and_false true c e = sym e
and_false false c e = refl

-- the run k of the view is read where it lies
pub cut_at : (lens bytes : List ℕ) (k : ℕ) → k < length lens → get_or (cut lens bytes) k [] ≡ run_of lens bytes k
unfolding cut total
cut_at [] bytes k h = absurd (not-suc-le-zero h)
cut_at (n ∷ lens) bytes zero h = refl
cut_at (n ∷ lens) bytes (suc k) h =
    cut_at lens (drop n bytes) k (le_of_suc-le-suc h) ∙ ap (take (get_or lens k 0)) (drop-drop (total (take k lens)) n bytes)

-- a turn of the search
pub find_step : (i : ℕ) (ds : List ℕ) (rs : List (List ℕ)) (p : List ℕ) → i < length ds → i < length rs
    → find_from i (drop i ds) (drop i rs) p ≡ pick (hit (get_or ds i 0) (get_or rs i []) p) (Some i) (find_from (i + 1) (drop (i + 1) ds) (drop (i + 1) rs) p)
unfolding find_from
find_step i ds rs p h k =
    ap₂ (λ (x : List ℕ) (y : List (List ℕ)). find_from i x y p) (drop-cons ds i 0 h) (drop-cons rs i [] k)
    ∙ ap (λ (m : ℕ). pick (hit (get_or ds i 0) (get_or rs i []) p) (Some i) (find_from (i + 1) (drop m ds) (drop m rs) p)) (sym (add-one i))

pub find_end : (i : ℕ) (ds : List ℕ) (rs : List (List ℕ)) (p : List ℕ) → length ds ≤ i → find_from i (drop i ds) rs p ≡ None
unfolding find_from
find_end i ds rs p h = ap (λ (l : List ℕ). find_from i l rs p) (drop_of_length-le ds h)
