-- One slot is kept of all: its path and its tree are the only runs, and the layout's rules hold of them. Assumes nothing.
use mathlib.Core.Path.{◌≡◌, refl, sym, ap, ap₂, ◌∙◌, subst}
use mathlib.Core.Bool.{Bool, true, false}
use mathlib.Core.List.{List, [], ◌∷◌, ◌++◌, map}
use Prim.Native.Nat.{ℕ, zero, suc, ◌+◌, ◌≤◌, ◌<◌}
use native.Mathlib.Omega.{arith}
use lib.Dec.{eqb}
use borrow.Author.Tests.{eqb-true, eqb-false}
use lib.ListN.{length, take, drop, get_or, set, length-drop, replicate, length-replicate, get_or-replicate}
use lib.Seq.{get_or-set_same, get_or-set_other, take_at, drop_at, take-add, length-take-le}
use Rattle.model.specs.Bytes.{Bytes}
use Rattle.model.specs.Tree.{distinct, name_bytes, well_formed}
use Rattle.model.specs.Editor.{Held, at, entry_count, name_count}
use Rattle.store_slots.proofs.Emptied.{all_free, none_used}
use Rattle.store_runs.specs.Digits.{digits}
use Rattle.store_runs.specs.Moves.{over}
use Rattle.store_runs.specs.Runs.{cut, total, Sound}
use Rattle.store_runs.proofs.FindLaws.{cut_at}
use Rattle.store_runs.proofs.RunLaws.{length_cut, cut_none, total_none, total_within}
use Rattle.names_compact.specs.Compact.{packed_all, unpack_in, unpack}
use Rattle.store_slots.specs.View.{slots_of, slots, gather, view_of, held_in, Laid, held_at, tree_of}
use Rattle.store_slots.specs.declared.Record.{Record}
use Rattle.store_taken.specs.Taken.{SameTree}

-- ---- one run of all is left

-- the runs of which only the run k has a byte
abbrev pub sole : ℕ → Bytes → List Bytes
sole k x = set (replicate 64 []) k x

cut_sole : (m k n : ℕ) (x rest : List ℕ) → k < m → length x ≡ n → cut (set (replicate m 0) k n) (x ++ rest) ≡ set (replicate m []) k x
unfolding cut
cut_sole zero k n x rest h l = absurd (omega arith)
cut_sole (suc m) zero n x rest h l = ap₂ (λ (a : Bytes) (b : List Bytes). a ∷ b) (take_at x rest n l) (cut_none m (drop n (x ++ rest)))
cut_sole (suc m) (suc k) n x rest h l = ap (λ (b : List Bytes). [] ∷ b) (cut_sole m k n x rest (omega arith) l)

total_sole : (m k n : ℕ) → k < m → total (set (replicate m 0) k n) ≡ n
unfolding total
total_sole zero k n h = absurd (omega arith)
total_sole (suc m) zero n h = let z : total (replicate m 0) ≡ 0 = total_none m in omega (arith, z)
total_sole (suc m) (suc k) n h = let i : total (set (replicate m 0) k n) ≡ n = total_sole m k n (omega arith) in omega (arith, i)

module _ (lens bytes : List ℕ) (used k : ℕ) (s : Sound lens bytes used) (l : length lens ≡ 64) (h : k < 64) where
  abbrev a : ℕ
  a = total (take k lens)

  abbrev n : ℕ
  n = get_or lens k 0

  pub run_within : a + n ≤ length bytes
  run_within = omega (arith, total_within lens k (omega (arith, l)), s.sum, s.fits)

  front_length : length (take a bytes) ≡ a
  front_length = length-take-le a bytes (omega (arith, run_within))

  moved_run : drop a (take (a + n) bytes) ≡ take n (drop a bytes)
  moved_run = ap (drop a) (take-add a n bytes) ∙ drop_at (take a bytes) (take n (drop a bytes)) a front_length

  run_is : take n (drop a bytes) ≡ get_or (cut lens bytes) k []
  run_is = sym (cut_at lens bytes k (omega (arith, l)))

  run_long : length (get_or (cut lens bytes) k []) ≡ n
  run_long = ap length (sym run_is) ∙ length-take-le n (drop a bytes) (omega (arith, run_within, length-drop a bytes))

  pub kept_run : (lens' bytes' : List ℕ) → lens' ≡ set (replicate 64 0) k n → bytes' ≡ over bytes (drop a (take (a + n) bytes)) → cut lens' bytes' ≡ sole k (get_or (cut lens bytes) k [])
  kept_run lens' bytes' el eb =
      let x = get_or (cut lens bytes) k [] in
      ap₂ cut el (eb ∙ ap (over bytes) (moved_run ∙ run_is)) ∙ cut_sole 64 k n x (drop (length x) bytes) h run_long

  pub kept_sound : (lens' bytes' : List ℕ) → lens' ≡ set (replicate 64 0) k n → length bytes' ≡ length bytes → Sound lens' bytes' n
  kept_sound lens' bytes' el eb = record { sum = ap total el ∙ total_sole 64 k n h; fits = omega (arith, eb, run_within) }

-- ---- one slot of all is shown

pub ones_at : (k : ℕ) → k < 64 → get_or (digits 64 0xffff_ffff_ffff_ffff) k 0 ≡ 1
ones_at k h = ap (λ (x : List ℕ). get_or x k 0) all_free ∙ get_or-replicate 64 k 1 0 h

pub one_shown : (w n k : ℕ) (ps bs : List Bytes) → k < n → length ps ≡ n → length bs ≡ n → slots_of w (set (replicate n 1) k 0) ps bs ≡ held_in w (get_or ps k []) (get_or bs k []) ∷ []
unfolding slots_of
one_shown w zero k ps bs h l r = absurd (omega arith)
one_shown w (suc n) k [] bs h l r = absurd (omega arith)
one_shown w (suc n) k (p ∷ ps) [] h l r = absurd (omega arith)
one_shown w (suc n) zero (p ∷ ps) (b ∷ bs) h l r = ap (λ (m : List Held). held_in w p b ∷ m) (none_used w n ps bs)
one_shown w (suc n) (suc k) (p ∷ ps) (b ∷ bs) h l r = one_shown w n k ps bs (omega arith) (omega arith) (omega arith)

-- ---- the layout's rules

module _ (w : ℕ) (r : Record) (plens paths tlens trees : List ℕ) (L : Laid w r plens paths tlens trees) (k : ℕ) (low : k < 64) (q : Record) (plens' paths' tlens' trees' : List ℕ)
    (cp : cut plens' paths' ≡ sole k (get_or (cut plens paths) k [])) (ct : cut tlens' trees' ≡ sole k (get_or (cut tlens trees) k [])) (pl : length plens' ≡ 64) (tl : length tlens' ≡ 64)
    (ef : digits 64 q.free ≡ set (digits 64 0xffff_ffff_ffff_ffff) k 0) where
  in_range : k < length (replicate {A = Bytes} 64 [])
  in_range = omega (arith, length-replicate {A = Bytes} 64 [])

  pub sole_same : SameTree plens paths tlens trees plens' paths' tlens' trees' k
  sole_same = record {
    path = ap (λ (x : List Bytes). get_or x k []) cp ∙ get_or-set_same (replicate 64 []) k (get_or (cut plens paths) k []) [] in_range;
    run = ap (λ (x : List Bytes). get_or x k []) ct ∙ get_or-set_same (replicate 64 []) k (get_or (cut tlens trees) k []) [] in_range;
  }

  other : (j : ℕ) (x : Bytes) (rs : List Bytes) → j < 64 → (j ≡ k → ⊥) → rs ≡ sole k x → get_or rs j [] ≡ []
  other j x rs h n e = ap (λ (y : List Bytes). get_or y j []) e ∙ get_or-set_other (replicate 64 []) k j x [] n ∙ get_or-replicate 64 j [] [] h

  free_is : digits 64 q.free ≡ set (replicate 64 1) k 0
  free_is = ef ∙ ap (λ (x : List ℕ). set x k 0) all_free

  pub sole_digit : get_or (digits 64 q.free) k 0 ≡ 0
  sole_digit = ap (λ (x : List ℕ). get_or x k 0) free_is ∙ get_or-set_same (replicate 64 1) k 0 0 (omega (arith, low, length-replicate {A = ℕ} 64 1))

  sole_slots : slots w q plens' paths' tlens' trees' ≡ held_at w plens paths tlens trees k ∷ []
  sole_slots =
      ap (λ (d : List ℕ). slots_of w d (cut plens' paths') (cut tlens' trees')) free_is
      ∙ one_shown w 64 k (cut plens' paths') (cut tlens' trees') low (length_cut plens' paths' ∙ pl) (length_cut tlens' trees' ∙ tl)
      ∙ ap₂ (λ (y z : Bytes). held_in w y z ∷ []) sole_same.path sole_same.run

  pub sole_view : view_of w q plens' paths' tlens' trees' ≡ held_at w plens paths tlens trees k ∷ []
  unfolding gather
  sole_view = ap gather sole_slots

  abbrev Packed : Bytes → Type 0
  Packed x = x ≡ packed_all (unpack w x)

  abbrev Well : Bytes → Type 0
  Well x = well_formed w (unpack w x) ≡ true

  nothing_packed : Packed []
  unfolding packed_all unpack unpack_in
  nothing_packed = refl

  nothing_well : Well []
  unfolding well_formed unpack unpack_in
  nothing_well = refl

  -- what holds of the run k and of no bytes
  each : (P : Bytes → Type 0) → P (get_or (cut tlens trees) k []) → P [] → (j : ℕ) → j < 64 → (t : Bool) → eqb j k ≡ t → P (get_or (cut tlens' trees') j [])
  each P p n j h true e = subst P (sym (ap (λ (x : ℕ). get_or (cut tlens' trees') x []) (eqb-true j k e) ∙ sole_same.run)) p
  each P p n j h false e = subst P (sym (other j (get_or (cut tlens trees) k []) (cut tlens' trees') h (eqb-false j k e) ct)) n

  pub sole_laid : Sound plens' paths' q.paths → Sound tlens' trees' q.trees → length paths' ≡ length paths → length trees' ≡ length trees →
      q.entries ≡ length (tree_of w tlens trees k) → q.names ≡ name_bytes (tree_of w tlens trees k) → Laid w q plens' paths' tlens' trees'
  sole_laid sp st pb tb ee en = record {
    plens_64 = pl;
    tlens_64 = tl;
    paths_room = pb ∙ L.paths_room;
    trees_room = tb ∙ L.trees_room;
    paths_sound = sp;
    trees_sound = st;
    empty = λ j h n. let o : j ≡ k → ⊥ = λ e. n (ap (λ (x : ℕ). get_or (digits 64 q.free) x 0) e ∙ sole_digit) in
        (other j (get_or (cut plens paths) k []) (cut plens' paths') h o cp, other j (get_or (cut tlens trees) k []) (cut tlens' trees') h o ct);
    packed = λ j h. each Packed (L.packed k low) nothing_packed j h (eqb j k) refl;
    well = λ j h. each Well (L.well k low) nothing_well j h (eqb j k) refl;
    apart = ap (λ (m : List Held). distinct (map at m)) sole_slots;
    entries = omega (arith, ee, ap entry_count sole_view);
    names = omega (arith, en, ap name_count sole_view);
  }
