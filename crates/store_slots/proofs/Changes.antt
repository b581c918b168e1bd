-- What the calls rest on, over variables: a slot that was blank gets a path that no slot had, so that the view has one tree more and the rules of the layout stay. Assumes nothing.
use mathlib.Core.Path.{◌≡◌, refl, sym, ap, ◌∙◌, subst}
use mathlib.Core.Bool.{Bool, true, false, cond, ◌||◌}
use mathlib.Core.Option.{none, some}
use mathlib.Core.List.{List, [], ◌∷◌, map, append-nil}
use Prim.Native.Nat.{ℕ, zero, suc, ◌+◌, ◌-◌, ◌*◌, ◌≤◌, ◌<◌}
use native.Mathlib.Omega.{arith}
use lib.ListN.{length, take, drop, get_or, set, drop_of_length-le}
use lib.Seq.{get_or-set_same}
use Rattle.model.specs.Bytes.{Bytes, same}
use Rattle.model.specs.Map.{find, put, del}
use Rattle.model.specs.Tree.{among, name_bytes, well_formed}
use Rattle.model.specs.Editor.{Held, at}
use Rattle.model.proofs.RawLaws.{well_entries}
use Rattle.store_runs.specs.Digits.{digits, first_set}
use Rattle.store_runs.proofs.DigitLaws.{length_digits, first_set_lem}
use Rattle.store_runs.specs.Moves.{inserted, removed}
use Rattle.store_runs.specs.Runs.{cut, with_run, run_of, Sound}
use Rattle.store_runs.proofs.RunLaws.{length_cut, total_within}
use Rattle.store_runs.proofs.FindLaws.{cut_at}
use Rattle.names_compact.specs.Compact.{packed_all, unpack, Run}
use Rattle.names_compact.proofs.CompactLaws.{packed_room, wide_good}
use Rattle.store_slots.specs.View.{held_as, slots, gather, view_of, Laid, Used, path_of, tree_of}
use Rattle.store_slots.specs.declared.Record.{Record}
use Rattle.store_slots.proofs.Gather.{find_gather, first_held}
use Rattle.store_slots.proofs.Relaid.{run_in, with_here, entries_in_lem, names_in_lem, freed_view, freed, taken_view, taken}
use lib.Seq.{length-take-le}
use lib.ListN.{length-drop}
use Rattle.store_runs.specs.Runs.{total as lengths}

pub run_length : (lens bytes : List ℕ) (used k : ℕ) → Sound lens bytes used → k < length lens → length (get_or (cut lens bytes) k []) ≡ get_or lens k 0
run_length lens bytes used k s h =
    ap length (cut_at lens bytes k h) ∙ length-take-le (get_or lens k 0) (drop (lengths (take k lens)) bytes) (omega (arith, length-drop (lengths (take k lens)) bytes, total_within lens k h, s.sum, s.fits))

not_first : (p : Bytes) (hs : List Held) → first_held p hs ≡ none → among p (map at hs) ≡ false
unfolding first_held
not_first p [] e = refl
not_first p (h ∷ hs) e = step (same p h.path) e (not_first p hs)
  where
    step : (b : Bool) → cond b (some h) (first_held p hs) ≡ none → (first_held p hs ≡ none → among p (map at hs) ≡ false) → (b || among p (map at hs)) ≡ false
    step true e i = absurd (let z : ◌≡◌ {A = ℕ} 0 1 = cc in omega arith)
    step false e i = i e

-- a path that is not found is at no slot
pub not_among : (p : Bytes) (hs : List Held) → find at p (gather hs) ≡ none → among p (map at hs) ≡ false
not_among p hs e = not_first p hs (sym (find_gather p hs) ∙ e)

pub record Added (w : ℕ) (r : Record) (plens paths tlens trees : List ℕ) (p : Bytes) (k : ℕ) (q : Record) (plens' paths' : List ℕ) : Type 0 where
  pub view : view_of w q plens' paths' tlens trees ≡ put at (held_as p []) (view_of w r plens paths tlens trees)
  pub used : Used q k
  pub path : path_of plens' paths' k ≡ p
  pub laid : Laid w q plens' paths' tlens trees

module _ (w : ℕ) (r : Record) (plens paths tlens trees : List ℕ) (L : Laid w r plens paths tlens trees) where
  -- the run of a slot, where it lies
  pub searched_run : (k : ℕ) → k < 64 → Run w (run_of tlens trees k)
  searched_run k h = subst (Run w) (cut_at tlens trees k (omega (arith, L.tlens_64))) (run_in w r plens paths tlens trees L k h)

  pub tree_run : (k : ℕ) → k < 64 → unpack w (run_of tlens trees k) ≡ tree_of w tlens trees k
  tree_run k h = ap (unpack w) (sym (cut_at tlens trees k (omega (arith, L.tlens_64))))

  pub tree_size : (k : ℕ) → k < 64 → get_or tlens k 0 ≡ length (tree_of w tlens trees k) * (2 + w) + name_bytes (tree_of w tlens trees k)
  tree_size k h =
      sym (run_length tlens trees r.trees k L.trees_sound (omega (arith, L.tlens_64))) ∙ ap length (L.packed k h)
      ∙ packed_room w (tree_of w tlens trees k) (wide_good w (tree_of w tlens trees k) (well_entries w (tree_of w tlens trees k) (L.well k h)))

  -- the tree of a slot, counted in its run: as many entries, and the length of the run by them
  pub counted : (k : ℕ) → k < 64 → (run : Bytes) (n : ℕ) → run ≡ run_of tlens trees k → n ≡ length (unpack w run) → n ≡ length (tree_of w tlens trees k)
  counted k h run n e f = f ∙ ap (λ (x : Bytes). length (unpack w x)) e ∙ ap length (tree_run k h)

  pub counted_size : (k : ℕ) → k < 64 → (run : Bytes) (n : ℕ) → run ≡ run_of tlens trees k → n ≡ length (unpack w run) → get_or tlens k 0 ≡ n * (2 + w) + name_bytes (tree_of w tlens trees k)
  counted_size k h run n e f = tree_size k h ∙ ap (λ (x : ℕ). x * (2 + w) + name_bytes (tree_of w tlens trees k)) (sym (counted k h run n e f))

  -- a run is not longer than the slice
  pub run_fits : (k : ℕ) → k < 64 → get_or tlens k 0 ≤ 1024 * (2 + w) + 16384
  run_fits k h = omega (arith, total_within tlens k (omega (arith, L.tlens_64)), L.trees_sound.sum, L.trees_sound.fits, L.trees_room)

  -- a slot's path and run taken out
  pub dropped : (k : ℕ) → Used r k → (q : Record) (plens' paths' tlens' trees' : List ℕ) (n m es : ℕ) → n ≡ get_or plens k 0 → m ≡ get_or tlens k 0 → es ≡ length (tree_of w tlens trees k) →
      cut plens' paths' ≡ with_run k (λ (l : Bytes). removed l 0 n) (cut plens paths) → cut tlens' trees' ≡ with_run k (λ (l : Bytes). removed l 0 m) (cut tlens trees) →
      Sound plens' paths' q.paths → Sound tlens' trees' q.trees → length plens' ≡ length plens → length tlens' ≡ length tlens → length paths' ≡ length paths → length trees' ≡ length trees →
      digits 64 q.free ≡ set (digits 64 r.free) k 1 → q.entries ≡ r.entries - es → q.names ≡ r.names - (m - es * (2 + w)) →
      (view_of w q plens' paths' tlens' trees' ≡ del at (path_of plens paths k) (view_of w r plens paths tlens trees)) × Laid w q plens' paths' tlens' trees'
  dropped k U q plens' paths' tlens' trees' n m es en em ees cp ct sp st pl tl pb tb ef ee enn =
      let f : Bytes → Bytes = λ (l : Bytes). removed l 0 n in
      let g : Bytes → Bytes = λ (l : Bytes). removed l 0 m in
      let t = tree_of w tlens trees k in
      let ep : f (path_of plens paths k) ≡ [] = drop_of_length-le (path_of plens paths k) {i = 0 + n} (omega (arith, en, run_length plens paths r.paths k L.paths_sound (omega (arith, L.plens_64, U.low)))) in
      let eg : g (get_or (cut tlens trees) k []) ≡ [] = drop_of_length-le (get_or (cut tlens trees) k []) {i = 0 + m} (omega (arith, em, run_length tlens trees r.trees k L.trees_sound (omega (arith, L.tlens_64, U.low)))) in
      let x : es * (2 + w) ≡ length t * (2 + w) = ap (λ (z : ℕ). z * (2 + w)) ees in
      let sz = tree_size k U.low in (
        freed_view w r plens paths tlens trees L k U.low U.used f g q plens' paths' tlens' trees' cp ct ef ep eg,
        freed w r plens paths tlens trees L k U.low U.used f g q plens' paths' tlens' trees' cp ct ef ep eg (pl ∙ L.plens_64) (tl ∙ L.tlens_64) pb tb sp st
            (omega (arith, ee, ees, entries_in_lem w r plens paths tlens trees L k U.low U.used)) (omega (arith, enn, x, em, sz, names_in_lem w r plens paths tlens trees L k U.low U.used)),
      )

  -- an empty tree put under a path
  abbrev ds : List ℕ
  ds = digits 64 r.free

  nothing_packed : [] ≡ packed_all []
  unfolding packed_all
  nothing_packed = refl

  nothing_well : well_formed w [] ≡ true
  unfolding well_formed
  nothing_well = refl

  with_same_run : (k : ℕ) (rs : List Bytes) → rs ≡ with_run k (λ (l : Bytes). l) rs
  unfolding with_run
  with_same_run k [] = refl
  with_same_run zero (x ∷ rs) = refl
  with_same_run (suc k) (x ∷ rs) = ap (λ (l : List Bytes). x ∷ l) (with_same_run k rs)

  module _ (p : Bytes) (none_there : find at p (view_of w r plens paths tlens trees) ≡ none) (k : ℕ) (first : k ≡ first_set ds) (low : k < 64) where
    digit_one : get_or ds k 0 ≡ 1
    digit_one = ap (λ (x : ℕ). get_or ds x 0) first ∙ first_set_lem 64 r.free (omega arith)

    not_used : get_or ds k 0 ≡ 0 → ⊥
    not_used z = omega (arith, digit_one)

    pub added : (q : Record) (plens' paths' : List ℕ) → cut plens' paths' ≡ with_run k (λ (l : Bytes). inserted l 0 p) (cut plens paths) → Sound plens' paths' q.paths →
        length plens' ≡ length plens → length paths' ≡ length paths → digits 64 q.free ≡ set ds k 0 → q.trees ≡ r.trees → q.entries ≡ r.entries → q.names ≡ r.names →
        Added w r plens paths tlens trees p k q plens' paths'
    added q plens' paths' cp sp pl pb ef et ee en =
        let f : Bytes → Bytes = λ (l : Bytes). inserted l 0 p in
        let g : Bytes → Bytes = λ (l : Bytes). l in
        let blank = L.empty k low not_used in
        let ep : f (path_of plens paths k) ≡ p = ap f blank.0 ∙ append-nil p in
        let eg : g (get_or (cut tlens trees) k []) ≡ packed_all [] = blank.1 ∙ nothing_packed in
        let cb = with_same_run k (cut tlens trees) in
        let na = not_among p (slots w r plens paths tlens trees) none_there in
        let in-ps : k < length (cut plens paths) = omega (arith, length_cut plens paths, L.plens_64) in
        let in_ds : k < length ds = omega (arith, length_digits 64 r.free) in
        record {
          view = taken_view w r plens paths tlens trees L k low not_used f g q plens' paths' tlens trees cp cb ef p ep [] eg nothing_well na;
          used = record { low = low; used = ap (λ (x : List ℕ). get_or x k 0) ef ∙ get_or-set_same ds k 0 0 in_ds };
          path = ap (λ (x : List Bytes). get_or x k []) cp ∙ with_here f (cut plens paths) k in-ps ∙ ep;
          laid = taken w r plens paths tlens trees L k low not_used f g q plens' paths' tlens trees cp cb ef p ep [] eg nothing_well na (pl ∙ L.plens_64) L.tlens_64 pb refl sp (subst (Sound tlens trees) (sym et) L.trees_sound)
              (omega (arith, ee)) (omega (arith, en));
        }
