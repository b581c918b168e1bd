-- What becomes of taken trees that are dropped or cached again: the other slots hold what they held. Assumes nothing.
use mathlib.Core.Path.{◌≡◌, sym, ap, ap₂, ◌∙◌, subst}
use mathlib.Core.Bool.{false, not}
use mathlib.Core.List.{List, [], ◌∷◌, ◌++◌, map, reverse}
use Prim.Native.Nat.{ℕ, ◌-◌, ◌<◌}
use native.Mathlib.Omega.{arith}
use lib.ListN.{length, take, drop, get_or, set, drop_of_length-le}
use lib.Seq.{get_or-set_same, get_or-set_other}
use Rattle.model.specs.Bytes.{Bytes, has}
use Rattle.model.specs.Map.{put}
use Rattle.model.specs.Editor.{Held, at, Cache}
use Rattle.model.specs.Order.{All}
use Rattle.model.proofs.Basics.{and_left, and_right, not_true, all_map}
use Rattle.store_slots.proofs.Marked.{length_marked}
use Rattle.store_runs.specs.Digits.{digits}
use Rattle.store_runs.specs.Runs.{cut}
use Rattle.store_runs.proofs.DigitLaws.{length_digits, digit_same}
use Rattle.store_runs.proofs.RunLaws.{length_cut}
use Rattle.store_slots.specs.View.{slots_of, gather, held_in, Laid, Used, SameWrite, marked, all_different, held_at, cached_of, aside_of, stacked_of, Ordered, Closed}
use Rattle.store_slots.specs.declared.Record.{Record}
use Rattle.store_taken.specs.Taken.{going_of, Marks, Between, SameTree}
use Rattle.store_taken.proofs.Marking.{marked_set, all_other, all_left, all_right, all_both, map_same}
use Rattle.store_taken.proofs.Shown.{show_view, shown_same}

-- ---- the slots of two stores

-- the slots of both have 64 paths and trees
pub record Wide (plens tlens plens' tlens' : List ℕ) : Type 0 where
  pub p : length plens ≡ 64
  pub t : length tlens ≡ 64
  pub p' : length plens' ≡ 64
  pub t' : length tlens' ≡ 64

module _ (w : ℕ) (plens paths tlens trees plens' paths' tlens' trees' : List ℕ) where
  -- a slot that holds what it held
  pub held_same : (k : ℕ) → SameTree plens paths tlens trees plens' paths' tlens' trees' k → held_at w plens' paths' tlens' trees' k ≡ held_at w plens paths tlens trees k
  held_same k s = ap₂ (λ (x y : Bytes). held_in w x y) s.path s.run

  -- the cache, where the cached slots hold what they held
  pub cached_same : (r q : Record) → Wide plens tlens plens' tlens' → digits 64 q.hidden ≡ digits 64 r.hidden →
      ((k : ℕ) → k < 64 → get_or (digits 64 r.hidden) k 0 ≡ 0 → SameTree plens paths tlens trees plens' paths' tlens' trees' k) →
      cached_of w q plens' paths' tlens' trees' ≡ cached_of w r plens paths tlens trees
  cached_same r q v e f =
      let d = length_digits 64 r.hidden in
      ap (λ (x : List ℕ). gather (slots_of w x (cut plens' paths') (cut tlens' trees'))) e
      ∙ ap gather (shown_same w (digits 64 r.hidden) (cut plens paths) (cut tlens trees) (cut plens' paths') (cut tlens' trees')
      (length_cut plens paths ∙ v.p ∙ sym d) (length_cut tlens trees ∙ v.t ∙ sym d) (length_cut plens' paths' ∙ v.p' ∙ sym d) (length_cut tlens' trees' ∙ v.t' ∙ sym d)
      (λ k h z. let s = f k (omega (arith, d)) z in (s.path, s.run)))

  -- trees whose slots hold what they held
  pub trees_same : (ks : List ℕ) → All (SameTree plens paths tlens trees plens' paths' tlens' trees') ks → map (held_at w plens' paths' tlens' trees') ks ≡ map (held_at w plens paths tlens trees) ks
  trees_same ks a = map_same (held_at w plens' paths' tlens' trees') (held_at w plens paths tlens trees) ks
      (all_map (SameTree plens paths tlens trees plens' paths' tlens' trees') (λ j. held_at w plens' paths' tlens' trees' j ≡ held_at w plens paths tlens trees j) held_same ks a)

-- ---- the tree in hand is dropped

module _ (r : Record) (order : List ℕ) (k : ℕ) (b : Between r order (k ∷ [])) where
  abbrev rest : List ℕ
  rest = take r.aside order ++ drop (64 - r.stacked) order

  -- it is not among the others
  hand_apart : has k rest ≡ false
  hand_apart = not_true (has k rest) (and_left (not (has k rest)) (all_different rest) b.marks.apart)

  -- it is hidden
  hand_hidden : get_or (digits 64 r.hidden) k 0 ≡ 1
  unfolding marked
  hand_hidden =
      ap (λ (x : List ℕ). get_or x k 0) b.marks.hidden ∙ get_or-set_same (marked rest (digits 64 r.free)) k 1 0 (omega (arith, b.marks.used.0.low, length_marked rest (digits 64 r.free), length_digits 64 r.free))

  pub dropped_hidden : (x : List ℕ) → x ≡ set (digits 64 r.hidden) k 1 → x ≡ digits 64 r.hidden
  dropped_hidden x e = e ∙ sym (digit_same (digits 64 r.hidden) k hand_hidden)

  pub dropped_between : (q : Record) → digits 64 q.free ≡ set (digits 64 r.free) k 1 → digits 64 q.hidden ≡ digits 64 r.hidden → SameWrite r q → Between q order []
  unfolding marked
  dropped_between q ef eh s =
      let m : Marks q rest = record {
        used = all_map (λ j. Used r j × (j ≡ k → ⊥)) (Used q) (λ j u. record { low = u.0.low; used = ap (λ (x : List ℕ). get_or x j 0) ef ∙ get_or-set_other (digits 64 r.free) k j 1 0 u.1 ∙ u.0.used }) rest
            (all_both (Used r) (λ j. j ≡ k → ⊥) rest b.marks.used.1 (all_other rest k hand_apart));
        apart = and_right (not (has k rest)) (all_different rest) b.marks.apart;
        hidden = eh ∙ b.marks.hidden ∙ sym (marked_set rest (digits 64 r.free) k) ∙ ap (marked rest) (sym ef);
      } in
      record {
        order_64 = b.order_64;
        under_way = λ z. b.under_way (sym s.«open» ∙ z);
        from = omega (arith, s.«open», b.from);
        room = omega (arith, s.aside, s.stacked, b.room);
        marks = subst (Marks q) (ap₂ (λ (x y : ℕ). take x order ++ drop (64 - y) order) (sym s.aside) (sym s.stacked)) m;
      }

  pub dropped_going : (q : Record) (w : ℕ) (plens paths tlens trees plens' paths' tlens' trees' : List ℕ) → Wide plens tlens plens' tlens' → digits 64 q.hidden ≡ digits 64 r.hidden → SameWrite r q →
      ((j : ℕ) → (j ≡ k → ⊥) → SameTree plens paths tlens trees plens' paths' tlens' trees' j) →
      going_of w q plens' paths' tlens' trees' order ≡ going_of w r plens paths tlens trees order
  dropped_going q w plens paths tlens trees plens' paths' tlens' trees' v eh s o =
      let all : All (SameTree plens paths tlens trees plens' paths' tlens' trees') rest = all_map (λ j. j ≡ k → ⊥) (SameTree plens paths tlens trees plens' paths' tlens' trees') o rest (all_other rest k hand_apart) in
      let c = cached_same w plens paths tlens trees plens' paths' tlens' trees' r q v eh (λ j h z. o j (λ e. omega (arith, hand_hidden, ap (λ (x : ℕ). get_or (digits 64 r.hidden) x 0) e, z))) in
      let t = trees_same w plens paths tlens trees plens' paths' tlens' trees' (drop (64 - r.stacked) order) (all_right (SameTree plens paths tlens trees plens' paths' tlens' trees') (take r.aside order) (drop (64 - r.stacked) order) all) in
      let a = trees_same w plens paths tlens trees plens' paths' tlens' trees' (take r.aside order) (all_left (SameTree plens paths tlens trees plens' paths' tlens' trees') (take r.aside order) (drop (64 - r.stacked) order) all) in
      ap₂ (λ (x : Cache) (y : ℕ). record { cache = x; stack = map (held_at w plens' paths' tlens' trees') (drop (64 - y) order); kept = aside_of w q plens' paths' tlens' trees' order }) c s.stacked
      ∙ ap₂ (λ (x : List Held) (y : ℕ). record { cache = cached_of w r plens paths tlens trees; stack = x; kept = reverse (map (held_at w plens' paths' tlens' trees') (take y order)) }) t s.aside
      ∙ ap (λ (x : List Held). record { cache = cached_of w r plens paths tlens trees; stack = stacked_of w r plens paths tlens trees order; kept = reverse x }) a

  -- ---- the write is over

  pub closed_cache : (w : ℕ) (plens paths tlens trees : List ℕ) → Laid w r plens paths tlens trees → r.aside ≡ 0 → r.stacked ≡ 0 →
      gather (slots_of w (digits 64 r.free) (cut plens paths) (cut tlens trees)) ≡ put at (held_at w plens paths tlens trees k) (cached_of w r plens paths tlens trees)
  unfolding marked
  closed_cache w plens paths tlens trees L ea es =
      let d = length_digits 64 r.free in
      let only : rest ≡ [] = ap₂ (λ (x y : ℕ). take x order ++ drop (64 - y) order) ea es ∙ drop_of_length-le order {i = 64 - 0} (omega (arith, b.order_64)) in
      let hid : digits 64 r.hidden ≡ set (digits 64 r.free) k 1 = b.marks.hidden ∙ ap (λ (x : List ℕ). marked (k ∷ x) (digits 64 r.free)) only in
      show_view k w (digits 64 r.free) (cut plens paths) (cut tlens trees) (omega (arith, d, b.marks.used.0.low)) (length_cut plens paths ∙ L.plens_64 ∙ sym d) (length_cut tlens trees ∙ L.tlens_64 ∙ sym d) b.marks.used.0.used L.apart
      ∙ ap (λ (x : List ℕ). put at (held_at w plens paths tlens trees k) (gather (slots_of w x (cut plens paths) (cut tlens trees)))) (sym hid)

pub closed_ordered : (q : Record) (order : List ℕ) → length order ≡ 64 → q.«open» ≡ 0 → Closed q → Ordered q order
closed_ordered q order l z c = record { order_64 = l; closed = λ y. c; opened = λ n. absurd (n z) }
