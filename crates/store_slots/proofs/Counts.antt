-- The record's counts are the view's, and room in the view is room in the slices. Assumes nothing.
use mathlib.Core.Path.{◌≡◌, refl, sym, ap, ap₂, ◌∙◌}
use mathlib.Core.Bool.{true}
use mathlib.Core.Option.{none}
use mathlib.Core.List.{List, [], ◌∷◌}
use Prim.Native.Nat.{ℕ, zero, suc, ◌+◌, ◌*◌, ◌≤◌, ◌<◌}
use native.Mathlib.Omega.{arith}
use native.Mathlib.Nat.{add-mul}
use lib.ListN.{length, drop, get_or, length-drop}
use lib.Seq.{length-take-le}
use Rattle.model.specs.Bytes.{Bytes}
use Rattle.model.specs.Map.{find, put}
use Rattle.model.specs.Tree.{Tree, name_bytes}
use Rattle.model.specs.Editor.{Held, at, Cache, entry_count, name_count, path_count, fits}
use Rattle.model.proofs.SoundTrees.{total_put_new}
use Rattle.model.proofs.RoomCounts.{trees_total, paths_total}
use Rattle.model.proofs.LimitLaws.{limits}
use Rattle.store_runs.specs.Digits.{digits, first_set, skip}
use Rattle.store_runs.proofs.DigitLaws.{length_digits}
use Rattle.store_runs.specs.Runs.{cut}
use Rattle.store_runs.specs.Runs.{total as lengths}
use Rattle.store_runs.proofs.RunLaws.{length_cut}
use Rattle.names.specs.Check.{Wide}
use Rattle.names_compact.specs.Compact.{packed_all, unpack}
use Rattle.names_compact.proofs.CompactLaws.{packed_room, wide_good}
use Rattle.store_slots.specs.View.{if_used, held_in, slots_of, slots, view_of, Laid}
use Rattle.store_slots.specs.declared.Record.{Record}
use Rattle.store_slots.proofs.Gather.{gather_entries, gather_names, gather_paths, gather_length}
use Rattle.store_slots.proofs.Where.{Bits, digits_bits}
use Rattle.model.proofs.RawLaws.{well_entries}

-- ---- sums of the lengths

unfoldable pub sizes : List Bytes → ℕ
sizes [] = 0
sizes (b ∷ bs) = length b + sizes bs

pub sizes_cut : (lens bytes : List ℕ) → lengths lens ≤ length bytes → sizes (cut lens bytes) ≡ lengths lens
unfolding sizes cut lengths
sizes_cut [] bytes h = refl
sizes_cut (n ∷ lens) bytes h =
    let i : sizes (cut lens (drop n bytes)) ≡ lengths lens = sizes_cut lens (drop n bytes) (omega (arith, length-drop n bytes)) in
    omega (arith, length-take-le n bytes (omega arith))

-- a slot that is not used has the empty run
abbrev Blank : List ℕ → List Bytes → Type 0
Blank ds bs = (k : ℕ) → k < length ds → (get_or ds k 0 ≡ 0 → ⊥) → get_or bs k [] ≡ []

pub paths_sum : (w : ℕ) (ds : List ℕ) (ps bs : List Bytes) → length ps ≡ length ds → length bs ≡ length ds → Blank ds ps → path_count (slots_of w ds ps bs) ≡ sizes ps
unfolding slots_of sizes
paths_sum w [] [] bs l r e = refl
paths_sum w [] (p ∷ ps) bs l r e = absurd (omega arith)
paths_sum w (d ∷ ds) [] bs l r e = absurd (omega arith)
paths_sum w (d ∷ ds) (p ∷ ps) [] l r e = absurd (omega arith)
paths_sum w (d ∷ ds) (p ∷ ps) (b ∷ bs) l r e = go d (e 0 (omega arith)) (paths_sum w ds ps bs (omega arith) (omega arith) (λ k h n. e (suc k) (omega arith) n))
  where
    go : (d : ℕ) → ((d ≡ 0 → ⊥) → p ≡ []) → path_count (slots_of w ds ps bs) ≡ sizes ps → path_count (if_used d (held_in w p b) (slots_of w ds ps bs)) ≡ length p + sizes ps
    go zero f i = ap (λ (x : ℕ). length p + x) i
    go (suc d) f i = let z : length p ≡ 0 = ap length (f (λ q. omega arith)) in omega arith

pub trees_sum : (w : ℕ) (ds : List ℕ) (ps bs : List Bytes) → length ps ≡ length ds → length bs ≡ length ds → Blank ds bs →
    ((k : ℕ) → k < length ds → get_or bs k [] ≡ packed_all (unpack w (get_or bs k []))) → ((k : ℕ) → k < length ds → Wide w (unpack w (get_or bs k []))) →
    entry_count (slots_of w ds ps bs) * (2 + w) + name_count (slots_of w ds ps bs) ≡ sizes bs
unfolding slots_of sizes
trees_sum w [] [] [] l r e p v = omega arith
trees_sum w [] (p ∷ ps) bs l r e q v = absurd (omega arith)
trees_sum w [] [] (b ∷ bs) l r e q v = absurd (omega arith)
trees_sum w (d ∷ ds) [] bs l r e q v = absurd (omega arith)
trees_sum w (d ∷ ds) (p ∷ ps) [] l r e q v = absurd (omega arith)
trees_sum w (d ∷ ds) (p ∷ ps) (b ∷ bs) l r e q v =
    go d (e 0 (omega arith)) (trees_sum w ds ps bs (omega arith) (omega arith) (λ k h n. e (suc k) (omega arith) n) (λ k h. q (suc k) (omega arith)) (λ k h. v (suc k) (omega arith)))
  where
    mine : length b ≡ length (unpack w b) * (2 + w) + name_bytes (unpack w b)
    mine = ap length (q 0 (omega arith)) ∙ packed_room w (unpack w b) (v 0 (omega arith))

    go : (d : ℕ) → ((d ≡ 0 → ⊥) → b ≡ []) → entry_count (slots_of w ds ps bs) * (2 + w) + name_count (slots_of w ds ps bs) ≡ sizes bs →
        entry_count (if_used d (held_in w p b) (slots_of w ds ps bs)) * (2 + w) + name_count (if_used d (held_in w p b) (slots_of w ds ps bs)) ≡ length b + sizes bs
    go zero f i = omega (arith, mine, i, add-mul (length (unpack w b)) (entry_count (slots_of w ds ps bs)) (2 + w))
    go (suc d) f i = let z : length b ≡ 0 = ap length (f (λ q. omega arith)) in omega (arith, i)

-- ---- used slots and free ones

pub slots_ones : (w : ℕ) (ds : List ℕ) (ps bs : List Bytes) → Bits ds → length ps ≡ length ds → length bs ≡ length ds → length (slots_of w ds ps bs) + lengths ds ≡ length ds
unfolding slots_of lengths
slots_ones w [] ps bs t l r = refl
slots_ones w (d ∷ ds) [] bs t l r = absurd (omega arith)
slots_ones w (d ∷ ds) (p ∷ ps) [] t l r = absurd (omega arith)
slots_ones w (d ∷ ds) (p ∷ ps) (b ∷ bs) (t, ts) l r = go d t (slots_ones w ds ps bs ts (omega arith) (omega arith))
  where
    go : (d : ℕ) → d ≤ 1 → length (slots_of w ds ps bs) + lengths ds ≡ length ds → length (if_used d (held_in w p b) (slots_of w ds ps bs)) + (d + lengths ds) ≡ suc (length ds)
    go zero t i = omega arith
    go (suc zero) t i = omega arith
    go (suc (suc d)) t i = absurd (omega arith)

pub some_one : (ds : List ℕ) → 0 < lengths ds → first_set ds < length ds
unfolding lengths first_set
some_one [] h = absurd (omega arith)
some_one (d ∷ ds) h = go d h (λ i. some_one ds i)
  where
    go : (d : ℕ) → 0 < d + lengths ds → (0 < lengths ds → first_set ds < length ds) → skip d (first_set ds) < suc (length ds)
    go zero h f = omega (arith, f (omega arith))
    go (suc d) h f = omega arith

-- ---- of a store that is laid out

module _ (w : ℕ) (r : Record) (plens paths tlens trees : List ℕ) (L : Laid w r plens paths tlens trees) where
  abbrev ds : List ℕ
  ds = digits 64 r.free

  d64 : length ds ≡ 64
  d64 = length_digits 64 r.free

  pe : length (cut plens paths) ≡ length ds
  pe = length_cut plens paths ∙ L.plens_64 ∙ sym d64

  be : length (cut tlens trees) ≡ length ds
  be = length_cut tlens trees ∙ L.tlens_64 ∙ sym d64

  -- the path bytes
  pub paths_is : path_count (view_of w r plens paths tlens trees) ≡ r.paths
  paths_is =
      gather_paths (slots w r plens paths tlens trees) L.apart
      ∙ paths_sum w ds (cut plens paths) (cut tlens trees) pe be (λ k h n. (L.empty k (omega (arith, d64)) n).0)
      ∙ sizes_cut plens paths (omega (arith, L.paths_sound.sum, L.paths_sound.fits)) ∙ L.paths_sound.sum

  -- the tree bytes follow from the entries and their names
  pub trees_is : r.entries * (2 + w) + r.names ≡ r.trees
  trees_is =
      ap₂ (λ (x y : ℕ). x * (2 + w) + y) (L.entries ∙ gather_entries (slots w r plens paths tlens trees) L.apart) (L.names ∙ gather_names (slots w r plens paths tlens trees) L.apart)
      ∙ trees_sum w ds (cut plens paths) (cut tlens trees) pe be (λ k h n. (L.empty k (omega (arith, d64)) n).1) (λ k h. L.packed k (omega (arith, d64)))
      (λ k h. wide_good w (unpack w (get_or (cut tlens trees) k [])) (well_entries w (unpack w (get_or (cut tlens trees) k [])) (L.well k (omega (arith, d64)))))
      ∙ sizes_cut tlens trees (omega (arith, L.trees_sound.sum, L.trees_sound.fits)) ∙ L.trees_sound.sum

  -- the trees
  pub slots_is : length (view_of w r plens paths tlens trees) + lengths ds ≡ 64
  slots_is = omega (arith, gather_length (slots w r plens paths tlens trees) L.apart, slots_ones w ds (cut plens paths) (cut tlens trees) (digits_bits 64 r.free) pe be, d64)

  -- where the view has room for one more tree, a slot is free and the slices have room
  module _ (p : Bytes) (t : Tree) (n : find at p (view_of w r plens paths tlens trees) ≡ none) (f : fits (put at (record { path = p; held = t }) (view_of w r plens paths tlens trees)) ≡ true) where
    abbrev new : Held
    new = record { path = p; held = t }

    abbrev c : Cache
    c = view_of w r plens paths tlens trees

    pub room_slot : first_set ds < 64
    room_slot =
        let m : length (put at new c) ≡ 1 + length c = trees_total (put at new c) ∙ total_put_new at (λ h. 1) new c n ∙ ap (λ (x : ℕ). 1 + x) (sym (trees_total c)) in
        omega (arith, d64, some_one ds (omega (arith, slots_is, m, (limits (put at new c) f).trees)))

    pub room_paths : r.paths + length p ≤ 8192
    room_paths =
        let m : path_count (put at new c) ≡ length p + path_count c = paths_total (put at new c) ∙ total_put_new at (λ h. length h.path) new c n ∙ ap (λ (x : ℕ). length p + x) (sym (paths_total c)) in
        omega (arith, paths_is, m, (limits (put at new c) f).paths)
