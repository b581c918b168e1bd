-- The rules of the layout, of the slots and of the write are all that validity asks: cached and taken trees together are the trees of the used slots.
-- Assumes nothing.
use mathlib.Core.Path.{◌≡◌, refl, sym, ap, ◌∙◌}
use mathlib.Core.Bool.{true, ◌&&◌}
use mathlib.Core.Option.{Option}
use mathlib.Core.List.{List, [], ◌∷◌, ◌++◌, map}
use Prim.Native.Nat.{ℕ, zero, suc, ◌+◌, ◌-◌}
use native.Mathlib.Omega.{arith}
use lib.ListN.{length, take, drop}
use Rattle.model.specs.Bytes.{Bytes}
use Rattle.model.specs.Map.{rising}
use Rattle.model.specs.Tree.{distinct}
use Rattle.model.specs.Order.{All}
use Rattle.model.specs.Editor.{Format, Held, at, Write, fits}
use Rattle.model.specs.Valid.{all_good, every_tree, root_held, write_good, valid}
use Rattle.model.proofs.Basics.{all_map, and_left, and_right}
use Rattle.model.proofs.SoundTrees.{total}
use Rattle.model.proofs.ValidSums.{total_append, total_reverse, Sane, sane_of, sane_less, sane_distinct, sane_good, sane_fits}
use Rattle.store_runs.specs.Digits.{digits}
use Rattle.store_runs.specs.Runs.{cut}
use Rattle.store_runs.proofs.DigitLaws.{length_digits}
use Rattle.store_runs.proofs.RunLaws.{length_cut}
use Rattle.store_slots.specs.View.{slots_of, slots, gather, view_of, Laid, Used, held_at, cached_of, aside_of, stacked_of, write_of, editor_of, taken_of, Opened, Ordered}
use Rattle.store_slots.specs.declared.Record.{Record}
use Rattle.store_slots.proofs.Gather.{gather_rising, total_gather, gather_entries, gather_names, gather_paths, gather_length}
use Rattle.store_check.proofs.MarkLaws.{Clear, distinct_marked, total_marked}

module _ {A : Type 0} (f : Held → ℕ) (g : A → Held) where
  total_map : (l : List A) → total f (map g l) ≡ total (λ x. f (g x)) l
  total_map [] = refl
  total_map (x ∷ l) = ap (λ (n : ℕ). f (g x) + n) (total_map l)

-- the limits are those of the list that is gathered
fits_gather : (hs : List Held) → distinct (map at hs) ≡ true → fits (gather hs) ≡ fits hs
unfolding fits
fits_gather hs d = rw (gather_length hs d, gather_entries hs d, gather_names hs d, gather_paths hs d)

module _ (w : ℕ) (r : Record) (plens paths tlens trees : List ℕ) (L : Laid w r plens paths tlens trees) where
  abbrev ps : List Bytes
  ps = cut plens paths

  abbrev bs : List Bytes
  bs = cut tlens trees

  abbrev used : List Held
  used = slots w r plens paths tlens trees

  abbrev left : List Held
  left = slots_of w (digits 64 r.hidden) ps bs

  abbrev asked : Held
  asked = held_at w plens paths tlens trees r.asked

  pub ps_even : length ps ≡ length (digits 64 r.free)
  ps_even = length_cut plens paths ∙ L.plens_64 ∙ sym (length_digits 64 r.free)

  pub bs_even : length bs ≡ length (digits 64 r.free)
  bs_even = length_cut tlens trees ∙ L.tlens_64 ∙ sym (length_digits 64 r.free)

  taken_clear : (order : List ℕ) → Opened r order → All (Clear (digits 64 r.free)) (taken_of r order)
  taken_clear order o = all_map (Used r) (Clear (digits 64 r.free)) (λ k u. record { low = omega (arith, length_digits 64 r.free, u.low); unset = u.used }) (taken_of r order) o.used

  -- the taken trees and those left are the used slots
  opened_total : (order : List ℕ) → Opened r order → (f : Held → ℕ) → total f used ≡ total (λ k. f (held_at w plens paths tlens trees k)) (taken_of r order) + total f left
  opened_total order o f =
      total_marked f w (digits 64 r.free) ps bs ps_even bs_even (taken_of r order)
      (taken_clear order o) o.apart
      ∙ ap (λ (ds : List ℕ). total (λ k. f (held_at w plens paths tlens trees k)) (taken_of r order) + total f (slots_of w ds ps bs)) (sym o.hidden)

  opened_apart : (order : List ℕ) → Opened r order → distinct (map at left) ≡ true
  opened_apart order o =
      ap (λ (ds : List ℕ). distinct (map at (slots_of w ds ps bs))) o.hidden
      ∙ distinct_marked w (digits 64 r.free) ps bs ps_even bs_even (taken_of r order) (taken_clear order o) o.apart L.apart

  -- every tree of the editor, as a sum
  module _ (order : List ℕ) (ord : Ordered r order) where
    abbrev taken : Option Write
    taken = write_of r.«open» asked (aside_of w r plens paths tlens trees order) (stacked_of w r plens paths tlens trees order)

    pub every_total : (f : Held → ℕ) (n : ℕ) → r.«open» ≡ n → total f (every_tree (gather left) (write_of n asked (aside_of w r plens paths tlens trees order) (stacked_of w r plens paths tlens trees order))) ≡ total f used
    unfolding every_tree
    every_total f zero e =
        let h : left ≡ used = ap (λ (m : ℕ). slots_of w (digits 64 m) ps bs) (ord.closed e).hidden in
        ap (λ (l : List Held). total f (gather l)) h ∙ total_gather f used L.apart
    every_total f (suc n) e =
        let o : Opened r order = ord.opened (λ z. omega (arith, e, z)) in
        let A = aside_of w r plens paths tlens trees order in
        let S = stacked_of w r plens paths tlens trees order in
        let h = held_at w plens paths tlens trees in
        let a = take r.aside order in
        let b = drop (64 - r.stacked) order in
        omega (
          arith,
          total_append f (S ++ A) (gather left),
          total_append f S A,
          total_gather f left (opened_apart order o),
          total_reverse f (map h a),
          total_map f h a,
          total_map f h b,
          total_append (λ k. f (h k)) a b,
          opened_total order o f,
        )

    abbrev every : List Held
    every = every_tree (gather left) taken

  module _ (good : all_good w used ≡ true) (limit : fits (view_of w r plens paths tlens trees) ≡ true) where
    pub used_sane : Sane w used
    used_sane = sane_of w used L.apart good (sym (fits_gather used L.apart) ∙ limit)

    module _ (order : List ℕ) (ord : Ordered r order) where
      every_sane : Sane w (every order ord)
      every_sane = sane_less w (every order ord) used (λ f. omega (arith, every_total order ord f r.«open» refl)) used_sane

      -- what is left for validity to ask: a root, and a write that hangs together
      pub valid_parts : (F : Format) → F.width ≡ w → valid F (editor_of w r plens paths tlens trees order) ≡ (root_held (cached_of w r plens paths tlens trees) (taken order ord) && write_good (taken order ord))
      unfolding valid
      valid_parts F e =
          rw (
            gather_rising left,
            sane_distinct w (every order ord) every_sane,
            e,
            sane_good w (every order ord) every_sane,
            sane_fits w (every order ord) every_sane,
          )

  -- a valid editor's slots are good and within the limits
  module _ (order : List ℕ) (ord : Ordered r order) (F : Format) (e : F.width ≡ w) where
    valid_sane : valid F (editor_of w r plens paths tlens trees order) ≡ true → Sane w used
    unfolding valid
    valid_sane v =
        let E = every order ord in
        let c = cached_of w r plens paths tlens trees in
        let t = taken order ord in
        let r5 = and_left (rising at c && distinct (map at E) && all_good F.width E && fits E && root_held c t) (write_good t) v in
        let r4 = and_left (rising at c && distinct (map at E) && all_good F.width E && fits E) (root_held c t) r5 in
        let r3 = and_left (rising at c && distinct (map at E) && all_good F.width E) (fits E) r4 in
        let r2 = and_left (rising at c && distinct (map at E)) (all_good F.width E) r3 in
        sane_less w used E (λ f. omega (arith, every_total order ord f r.«open» refl))
        (sane_of w E (and_right (rising at c) (distinct (map at E)) r2) (ap (λ (x : ℕ). all_good x E) (sym e) ∙ and_right (rising at c && distinct (map at E)) (all_good F.width E) r3)
        (and_right (rising at c && distinct (map at E) && all_good F.width E) (fits E) r4))

    pub valid_good : valid F (editor_of w r plens paths tlens trees order) ≡ true → all_good w used ≡ true
    valid_good v = sane_good w used (valid_sane v)

    pub valid_fits : valid F (editor_of w r plens paths tlens trees order) ≡ true → fits (view_of w r plens paths tlens trees) ≡ true
    valid_fits v = fits_gather used L.apart ∙ sane_fits w used (valid_sane v)
