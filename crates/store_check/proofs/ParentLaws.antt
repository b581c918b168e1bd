-- Laws of the trees that lie below others: a tree entry is found in tree order, and a parent by its path, which one slot has. Assumes nothing.
use mathlib.Core.Path.{◌≡◌, refl, sym, ap, ap₂, ◌∙◌, subst}
use mathlib.Core.Bool.{Bool, true, false, ◌&&◌, ◌||◌}
use mathlib.Core.Option.{Option, none, some}
use mathlib.Core.List.{List, [], ◌∷◌, ◌++◌, map, reverse, reverse-cons}
use Prim.Native.Nat.{ℕ, zero, suc, ◌+◌, ◌-◌, ◌≤◌, ◌<◌}
use native.Mathlib.Omega.{arith}
use borrow.Author.Tests.{eqb-true, eqb-false}
use lib.Dec.{eqb}
use lib.ListN.{length, take, drop, get_or, length-drop}
use lib.Seq.{take-take, length-take-le, get_or-take, get_or-drop}
use Rattle.std.specs.Prelude.{Option as Answer, Some, None, Result}
use Rattle.model.specs.Bytes.{Bytes, has, same}
use Rattle.model.specs.Map.{find, is_some}
use Rattle.model.specs.Search.{Spot, searched}
use Rattle.model.specs.Tree.{is_tree, Entry, Tree, as_kind, key, or_else, entry_of, well_formed, distinct}
use Rattle.model.specs.Paths.{base, dir}
use Rattle.model.specs.Order.{All}
use Rattle.model.specs.Editor.{Held, at}
use Rattle.model.specs.Valid.{is_tree_entry, has_parent}
use Rattle.model.proofs.Basics.{none_some, some_none}
use Rattle.model.proofs.ByteLaws.{has_here, has_past, same_eq, same_refl, same_of}
use Rattle.model.proofs.ChangeLaws.{Plain, slash_last}
use Rattle.model.proofs.MapLaws.{find_put_same}
use Rattle.model.proofs.SearchLaws.{Right, halving_right}
use Rattle.model.proofs.SoundTrees.{Sound, sound_well, find_key}
use Rattle.model.proofs.ValidSums.{one, is_at}
use Rattle.names_compact.specs.Compact.{unpack, spot_of, found_of, place_of, Tells}
use Rattle.names_compact.specs.declared.compact.Place.{Place}
use Rattle.store_runs.specs.Digits.{digits}
use Rattle.store_runs.specs.Find.{find_from}
use Rattle.store_runs.specs.Runs.{cut}
use Rattle.store_runs.proofs.DigitLaws.{length_digits}
use Rattle.store_slots.specs.View.{slots, gather, view_of, SlotIs, Used, path_of, tree_of, held_at, all_different, Opened}
use Rattle.store_slots.specs.declared.Record.{Record}
use Rattle.store_slots.proofs.Gather.{gather_mid, distinct_before}
use Rattle.store_slots.proofs.Slots.{front, back, split_used}
use Rattle.store_slots.proofs.Where.{slot_is}
use Rattle.store_check.specs.Laid.{Lays}
use Rattle.store_check.proofs.MarkLaws.{Clear, total_marked}
use Rattle.store_check.proofs.Whole.{ps_even, bs_even, used_sane}

-- ---- a tree entry is found in tree order

module _ (n : Bytes) (t : Tree) (p : Plain n) (s : Sound t) where
  -- what is found in file order is no tree, and what is found in tree order is one
  no_tree_lem : (e : Entry) → find key (as_kind false n) t ≡ some e → is_tree e.mode ≡ false
  no_tree_lem e f = go (is_tree e.mode) refl
    where
      go : (b : Bool) → is_tree e.mode ≡ b → b ≡ false
      go true q = sym (slash_last e.name) ∙ ap (has 47) (ap (λ (x : Bool). as_kind x e.name) (sym q) ∙ find_key key n t e f) ∙ p
      go false q = refl

  a_tree_lem : (e : Entry) → find key (as_kind true n) t ≡ some e → is_tree e.mode ≡ true
  a_tree_lem e f = go (is_tree e.mode) refl
    where
      go : (b : Bool) → is_tree e.mode ≡ b → b ≡ true
      go true q = refl
      go false q = sym (s.plain (as_kind true n) e f) ∙ ap (has 47) (ap (λ (x : Bool). as_kind x e.name) (sym q) ∙ find_key key (as_kind true n) t e f) ∙ slash_last n

  tree_entry : is_some (find key (as_kind true n) t) ≡ is_tree_entry (entry_of n t)
  tree_entry = go (find key (as_kind false n) t) refl (find key (as_kind true n) t) refl
    where
      go : (a : Option Entry) → find key (as_kind false n) t ≡ a → (b : Option Entry) → find key (as_kind true n) t ≡ b → is_some b ≡ is_tree_entry (or_else a b)
      go none e none f = refl
      go none e (some y) f = sym (a_tree_lem y f)
      go (some x) e none f = sym (no_tree_lem x e)
      go (some x) e (some y) f = none_some y (sym (s.once n false x p e) ∙ f)

hits : (k : Bytes) (t : Tree) (b : Bool) (i : ℕ) (s : Spot) → spot_of b i ≡ s → Right key k t s → b ≡ is_some (find key k t)
hits k t b i s e r = go b (subst (Right key k t) (sym e) r)
  where
    go : (b : Bool) → Right key k t (spot_of b i) → b ≡ is_some (find key k t)
    go true (x, ys, d, f) = sym (ap is_some f)
    go false (f, g, l) = sym (ap is_some f)

pub tree_found : (w : ℕ) (n b : Bytes) (r : Result Place Place) → well_formed w (unpack w b) ≡ true → Plain n → Tells w b (searched key (as_kind true n) (unpack w b)) r → found_of r ≡ is_tree_entry (entry_of n (unpack w b))
tree_found w n b r h p t =
    let s : Sound (unpack w b) = sound_well w (unpack w b) h in
    hits (as_kind true n) (unpack w b) (found_of r) (place_of r).index _ t.spot (halving_right key (length (unpack w b)) (as_kind true n) (unpack w b) (omega arith) s.in_order)
    ∙ tree_entry n (unpack w b) p s

-- ---- a list of trees, one of which is the parent

flip_or : (a b : Bool) → (a || b) ≡ (b || a)
flip_or true true = refl
flip_or true false = refl
flip_or false true = refl
flip_or false false = refl

or_assoc : (a b c : Bool) → ((a || b) || c) ≡ (a || (b || c))
or_assoc true b c = refl
or_assoc false b c = refl

pub or_none : (a : Bool) → (a || false) ≡ a
or_none true = refl
or_none false = refl

parent_append : (p : Bytes) (a b : List Held) → has_parent p (a ++ b) ≡ (has_parent p a || has_parent p b)
parent_append p [] b = refl
parent_append p (h ∷ a) b =
    ap (λ (x : Bool). same h.path (dir p) && is_tree_entry (entry_of (base p) h.held) || x) (parent_append p a b)
    ∙ sym (or_assoc (same h.path (dir p) && is_tree_entry (entry_of (base p) h.held)) (has_parent p a) (has_parent p b))

-- their order does not matter
parent_reverse : (p : Bytes) (l : List Held) → has_parent p (reverse l) ≡ has_parent p l
parent_reverse p [] = refl
parent_reverse p (h ∷ l) =
    ap (has_parent p) (reverse-cons h l) ∙ parent_append p (reverse l) (h ∷ [])
    ∙ ap (λ (x : Bool). has_parent p (reverse l) || x) (or_none (same h.path (dir p) && is_tree_entry (entry_of (base p) h.held)))
    ∙ flip_or (has_parent p (reverse l)) (same h.path (dir p) && is_tree_entry (entry_of (base p) h.held))
    ∙ ap (λ (x : Bool). same h.path (dir p) && is_tree_entry (entry_of (base p) h.held) || x) (parent_reverse p l)

both_or : (x t : Bool) → (t || (x && t)) ≡ t
both_or x true = refl
both_or true false = refl
both_or false false = refl

module _ (w : ℕ) (r : Record) (plens paths tlens trees : List ℕ) (S : Lays w r plens paths tlens trees) where
  abbrev D : List ℕ
  D = digits 64 r.free

  abbrev ps : List Bytes
  ps = cut plens paths

  abbrev bs : List Bytes
  bs = cut tlens trees

  abbrev h : ℕ → Held
  h = held_at w plens paths tlens trees

  clear : (k : ℕ) → Used r k → Clear D k
  clear k u = record { low = omega (arith, length_digits 64 r.free, u.low); unset = u.used }

  -- one slot is at a path
  same_slot : (j k : ℕ) → Used r j → Used r k → path_of plens paths j ≡ path_of plens paths k → j ≡ k
  same_slot j k u v e = go (eqb j k) refl
    where
      go : (b : Bool) → eqb j k ≡ b → j ≡ k
      go true t = eqb-true j k t
      go false t =
          let x : Bytes = path_of plens paths k in
          let n : j ≡ k → ⊥ = eqb-false j k t in
          let d : all_different (j ∷ k ∷ []) ≡ true = rw (has_past j k [] (λ q. n (sym q))) in
          let once = (used_sane w r plens paths tlens trees S.laid S.good S.fits).once x in
          let sum = total_marked (is_at x) w D ps bs (ps_even w r plens paths tlens trees S.laid) (bs_even w r plens paths tlens trees S.laid) (j ∷ k ∷ []) (clear j u, (clear k v, tt)) d in
          absurd (omega (arith, once, sum, ap one (same_of (path_of plens paths j) x e), ap one (same_refl x)))

  -- a used slot's tree is found
  used_found : (k : ℕ) → Used r k → find at (path_of plens paths k) (view_of w r plens paths tlens trees) ≡ some (h k)
  used_found k u =
      let a : List Held = front k w D ps bs in
      let b : List Held = back k w D ps bs in
      let e : slots w r plens paths tlens trees ≡ a ++ (h k ∷ b) = split_used k w D ps bs (clear k u).low (ps_even w r plens paths tlens trees S.laid) (bs_even w r plens paths tlens trees S.laid) u.used in
      let d : distinct (map at (a ++ (h k ∷ b))) ≡ true = ap (λ (x : List Held). distinct (map at x)) (sym e) ∙ S.laid.apart in
      ap (λ (x : List Held). find at (path_of plens paths k) (gather x)) e ∙ ap (find at (path_of plens paths k)) (gather_mid a (h k) b (distinct_before a (h k) b d)) ∙ find_put_same at (h k) (gather (a ++ b))

  module _ (p : Bytes) where
    -- the slot of the parent is among those of the list, and its tree has the entry
    parent_is_lem : (k : ℕ) → Used r k → path_of plens paths k ≡ dir p → (ks : List ℕ) → All (Used r) ks → has_parent p (map h ks) ≡ (has k ks && is_tree_entry (entry_of (base p) (tree_of w tlens trees k)))
    parent_is_lem k u e [] a = refl
    parent_is_lem k u e (j ∷ ks) a = go (parent_is_lem k u e ks a.1) (eqb j k) refl
      where
        T : ℕ → Bool
        T i = is_tree_entry (entry_of (base p) (tree_of w tlens trees i))

        other : (j ≡ k → ⊥) → (b : Bool) → same (path_of plens paths j) (dir p) ≡ b → b ≡ false
        other n true q = absurd (n (same_slot j k a.0 u (same_eq (path_of plens paths j) (dir p) q ∙ sym e)))
        other n false q = refl

        go : has_parent p (map h ks) ≡ (has k ks && T k) → (b : Bool) → eqb j k ≡ b → (same (path_of plens paths j) (dir p) && T j || has_parent p (map h ks)) ≡ (has k (j ∷ ks) && T k)
        go ih true t =
            let q : j ≡ k = eqb-true j k t in
            ap (λ (x : Bool). x && T j || has_parent p (map h ks)) (same_of (path_of plens paths j) (dir p) (ap (path_of plens paths) q ∙ e)) ∙ ap (λ (x : ℕ). T x || has_parent p (map h ks)) q
            ∙ ap (λ (x : Bool). T k || x) ih ∙ both_or (has k ks) (T k) ∙ ap (λ (x : Bool). x && T k) (sym (has_here k j ks q))
        go ih false t =
            let n : j ≡ k → ⊥ = eqb-false j k t in
            ap (λ (x : Bool). x && T j || has_parent p (map h ks)) (other n (same (path_of plens paths j) (dir p)) refl) ∙ ih ∙ ap (λ (x : Bool). x && T k) (sym (has_past k j ks n))

    -- no slot is the parent's
    parent_none : find at (dir p) (view_of w r plens paths tlens trees) ≡ none → (ks : List ℕ) → All (Used r) ks → has_parent p (map h ks) ≡ false
    parent_none f [] a = refl
    parent_none f (j ∷ ks) a = ap (λ (x : Bool). x && is_tree_entry (entry_of (base p) (tree_of w tlens trees j)) || has_parent p (map h ks)) (go (same (path_of plens paths j) (dir p)) refl) ∙ parent_none f ks a.1
      where
        go : (b : Bool) → same (path_of plens paths j) (dir p) ≡ b → b ≡ false
        go true q = some_none (h j) (sym (used_found j a.0) ∙ ap (λ (x : Bytes). find at x (view_of w r plens paths tlens trees)) (same_eq (path_of plens paths j) (dir p) q) ∙ f)
        go false q = refl

    -- a slot of the list that is at the path and has the entry
    pub below_known : (k : ℕ) → Used r k → path_of plens paths k ≡ dir p → (ks : List ℕ) → All (Used r) ks → has k ks ≡ true → is_tree_entry (entry_of (base p) (tree_of w tlens trees k)) ≡ true → has_parent p (reverse (map h ks)) ≡ true
    below_known k u e ks a t y = parent_reverse p (map h ks) ∙ parent_is_lem k u e ks a ∙ ap₂ (λ (x z : Bool). x && z) t y

    module _ (q : Bytes) (e : q ≡ dir p) (f : Answer ℕ) (g : f ≡ find_from 0 D ps q) where
      told : SlotIs w D ps bs (dir p) f
      told = subst (λ (x : Bytes). SlotIs w D ps bs x f) e (subst (SlotIs w D ps bs q) (sym g) (slot_is w r.free ps bs q (ps_even w r plens paths tlens trees S.laid) (bs_even w r plens paths tlens trees S.laid)))

      pub parent_slot : (k : ℕ) → f ≡ Some k → Used r k × (path_of plens paths k ≡ dir p)
      parent_slot k t = let s = subst (SlotIs w D ps bs (dir p)) t told in (record { low = omega (arith, length_digits 64 r.free, s.0); used = s.1 }, s.2)

      pub below_slot : (k : ℕ) → f ≡ Some k → (ks : List ℕ) → All (Used r) ks → has_parent p (reverse (map h ks)) ≡ (has k ks && is_tree_entry (entry_of (base p) (tree_of w tlens trees k)))
      below_slot k t ks a = let (u, s) = parent_slot k t in parent_reverse p (map h ks) ∙ parent_is_lem k u s ks a

      pub below_none : f ≡ None → (ks : List ℕ) → All (Used r) ks → has_parent p (reverse (map h ks)) ≡ false
      below_none t ks a = let s = subst (SlotIs w D ps bs (dir p)) t told in parent_reverse p (map h ks) ∙ parent_none s.0 ks a

-- ---- the slots that are taken

module _ {A : Type 0} (P : A → Type 0) where
  all_left : (a b : List A) → All P (a ++ b) → All P a
  all_left [] b q = tt
  all_left (x ∷ a) b q = (q.0, all_left a b q.1)

  all_right : (a b : List A) → All P (a ++ b) → All P b
  all_right [] b q = q
  all_right (x ∷ a) b q = all_right a b q.1

  all_take : (n : ℕ) (l : List A) → All P l → All P (take n l)
  all_take zero l q = tt
  all_take (suc n) [] q = tt
  all_take (suc n) (x ∷ l) q = (q.0, all_take n l q.1)

  pub all_at : (l : List A) (i : ℕ) (d : A) → i < length l → All P l → P (get_or l i d)
  all_at [] i d h q = absurd (omega arith)
  all_at (x ∷ l) zero d h q = q.0
  all_at (x ∷ l) (suc i) d h q = all_at l i d (omega arith) q.1

pub has_own : (l : List ℕ) (i : ℕ) → i < length l → has (get_or l i 0) l ≡ true
has_own [] i h = absurd (omega arith)
has_own (x ∷ l) zero h = has_here x x l refl
has_own (x ∷ l) (suc i) h = go (has_own l i (omega arith)) (eqb x (get_or l i 0)) refl
  where
    go : has (get_or l i 0) l ≡ true → (b : Bool) → eqb x (get_or l i 0) ≡ b → has (get_or l i 0) (x ∷ l) ≡ true
    go ih true t = has_here (get_or l i 0) x l (eqb-true x (get_or l i 0) t)
    go ih false t = has_past (get_or l i 0) x l (eqb-false x (get_or l i 0) t) ∙ ih

module _ {r : Record} {order : List ℕ} (o : Opened r order) where
  pub aside_used : (n : ℕ) → n ≤ r.aside → All (Used r) (take n order)
  aside_used n h = subst (All (Used r)) (take-take n r.aside order h) (all_take (Used r) n (take r.aside order) (all_left (Used r) (take r.aside order) (drop (64 - r.stacked) order) o.used.1))

  pub stacked_used : All (Used r) (drop (64 - r.stacked) order)
  stacked_used = all_right (Used r) (take r.aside order) (drop (64 - r.stacked) order) o.used.1

  -- one of those that were set aside is used, and among them
  pub aside_at : (i : ℕ) → i < r.aside → length order ≡ 64 → Used r (get_or order i 0) × (has (get_or order i 0) (take r.aside order) ≡ true)
  aside_at i h l =
      let t : List ℕ = take r.aside order in
      let n : i < length t = omega (arith, length-take-le r.aside order (omega (arith, l, o.room))) in
      let e : get_or t i 0 ≡ get_or order i 0 = get_or-take r.aside order i 0 h in
      (subst (Used r) e (all_at (Used r) t i 0 n (aside_used r.aside (omega arith))), ap (λ (x : ℕ). has x t) (sym e) ∙ has_own t i n)

  pub aside_low : (i : ℕ) → i < r.aside → length order ≡ 64 → get_or order i 0 < 64
  aside_low i h l = (aside_at i h l).0.low

  pub stacked_low : (i : ℕ) → 64 - r.stacked ≤ i → i < 64 → length order ≡ 64 → get_or order i 0 < 64
  stacked_low i h g l =
      let a : ℕ = 64 - r.stacked in
      let u : Used r (get_or (drop a order) (i - a) 0) = all_at (Used r) (drop a order) (i - a) 0 (omega (arith, length-drop a order)) stacked_used in
      let e : a + (i - a) ≡ i = omega arith in
      omega (arith, u.low, get_or-drop a order (i - a) 0, ap (λ (x : ℕ). get_or order x 0) e)
