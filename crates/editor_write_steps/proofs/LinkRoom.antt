-- An answer never needs room: the parent has a tree entry of the name, so that the new one is as long. Assumes nothing.
use mathlib.Core.Path.{◌≡◌, refl, sym, ap, ap₂, ◌∙◌}
use mathlib.Core.Bool.{true, ◌&&◌}
use mathlib.Core.Option.{none, some}
use mathlib.Core.List.{List, [], ◌∷◌}
use Prim.Native.Nat.{ℕ, ◌+◌, ◌≤◌, ◌<◌, Ordering}
use lib.Dec.{leb}
use lib.ListN.{length}
use native.Mathlib.Omega.{arith}
use Rattle.model.specs.Bytes.{Bytes, cmp, by}
use Rattle.model.specs.Map.{find, put}
use Rattle.model.specs.Tree.{TREE, Tree, as_kind, entry_of, with_entry, good_name, well_formed, name_bytes}
use Rattle.model.specs.Paths.{base, dir}
use Rattle.model.specs.Editor.{Held, at, Cache, entry_count, name_count, path_count, fits}
use Rattle.model.specs.Valid.{is_tree_entry}
use Rattle.model.proofs.Basics.{none_some, some_inj}
use Rattle.model.proofs.ChangeLaws.{Plain}
use Rattle.model.proofs.SoundTrees.{total, sound_well, name_of}
use Rattle.model.proofs.RoomCounts.{found_at, trees_total, entries_total, names_total, paths_total}
use Rattle.model.proofs.RawLaws.{well_entries}
use Rattle.model.proofs.WriteKeepsTrees.{good_find, is_some, set_keeps}
use Rattle.model.proofs.DirBaseLaws.{base_plain}
use Rattle.names_compact.proofs.CompactLaws.{name_short}
use Rattle.store_runs.specs.Runs.{Sound}
use Rattle.store_slots.specs.View.{Used}
use Rattle.store_slots.specs.declared.Store.{Store}
use Rattle.store_slots.specs.Stores.{LaidIn, path_in_slot, tree_in_slot, view_in}
use Rattle.store_slots.proofs.Relaid.{find_slot}
use Rattle.store_entries.specs.Entries.{FitsWith}
use Rattle.editor_write_steps.specs.Writes.{ChildIn}
use Rattle.editor_write_steps.proofs.LinkLaws.{AtParent, parent_there, is_parent}

-- a tree put in the place of one that weighs the same
total_same : (f : Held → ℕ) (a x : Held) (l : Cache) → f a ≡ f x → find at a.path l ≡ some x → total f (put at a l) ≡ total f l
total_same f a x [] q e = none_some x e
total_same f a x (y ∷ l) q e = go (total_same f a x l q) (cmp a.path y.path) e
  where
    go : (find at a.path l ≡ some x → total f (put at a l) ≡ total f l) → (o : Ordering) → by o none (some y) (find at a.path l) ≡ some x → total f (by o (a ∷ y ∷ l) (a ∷ l) (y ∷ put at a l)) ≡ f y + total f l
    go ih Ordering.lt h = none_some x h
    go ih Ordering.eq h = ap (λ (n : ℕ). n + total f l) (q ∙ ap f (sym (some_inj y x h)))
    go ih Ordering.gt h = ap (λ (n : ℕ). f y + n) (ih h)

-- the limits hold as before
same_fits : (p : Bytes) (t v : Tree) (c : Cache) → length v ≡ length t → name_bytes v ≡ name_bytes t → find at p c ≡ some (record { path = p; held = t }) → fits c ≡ true → fits (put at (record { path = p; held = v }) c) ≡ true
unfolding fits
same_fits p t v c l n e h =
    let a : Held = record { path = p; held = v } in
    let x : Held = record { path = p; held = t } in
    let d = put at a c in
    let k₁ : length d ≡ length c = trees_total d ∙ total_same (λ y. 1) a x c refl e ∙ sym (trees_total c) in
    let k₂ : entry_count d ≡ entry_count c = entries_total d ∙ total_same (λ y. length y.held) a x c l e ∙ sym (entries_total c) in
    let k₃ : name_count d ≡ name_count c = names_total d ∙ total_same (λ y. name_bytes y.held) a x c n e ∙ sym (names_total c) in
    let k₄ : path_count d ≡ path_count c = paths_total d ∙ total_same (λ y. length y.path) a x c refl e ∙ sym (paths_total c) in
    ap₂ (λ (i j : ℕ). leb i 64 && leb j 1024 && leb (name_count d) 16384 && leb (path_count d) 8192) k₁ k₂
    ∙ ap₂ (λ (i j : ℕ). leb (length c) 64 && leb (entry_count c) 1024 && leb i 16384 && leb j 8192) k₃ k₄ ∙ h

module _ (w : ℕ) (n : Bytes) (pn : Plain n) (t : Tree) (wt : well_formed w t ≡ true) (h : is_tree_entry (entry_of n t) ≡ true) where
  -- the name of a tree entry is a good one
  pub entry_named : good_name n ≡ true
  entry_named =
      let (x, f) = is_some (entry_of n t) h in
      let (b, g) = found_at n t x f in
      ap good_name (sym (name_of t (sound_well w t wt) b n x pn g)) ∙ good_find w t (well_entries w t wt) (as_kind b n) x g

  -- a new id in the place of a tree entry's takes no room
  pub set_fits : (p i : Bytes) (c : Cache) → find at p c ≡ some (record { path = p; held = t }) → fits c ≡ true → fits (put at (record { path = p; held = with_entry (record { mode = TREE; name = n; id = i }) t }) c) ≡ true
  set_fits p i c e f =
      let k = set_keeps w n pn t wt h i in
      same_fits p t (with_entry (record { mode = TREE; name = n; id = i }) t) c k.entries k.names e f

-- ---- of the tree in hand

module _ {w : ℕ} (s : Store) {slot : ℕ} {order : List ℕ} (L : LaidIn w s) (h : ChildIn w s order slot) where
  low : slot < 64
  low = h.between.marks.used.0.low

  -- the parent is there
  pub parent_asked : Sound s.plens.now s.paths.now s.ed.paths × (length s.plens.now ≡ 64) × (slot < 64) × ((j : ℕ) × Used s.ed j × (path_in_slot s j ≡ dir (path_in_slot s slot)))
  parent_asked =
      let (j, p) = parent_there w s.ed s.plens.now s.paths.now s.tlens.now s.trees.now order (slot ∷ []) (path_in_slot s slot) h.between h.parent in
      (L.paths_sound, L.plens_64, low, (j, p.used, p.is.path))

  module _ {k : ℕ} (u : AtParent s slot k) where
    well : well_formed w (tree_in_slot w s k) ≡ true
    well = L.well k u.0.low

    pub name_good : good_name (base (path_in_slot s slot)) ≡ true
    name_good = entry_named w (base (path_in_slot s slot)) (base_plain (path_in_slot s slot)) (tree_in_slot w s k) well (is_parent s L u order h).is.entry

    pub link_fits : (i : Bytes) → fits (view_in w s) ≡ true → FitsWith w s k (with_entry (record { mode = TREE; name = base (path_in_slot s slot); id = i }) (tree_in_slot w s k))
    link_fits i f =
        set_fits w (base (path_in_slot s slot)) (base_plain (path_in_slot s slot)) (tree_in_slot w s k) well (is_parent s L u order h).is.entry (path_in_slot s k) i (view_in w s)
        (find_slot w s.ed s.plens.now s.paths.now s.tlens.now s.trees.now L k u.0.low u.0.used) f

  -- its name is a short one
  pub name_asked : Sound s.plens.now s.paths.now s.ed.paths × (slot < length s.plens.now) × (length (base (path_in_slot s slot)) ≤ 255)
  name_asked =
      let l = L.plens_64 in
      let p = parent_asked.3 in
      (L.paths_sound, omega (arith, low, l), name_short (base (path_in_slot s slot)) (name_good (p.1, p.2)))
