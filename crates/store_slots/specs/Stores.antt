-- A store in the code's own form: a record and slices that are lent to be changed, or to be read. The definitions over lists are applied to what they hold.
-- Assumes nothing.
use Rattle.std.specs.Prelude.{◌≡◌, ℕ, List}
use Rattle.model.specs.Bytes.{Bytes}
use Rattle.model.specs.Tree.{Tree}
use Rattle.model.specs.Editor.{Cache, Held}
use Rattle.store_runs.specs.Runs.{Sound}
use Rattle.store_slots.specs.View.{Laid, Others, view_of, cached_of, held_at, path_of, tree_of}
use Rattle.store_slots.specs.declared.Store.{Store}
use Rattle.store_slots.specs.declared.View.{View}

-- the slices are the same ones
pub record SameLent (s q : Store) : Type 0 where
  pub plens : q.plens.ghost_name ≡ s.plens.ghost_name
  pub paths : q.paths.ghost_name ≡ s.paths.ghost_name
  pub tlens : q.tlens.ghost_name ≡ s.tlens.ghost_name
  pub trees : q.trees.ghost_name ≡ s.trees.ghost_name

-- the paths are as they were
pub record SameKeys (s q : Store) : Type 0 where
  pub plens : q.plens.now ≡ s.plens.now
  pub paths : q.paths.now ≡ s.paths.now

-- the runs of trees are as they were
pub record SameTrees (s q : Store) : Type 0 where
  pub tlens : q.tlens.now ≡ s.tlens.now
  pub trees : q.trees.now ≡ s.trees.now

-- v shows what s holds
pub record Shows (v : View) (s : Store) : Type 0 where
  pub ed : v.ed ≡ s.ed
  pub plens : v.plens.now ≡ s.plens.now
  pub paths : v.paths.now ≡ s.paths.now
  pub tlens : v.tlens.now ≡ s.tlens.now
  pub trees : v.trees.now ≡ s.trees.now

abbrev pub LaidIn : ℕ → Store → Type 0
LaidIn w s = Laid w s.ed s.plens.now s.paths.now s.tlens.now s.trees.now

abbrev pub LaidSeen : ℕ → View → Type 0
LaidSeen w v = Laid w v.ed v.plens.now v.paths.now v.tlens.now v.trees.now

abbrev pub view_in : ℕ → Store → Cache
view_in w s = view_of w s.ed s.plens.now s.paths.now s.tlens.now s.trees.now

abbrev pub cached_in : ℕ → Store → Cache
cached_in w s = cached_of w s.ed s.plens.now s.paths.now s.tlens.now s.trees.now

-- the path and the tree of a slot
abbrev pub held_in_slot : ℕ → Store → ℕ → Held
held_in_slot w s k = held_at w s.plens.now s.paths.now s.tlens.now s.trees.now k

abbrev pub path_in_slot : Store → ℕ → Bytes
path_in_slot s k = path_of s.plens.now s.paths.now k

abbrev pub tree_in_slot : ℕ → Store → ℕ → Tree
tree_in_slot w s k = tree_of w s.tlens.now s.trees.now k

-- every path but that of the slot k is as it was, and every tree but its
abbrev pub OtherKeys : Store → ℕ → Store → Type 0
OtherKeys s k q = Others s.plens.now s.paths.now k q.plens.now q.paths.now

abbrev pub OtherTrees : Store → ℕ → Store → Type 0
OtherTrees s k q = Others s.tlens.now s.trees.now k q.tlens.now q.trees.now

-- the lengths of the paths, and of the trees, cut their bytes
abbrev pub KeysSound : View → Type 0
KeysSound v = Sound v.plens.now v.paths.now v.ed.paths

abbrev pub TreesSound : View → Type 0
TreesSound v = Sound v.tlens.now v.trees.now v.ed.trees
