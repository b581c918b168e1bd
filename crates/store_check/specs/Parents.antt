-- The stacked trees that lie below one tree: what is told of a walk over its entries. Assumes nothing.
use Rattle.std.specs.Prelude.{◌≡◌, true, false, List, ℕ, ◌-◌, ◌≤◌, ◌<◌, length, take, get_or}
use Rattle.model.specs.Bytes.{Bytes, has}
use Rattle.model.specs.Tree.{Tree, entry_of, well_formed}
use Rattle.model.specs.Paths.{base, dir}
use Rattle.model.specs.Valid.{is_tree_entry, has_parent}
use Rattle.names_compact.specs.Compact.{unpack, offset, Run}
use Rattle.store_runs.specs.Runs.{total}
use Rattle.store_slots.specs.View.{path_of}
use Rattle.store_slots.specs.declared.Record.{Record}
use Rattle.store_check.specs.Written.{aside_by}
use Rattle.store_check.specs.declared.parents.Known.{Known}

-- a run of a well-formed tree, with ids of w bytes
pub record Read (w : ℕ) (b : Bytes) : Type 0 where
  pub run : Run w b
  pub narrow : w ≤ 64
  pub well : well_formed w (unpack w b) ≡ true

-- an entry of the run starts at a, or the run ends there
pub record Starts (w : ℕ) (b : Bytes) (a : ℕ) : Type 0 where
  pub index : ℕ
  pub within : index ≤ length (unpack w b)
  pub is : a ≡ offset w b index

-- n is the name of a tree entry, and so without a slash
pub record Named (n : Bytes) (t : Tree) : Type 0 where
  pub plain : has 47 n ≡ false
  pub entry : is_tree_entry (entry_of n t) ≡ true

-- the path p lies one component below q, and the tree t has a tree entry for it
pub record Child (q : Bytes) (t : Tree) (p : Bytes) : Type 0 where
  pub above : dir p ≡ q
  pub entry : is_tree_entry (entry_of (base p) t) ≡ true

-- the first n of them say where the first n runs start
pub record Begins (lens : List ℕ) (n : ℕ) (begins : List ℕ) : Type 0 where
  pub length : length begins ≡ length lens
  pub at : (k : ℕ) → k < n → get_or begins k 0 ≡ total (take k lens)

-- the paths of the slots, and where they start
pub record Begun (plens paths begins : List ℕ) : Type 0 where
  pub fits : total plens ≤ length paths
  pub plens_64 : length plens ≡ 64
  pub starts : Begins plens 64 begins

-- the paths, and slots that stand in the table from lo to hi
pub record Table (plens paths begins order : List ℕ) (lo hi : ℕ) : Type 0 where
  pub begun : Begun plens paths begins
  pub order_64 : length order ≡ 64
  pub up : lo ≤ hi
  pub high : hi ≤ 64
  pub slot : (j : ℕ) → lo ≤ j → j < hi → get_or order j 0 < 64

-- those of them from i on are at paths below q with a tree entry for each
pub record Children (q : Bytes) (t : Tree) (plens paths order : List ℕ) (lo hi i : ℕ) : Type 0 where
  pub low : lo ≤ i
  pub high : i ≤ hi
  pub each : (j : ℕ) → i ≤ j → j < hi → Child q t (path_of plens paths (get_or order j 0))

-- the stacked trees that stand in the table from i on lie below those that were set aside
pub record Parented (w : ℕ) (r : Record) (plens paths tlens trees order : List ℕ) (i : ℕ) : Type 0 where
  pub low : 64 - r.stacked ≤ i
  pub high : i ≤ 64
  pub each : (j : ℕ) → i ≤ j → j < 64 → has_parent (path_of plens paths (get_or order j 0)) (aside_by w plens paths tlens trees order r.aside) ≡ true

-- and so does the requested tree, where that is known
pub record Hanging (w : ℕ) (r : Record) (plens paths tlens trees order : List ℕ) (f : Known) : Type 0 where
  pub stacked : Parented w r plens paths tlens trees order f.low
  pub asked : f.asked ≡ true → has_parent (path_of plens paths r.asked) (aside_by w plens paths tlens trees order r.aside) ≡ true
