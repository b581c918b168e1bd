-- A record and lent slices hold an editor. Assumes nothing.
use Rattle.std.specs.Prelude.{ℕ, ◌≤◌, List, length, take}
use Rattle.model.specs.Editor.{Format}
use Rattle.store_slots.specs.View.{tree_room, Holds}
use Rattle.store_slots.specs.declared.Record.{Record}

-- the slices are as long as a store, and their fronts hold an editor
pub record Stored (F : Format) (r : Record) (plens paths tlens trees order : List ℕ) : Type 0 where
  pub plens_room : 64 ≤ length plens
  pub paths_room : 8192 ≤ length paths
  pub tlens_room : 64 ≤ length tlens
  pub trees_room : tree_room F.width ≤ length trees
  pub order_room : 64 ≤ length order
  pub holds : Holds F r (take 64 plens) (take 8192 paths) (take 64 tlens) (take (tree_room F.width) trees) (take 64 order)
