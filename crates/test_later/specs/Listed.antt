-- The entries that a list of keys stands for. Assumes nothing.
use Rattle.std.specs.Prelude.{ℕ, List, [], map, cond, drop}
use Rattle.std.proofs.Math.Option.{Option, some}
use Rattle.model.specs.Tree.{Entry, Tree, TREE, BLOB}
use Rattle.names.specs.declared.order.Key.{Key}

abbrev pub entry_of_key : Key → Entry
entry_of_key k = record { mode = cond k.tree TREE BLOB; name = k.name.now; id = [] }

abbrev pub listed : List Key → ℕ → Option Tree
listed ks at = some (map entry_of_key (drop at ks))
