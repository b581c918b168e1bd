-- What a view of a store says is said of the store: it has the same lists.
use Rattle.std.proofs.Common.{◌≡◌, ℕ}
use Rattle.model.specs.Bytes.{Bytes}
use Rattle.store_runs.specs.Runs.{run_of}
use Rattle.store_slots.specs.declared.Store.{Store}
use Rattle.store_slots.specs.declared.View.{View}
use Rattle.store_slots.specs.Stores.{Shows}

pub tree_seen : (v : View) (s : Store) (k : ℕ) (b : Bytes) → Shows v s → b ≡ run_of v.tlens.now v.trees.now k → b ≡ run_of s.tlens.now s.trees.now k
tree_seen v s k b h e = rw (← h.tlens, ← h.trees) e

pub path_seen : (v : View) (s : Store) (k : ℕ) (b : Bytes) → Shows v s → b ≡ run_of v.plens.now v.paths.now k → b ≡ run_of s.plens.now s.paths.now k
path_seen v s k b h e = rw (← h.plens, ← h.paths) e
