-- What a call that reads the tree in a slot asks, and what one that drops null entries leaves. Assumes nothing.
use Rattle.std.specs.Prelude.{◌≡◌, List, [], ℕ, ◌+◌, ◌≤◌, ◌<◌, length, get_or}
use Rattle.model.specs.Bytes.{Bytes}
use Rattle.model.specs.Tree.{null, without_id}
use Rattle.names_compact.specs.Compact.{packed_all, unpack, Run}
use Rattle.store_runs.specs.Runs.{cut, Sound}
use Rattle.store_slots.specs.declared.Record.{Record}
use Rattle.store_trees.specs.declared.nulls.Left.{Left}

-- the run of the slot k is a tree in compact form
pub record Readable (w : ℕ) (r : Record) (tlens trees : List ℕ) (k : ℕ) : Type 0 where
  pub sound : Sound tlens trees r.trees
  pub low : k < length tlens
  pub run : Run w (get_or (cut tlens trees) k [])
  pub narrow : w ≤ 64
  pub small : length trees ≤ 4294967296

-- the entries of a run whose ids are null are gone: so many, and of the used bytes so many are left
pub record Fewer (w : ℕ) (b : Bytes) (used : ℕ) (r : Left) : Type 0 where
  pub less : r.used ≤ used
  pub bytes : r.used + length b ≡ used + length (packed_all (without_id (null w) (unpack w b)))
  pub entries : length (without_id (null w) (unpack w b)) + r.gone ≡ length (unpack w b)
