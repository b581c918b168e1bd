-- `store_entries::insert_key` meets its contract: the search gives the place where the model puts the entry. Assumes nothing.
use mathlib.Core.Bool.{Bool, true, false}
use mathlib.Core.Option.{none}
use mathlib.Core.Path.{◌≡◌, refl}
use Rattle.model.specs.Bytes.{Bytes}
use Rattle.model.specs.Map.{find}
use Rattle.model.specs.Tree.{Tree, key, as_kind}
use Rattle.store_entries.specs.Entries.{Fresh}
use Rattle.store_entries.proofs.EditLaws.{not_found}
use Rattle.store_entries.proofs.insert_key.Goals as goal

-- the tree has no entry of the name, of whichever kind
none_of : (n : Bytes) (t : Tree) → Fresh n t → (b : Bool) → find key (as_kind b n) t ≡ none
none_of n t f true = f.tree
none_of n t f false = f.file

pub unreachable-requires : goal.unreachable-requires
unreachable-requires c = not_found c.requires.0 c.requires.2 refl _ (none_of _ _ c.requires.5 _) c.in_default.ensures

pub insert_at-requires : goal.insert_at-requires
insert_at-requires c = (c.requires.0, c.requires.1, c.requires.2, c.requires.3, c.requires.4, c.requires.5, c.requires.6, c.in-Err.ensures)
