-- What a look for a name finds. Assumes nothing.
use Rattle.std.specs.Prelude.{◌≡◌, Bool, true, false, Option as Opt}
use Rattle.std.proofs.Math.Option.{Option, some}
use Rattle.model.specs.Bytes.{Bytes}
use Rattle.model.specs.Tree.{Entry, Tree, entry_of, entry_of_lookup}
use Rattle.model.specs.Raw.{read_tree}
use Rattle.editor_terms.specs.Edits.{parts_of, seen_as}
use Rattle.editor_terms.specs.declared.edit.Seen.{Seen}

-- a lookup's entry of a name, or an edit's
abbrev pub entry_by : Bool → Bytes → Tree → Option Entry
entry_by true n t = entry_of_lookup n t
entry_by false n t = entry_of n t

-- r is the entry of the name in the tree that the bytes are the raw form of
pub record SeenIn (raw name : Bytes) (r : Opt Seen) : Type 0 where
  pub is : (t : Tree) → read_tree 20 raw ≡ some t → seen_as r ≡ parts_of (entry_of name t)
