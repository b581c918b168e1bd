-- What an edit of the tree in a slot leaves. Assumes nothing.
use Rattle.std.specs.Prelude.{◌≡◌, true, false, List, ℕ}
use Rattle.std.proofs.Math.Option.{none}
use Rattle.model.specs.Bytes.{Bytes}
use Rattle.model.specs.Map.{find, put}
use Rattle.model.specs.Tree.{Entry, Tree, key, as_kind}
use Rattle.model.specs.Editor.{at, fits}
use Rattle.names.specs.Answers.{entry}
use Rattle.names.specs.declared.write.Entry as W
use Rattle.store_slots.specs.declared.Record.{Record}
use Rattle.store_slots.specs.declared.Store.{Store}
use Rattle.store_slots.specs.Stores.{SameKeys, SameLent, path_in_slot, view_in}
use Rattle.store_slots.specs.View.{view_of, held_as, Laid, Used, Others, SameWrite, path_of, tree_of}

-- no entry has the name, as a tree or otherwise
pub record Fresh (n : Bytes) (t : Tree) : Type 0 where
  pub file : find key (as_kind false n) t ≡ none
  pub tree : find key (as_kind true n) t ≡ none

-- the record is as it was, but for what is in use of the trees' slice
pub record Kept (r q : Record) : Type 0 where
  pub free : q.free ≡ r.free
  pub hidden : q.hidden ≡ r.hidden
  pub paths : q.paths ≡ r.paths
  pub write : SameWrite r q

-- the tree in the slot k became t, and nothing else changed
pub record Edited (w : ℕ) (r : Record) (plens paths tlens trees : List ℕ) (k : ℕ) (t : Tree) (q : Record) (tlens' trees' : List ℕ) : Type 0 where
  pub view : view_of w q plens paths tlens' trees' ≡ put at (held_as (path_of plens paths k) t) (view_of w r plens paths tlens trees)
  pub laid : Laid w q plens paths tlens' trees'
  pub tree : tree_of w tlens' trees' k ≡ t
  pub used : Used q k
  pub kept : Kept r q
  pub others : Others tlens trees k tlens' trees'

-- ---- in the code's own form

-- the entry that is given
abbrev pub written : W.Entry → Entry
written e = entry e.kind e.name.now e.id.now

-- with this tree in the slot k the limits are kept
abbrev pub FitsWith : ℕ → Store → ℕ → Tree → Type 0
FitsWith w s k t = fits (put at (held_as (path_in_slot s k) t) (view_in w s)) ≡ true

-- the tree in the slot k of a store became t, and nothing else changed
pub record EditedIn (w : ℕ) (s : Store) (k : ℕ) (t : Tree) (q : Store) : Type 0 where
  pub edit : Edited w s.ed s.plens.now s.paths.now s.tlens.now s.trees.now k t q.ed q.tlens.now q.trees.now
  pub keys : SameKeys s q
  pub lent : SameLent s q
