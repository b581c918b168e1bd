-- Edits of a store as one value: the paths stay, so that what is said over the lists before is said over those after.
use Rattle.std.proofs.Common.{◌≡◌, true, ℕ, ◌∙◌, take}
use Rattle.model.specs.Map.{put}
use Rattle.model.specs.Tree.{Tree}
use Rattle.model.specs.Editor.{at, fits}
use Rattle.store_runs.specs.Runs.{total}
use Rattle.store_slots.specs.declared.Store.{Store}
use Rattle.store_slots.specs.declared.View.{View}
use Rattle.store_slots.specs.View.{held_as, view_of}
use Rattle.store_slots.specs.Stores.{LaidIn, SameKeys, SameLent, Shows, path_in_slot}
use Rattle.store_entries.specs.Entries.{Edited, EditedIn, FitsWith}
use Rattle.store_entries.proofs.EditLaws.{edited_same, edited_twice}

module _ {w : ℕ} {s q : Store} {k : ℕ} {t : Tree} (e : EditedIn w s k t q) where
  pub laid_after : LaidIn w q
  laid_after = rw (e.keys.plens, e.keys.paths) e.edit.laid

  -- the edit, with the paths as they are after it
  pub edit_after : (u : Tree) (p : Store) → EditedIn w q k u p → Edited w q.ed s.plens.now s.paths.now q.tlens.now q.trees.now k u p.ed p.tlens.now p.trees.now
  edit_after u p f = rw (e.keys.plens, e.keys.paths) at f.edit

  pub keys_twice : (u : Tree) (p : Store) → EditedIn w q k u p → SameKeys s p
  keys_twice u p f = record { plens = f.keys.plens ∙ e.keys.plens; paths = f.keys.paths ∙ e.keys.paths }

  pub lent_twice : (u : Tree) (p : Store) → EditedIn w q k u p → SameLent s p
  lent_twice u p f = record { plens = f.lent.plens ∙ e.lent.plens; paths = f.lent.paths ∙ e.lent.paths; tlens = f.lent.tlens ∙ e.lent.tlens; trees = f.lent.trees ∙ e.lent.trees }

pub edits_twice : {w : ℕ} {s q p : Store} {k : ℕ} {t u : Tree} → EditedIn w s k t q → EditedIn w q k u p → EditedIn w s k u p
edits_twice {p = p} {u = u} e f = record { edit = edited_twice e.edit (edit_after e u p f); keys = keys_twice e u p f; lent = lent_twice e u p f }

pub edit_is : {w : ℕ} {s q : Store} {k : ℕ} {t : Tree} → EditedIn w s k t q → (u : Tree) → t ≡ u → EditedIn w s k u q
edit_is e u h = record { edit = edited_same e.edit u h; keys = e.keys; lent = e.lent }

-- with a tree more in its slot, what fits before fits after the edit
pub fits_after : {w : ℕ} {s q : Store} {k : ℕ} {t : Tree} → EditedIn w s k t q → (u : Tree)
    → fits (put at (held_as (path_in_slot s k) u) (view_of w q.ed s.plens.now s.paths.now q.tlens.now q.trees.now)) ≡ true → FitsWith w q k u
fits_after e u h = rw (e.keys.plens, e.keys.paths) h

-- a run that is written over
pub rewritten : {w : ℕ} {s q : Store} {k : ℕ} {t : Tree} → Edited w s.ed s.plens.now s.paths.now s.tlens.now s.trees.now k t s.ed s.tlens.now q.trees.now
    → q.ed ≡ s.ed → q.tlens.now ≡ s.tlens.now → SameKeys s q → SameLent s q → EditedIn w s k t q
rewritten e f g h l = record { edit = rw (f, g) e; keys = h; lent = l }

-- where a run starts in a view, it starts in the store
pub start_seen : (v : View) (s : Store) (k n : ℕ) → Shows v s → n ≡ total (take k v.tlens.now) → n ≡ total (take k s.tlens.now)
start_seen v s k n h e = rw (← h.tlens) e
