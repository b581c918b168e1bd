-- What edits, and what an edit does at a component, mean in the model. Assumes nothing.
use Rattle.std.specs.Prelude.{ℕ, ◌≡◌, Bool, true, false, Option as Opt, Some, None}
use Rattle.std.proofs.Math.Option.{Option, none, some}
use Rattle.model.specs.Bytes.{Bytes}
use Rattle.model.specs.Tree.{Mode, Entry, Tree, entry_of, without, with_entry, null}
use Rattle.model.specs.Walk as walk
use Rattle.model.specs.Measure.{Counts, plus_name, less_name, Sight, stays, ends, goes, seen}
use Rattle.names.specs.Answers.{as_mode, entry}
use Rattle.editor_terms.specs.Answers.{code_number}
use Rattle.editor_terms.specs.Ids.{id_bytes}
use Rattle.editor_terms.specs.declared.edit.RemoveKind.{RemoveKind}
use Rattle.editor_terms.specs.declared.edit.RemoveKind.TheVariants.{Any, Leaf}
use Rattle.editor_terms.specs.declared.edit.Edit.{Edit}
use Rattle.editor_terms.specs.declared.edit.Edit.TheVariants.{Remove, Upsert}
use Rattle.editor_terms.specs.declared.edit.Seen.{Seen}
use Rattle.editor_terms.specs.declared.id.Id.{Id}
use Rattle.editor_terms.specs.declared.edit.Turn.{Turn}
use Rattle.editor_terms.specs.declared.edit.Turn.TheVariants.{Stop, Cut, Put, Down}

abbrev pub as_removal : RemoveKind → walk.RemoveKind
as_removal Any = walk.ANY
as_removal Leaf = walk.LEAF

abbrev pub as_edit : Edit → walk.Edit
as_edit (Remove kind) = walk.remove (as_removal kind)
as_edit (Upsert kind id) = walk.upsert (as_mode kind) (id_bytes id)

-- mode and id of an entry, which are what an edit and a lookup ask of it
abbrev pub parts_of : Option Entry → Option (Mode × Bytes)
parts_of none = none
parts_of (some e) = some (e.mode, e.id)

abbrev pub seen_as : Opt Seen → Option (Mode × Bytes)
seen_as (Some s) = some (as_mode s.kind, id_bytes s.id)
seen_as None = none

-- the current tree after a turn at the name n, the id of the tree to load below, and the number of a walk that ends here
abbrev pub changed : Turn → Bytes → Tree → Tree
changed (Stop answer) n t = t
changed Cut n t = without n t
changed (Put kind id) n t = with_entry (entry kind n (id_bytes id)) t
changed (Down id) n t = t

abbrev pub wanted_by : Turn → Option Bytes
wanted_by (Stop answer) = none
wanted_by Cut = none
wanted_by (Put kind id) = none
wanted_by (Down id) = some (id_bytes id)

abbrev pub ends_with : Turn → ℕ
ends_with (Stop answer) = code_number answer
ends_with Cut = 0
ends_with (Put kind id) = 0
ends_with (Down id) = 0

abbrev pub wanted_as : Opt Id → Option Bytes
wanted_as (Some id) = some (id_bytes id)
wanted_as None = none

-- the model's turn that a turn is, at the last component or an earlier one
abbrev pub turn_as : Turn → Bool → Bytes → Tree → walk.Turn
turn_as (Stop answer) is_last n t = walk.stop (code_number answer)
turn_as Cut is_last n t = walk.last (changed Cut n t)
turn_as (Put kind id) true n t = walk.last (changed (Put kind id) n t)
turn_as (Put kind id) false n t = walk.down (changed (Put kind id) n t) none
turn_as (Down id) is_last n t = walk.down t (some (id_bytes id))

-- whether the walk goes down after a turn; the opening of a cursor (`opening`) does so at the last component too
abbrev pub goes_on : Bool → walk.Turn → Bool
goes_on opening (walk.stop code) = false
goes_on opening (walk.last t) = opening
goes_on opening (walk.down t id) = true

-- the counts after a turn, where this was seen
abbrev pub put_counts : Opt Seen → Bytes → Counts → Counts
put_counts (Some s) n u = u
put_counts None n u = plus_name n u

abbrev pub counts_after : Turn → Opt Seen → Bytes → Counts → Counts
counts_after (Stop answer) s n u = u
counts_after Cut s n u = less_name n u
counts_after (Put kind id) s n u = put_counts s n u
counts_after (Down id) s n u = u

abbrev pub sight_as : Turn → Bool → Opt Seen → Bytes → Counts → Sight
sight_as (Stop answer) is_last s n u = stays (code_number answer)
sight_as Cut is_last s n u = ends (less_name n u)
sight_as (Put kind id) true s n u = ends (put_counts s n u)
sight_as (Put kind id) false s n u = goes (put_counts s n u) none
sight_as (Down id) is_last s n u = goes u (some (id_bytes id))

-- whether the turn depends on what is seen: an upsert at the last component does not
abbrev pub looks : Edit → Bool → Bool
looks (Remove kind) is_last = true
looks (Upsert kind id) true = false
looks (Upsert kind id) false = true

-- r is the turn of the edit e where s was seen: the model's turn in each tree whose entry of the name is so, and the measure's sight
pub record TurnIs (e : Edit) (is_last : Bool) (s : Opt Seen) (r : Turn) : Type 0 where
  pub walks : (n : Bytes) (t : Tree) → (looks e is_last ≡ true → seen_as s ≡ parts_of (entry_of n t)) → walk.turn (null 20) is_last (as_edit e) n t ≡ turn_as r is_last n t
  pub counts : (n : Bytes) (u : Counts) (o : Option Entry) → seen_as s ≡ parts_of o → seen is_last (as_edit e) n u o ≡ sight_as r is_last s n u
