-- The tree that the first pass is at, and what a step of it says of the model's measure. Assumes nothing.
use Rattle.std.specs.Prelude.{ℕ, ◌<◌, ◌≡◌, Bool, true, false, List, [], length, Option as Opt, Result, Ok, Err}
use Rattle.std.specs.declared.ops.ControlFlow.{ControlFlow}
use Rattle.std.specs.declared.ops.ControlFlow.TheVariants.{Continue, Break}
use Rattle.std.proofs.Math.Option.{Option, some}
use Rattle.model.specs.Bytes.{Bytes, is_nil}
use Rattle.model.specs.Map.{find, rising}
use Rattle.model.specs.Tree.{Tree, key, entry_of, name_bytes}
use Rattle.model.specs.Raw.{read_tree}
use Rattle.model.specs.Table.{Table}
use Rattle.model.specs.Editor.{at, Cache}
use Rattle.model.specs.Formats.{sha1}
use Rattle.model.specs.Walk.{Edit}
use Rattle.model.specs.Measure.{Counts, within, plus_tree, seen, there, lands, halts, landing, Measured, over, counted, pick_measured, on_landing, on_sight}
use Rattle.model.specs.Measure as measure
use Rattle.names.specs.declared.tree.Size.{Size}
use Rattle.names_compact.specs.Compact.{Run}
use Rattle.store_runs.specs.Runs.{run_of, Sound}
use Rattle.store_slots.specs.View.{tree_of}
use Rattle.editor_terms.specs.Answers.{Answer, code_number, refusal_number}
use Rattle.editor_terms.specs.declared.refusal.Refusal.{Refusal}
use Rattle.editor_terms.specs.Edits.{parts_of, seen_as}
use Rattle.editor_terms.specs.declared.edit.Seen.{Seen}
use Rattle.editor_walk.specs.Counted.{counts_as}
use Rattle.editor_walk.specs.Landings.{RawIs}
use Rattle.editor_walk.specs.declared.land.Landing.{Landing}
use Rattle.editor_walk.specs.declared.land.Landing.TheVariants.{There, Fresh, Load, Halt}
use Rattle.editor_walk.specs.declared.measure.Level.{Level}
use Rattle.editor_walk.specs.declared.task.Task.{Task}
use Rattle.editor_walk.specs.Tasks.{table_for, edit_for}
use Rattle.editor_walk.specs.declared.measure.Level.TheVariants.{Slot, Raw, Empty}
use Rattle.editor_walk.specs.declared.measure.Stage.{Stage}

-- the trees of the slots can be searched
pub record Stored (used : ℕ) (tlens trees : List ℕ) : Type 0 where
  pub sound : Sound tlens trees used
  pub all : length tlens ≡ 64
  pub runs : (k : ℕ) → k < 64 → Run 20 (run_of tlens trees k)
  pub order : (k : ℕ) → k < 64 → rising key (tree_of 20 tlens trees k) ≡ true

-- the tree t is the one at this level: in a slot, raw in the table, or empty
abbrev pub Stands : List ℕ → List ℕ → Level → Tree → Type 0
Stands tlens trees (Slot slot) t = (slot < 64) × (t ≡ tree_of 20 tlens trees slot)
Stands tlens trees (Raw raw) t = read_tree 20 raw.now ≡ some t
Stands tlens trees Empty t = t ≡ []

-- r is the entry of the name in the tree at this level
pub record SeenAt (tlens trees : List ℕ) (level : Level) (name : Bytes) (r : Opt Seen) : Type 0 where
  pub is : (t : Tree) → Stands tlens trees level t → seen_as r ≡ parts_of (entry_of name t)

-- g says of a step how the measure goes on: whatever comes after it, a limit is passed, and the number is 5; or the walk stops with the number and all is
-- kept; or what comes after it decides, from the tree at its level and its counts, which are within the limits
abbrev pub StepSays : List ℕ → List ℕ → ((Tree → Counts → Measured) → Measured) → Result (ControlFlow Answer Stage) Refusal → Type 0
StepSays tlens trees m (Err refusal) = (refusal_number refusal ≡ 5) × ((next : Tree → Counts → Measured) → (m next).kept ≡ false)
StepSays tlens trees m (Ok (Break answer)) = (next : Tree → Counts → Measured) → m next ≡ over (code_number answer)
StepSays tlens trees m (Ok (Continue stage)) =
    (t : Tree) × Stands tlens trees stage.level t × (within (counts_as stage.counts) ≡ true) × ((next : Tree → Counts → Measured) → m next ≡ next t (counts_as stage.counts))

pub record StepIs (tlens trees : List ℕ) (m : (Tree → Counts → Measured) → Measured) (g : Result (ControlFlow Answer Stage) Refusal) : Type 0 where
  pub says : StepSays tlens trees m g

-- r is what the model's measure m says: that the limits are kept, and the number that the edit ends with; or that they are not, and the number is 5
abbrev pub MeasureSays : Measured → Result Answer Refusal → Type 0
MeasureSays m (Ok answer) = (m.kept ≡ true) × (code_number answer ≡ m.code)
MeasureSays m (Err refusal) = (m.kept ≡ false) × (refusal_number refusal ≡ 5)

pub record MeasuredAs (m : Measured) (r : Result Answer Refusal) : Type 0 where
  pub says : MeasureSays m r

-- a step that goes on where nothing stops it
abbrev pub onward : Result Stage Refusal → Result (ControlFlow Answer Stage) Refusal
onward (Ok stage) = Ok (Continue stage)
onward (Err refusal) = Err refusal

-- a tree of so many entries and name bytes is to be cached, at a path of n bytes, from the counts u
pub record CachesAs (level : Level) (size : Size) (n : ℕ) (u : Counts) (g : Result Stage Refusal) : Type 0 where
  pub is : (tlens trees : List ℕ) (q : Bytes) (t : Tree) → n ≡ length q → size.entries ≡ length t → size.name_bytes ≡ name_bytes t → Stands tlens trees level t →
      StepIs tlens trees (λ next. counted (plus_tree q t u) (next t (plus_tree q t u))) (onward g)

-- what the code's answer says of the model's landing
abbrev pub LandIs : List ℕ → List ℕ → Bytes → Counts → Landing → measure.Landing → Type 0
LandIs tlens trees q u (There slot) l = (slot < 64) × (l ≡ there (tree_of 20 tlens trees slot))
LandIs tlens trees q u Fresh l = l ≡ lands [] (plus_tree q [] u)
LandIs tlens trees q u (Load r) l = (t : Tree) × RawIs r t × (l ≡ lands t (plus_tree q t u))
LandIs tlens trees q u (Halt answer) l = l ≡ halts (code_number answer)

pub record LandedAs (x : Landing) (n : ℕ) (u : Counts) (g : Result (ControlFlow Answer Stage) Refusal) : Type 0 where
  pub is : (tlens trees : List ℕ) (q : Bytes) (l : measure.Landing) → n ≡ length q → LandIs tlens trees q u x l → StepIs tlens trees (λ next. on_landing next u l) g

-- the model's step down to q, and its whole step at the name n in the tree t, from what measures the rest; c is the cache
abbrev pub down_as : Table → Edit → Bytes → Option Bytes → Cache → Counts → (Tree → Counts → Measured) → Measured
down_as T e q i c u next = on_landing next u (landing sha1 T e q u i (find at q c))

abbrev pub step_as : Table → Edit → Bool → Bool → Bytes → Bytes → Tree → Cache → Counts → (Tree → Counts → Measured) → Measured
step_as T e opening is_last q n t c u next = pick_measured (is_nil n) (over 1) (on_sight sha1 T e opening q (find at q c) next (seen is_last e n u (entry_of n t)))

abbrev pub step_for : Task → Bool → Bytes → Bytes → Tree → Cache → Counts → (Tree → Counts → Measured) → Measured
step_for task = step_as (table_for task) (edit_for task) task.opening
