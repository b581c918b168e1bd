-- What the steps of the second pass ask and leave, in the model's words. Assumes nothing.
use Rattle.std.specs.Prelude.{ℕ, ◌≡◌, Bool, true, List, []}
use Rattle.std.specs.declared.ops.ControlFlow.{ControlFlow}
use Rattle.std.specs.declared.ops.ControlFlow.TheVariants.{Continue, Break}
use Rattle.std.proofs.Math.Option.{Option, none}
use Rattle.model.specs.Bytes.{Bytes, is_nil}
use Rattle.model.specs.Map.{find, put}
use Rattle.model.specs.Tree.{Tree, null}
use Rattle.model.specs.Table.{Table}
use Rattle.model.specs.Editor.{at, Cache, ◌↝◌, tree_at, fits}
use Rattle.model.specs.Formats.{sha1}
use Rattle.model.specs.Walk.{Edit, enter, Walked, ended, below, turned, turn, pick_walked}
use Rattle.model.specs.Editor.{Editor as Model}
use Rattle.model.specs.Calls.{Answer as Answered}
use Rattle.store_slots.specs.declared.Record.{Record}
use Rattle.store_slots.specs.declared.Store.{Store}
use Rattle.store_slots.specs.View.{Laid, Used, SameWrite}
use Rattle.store_slots.specs.Stores.{path_in_slot, tree_in_slot, view_in}
use Rattle.store_entries.specs.Entries.{FitsWith}
use Rattle.editor_terms.specs.Answers.{Answer, code_number}
use Rattle.editor_terms.specs.Edits.{changed}
use Rattle.editor_terms.specs.declared.edit.Turn.{Turn}
use Rattle.editor_terms.specs.declared.edit.Turn.TheVariants.{Stop, Cut, Put, Down}
use Rattle.editor_walk.specs.Landings.{RawIs}
use Rattle.editor_walk.specs.declared.land.Landing.{Landing}
use Rattle.editor_walk.specs.declared.land.Landing.TheVariants.{There, Fresh, Load, Halt}
use Rattle.editor_walk.specs.declared.task.Task.{Task}
use Rattle.editor_walk.specs.Tasks.{table_for, edit_for}

-- the store is laid out, no write is open, and the numbers of the write are those of the record r₀
pub record Standing (r₀ r : Record) (plens paths tlens trees : List ℕ) : Type 0 where
  pub laid : Laid 20 r plens paths tlens trees
  pub closed : r.hidden ≡ r.free
  pub write : SameWrite r₀ r

abbrev pub StandingIn : Record → Store → Type 0
StandingIn r₀ s = Standing r₀ s.ed s.plens.now s.paths.now s.tlens.now s.trees.now

-- there is room for what a turn puts into the tree of the slot k, with the name n
abbrev pub PutFits : Turn → Store → ℕ → Bytes → Type 0
PutFits (Stop answer) s k n = Unit {0}
PutFits Cut s k n = Unit {0}
PutFits (Put kind id) s k n = FitsWith 20 s k (changed (Put kind id) n (tree_in_slot 20 s k))
PutFits (Down id) s k n = Unit {0}

-- what was found at q can be gone to: it is there, or there is room for it
abbrev pub LandFits : Store → Bytes → Landing → Type 0
LandFits s q (There slot) = Used s.ed slot × (path_in_slot s slot ≡ q)
LandFits s q Fresh = (find at q (view_in 20 s) ≡ none) × (fits (put at (q ↝ []) (view_in 20 s)) ≡ true)
LandFits s q (Load x) = (find at q (view_in 20 s) ≡ none) × ((t : Tree) × RawIs x t × (fits (put at (q ↝ t) (view_in 20 s)) ≡ true))
LandFits s q (Halt answer) = Unit {0}

-- the walk goes on, in the slot of the path q
abbrev pub OnAt : Store → Bytes → ControlFlow Answer ℕ → Type 0
OnAt s q (Break answer) = ⊥
OnAt s q (Continue slot) = Used s.ed slot × (path_in_slot s slot ≡ q)

-- whether the walk goes on, or what it answers, and the cache d of the store s, after c
abbrev pub LandLeaves : Bytes → Cache → Store → Landing → ControlFlow Answer ℕ → Type 0
LandLeaves q c s (There slot) g = OnAt s q g × (view_in 20 s ≡ c)
LandLeaves q c s Fresh g = OnAt s q g × (view_in 20 s ≡ put at (q ↝ []) c)
LandLeaves q c s (Load x) g = OnAt s q g × ((t : Tree) → RawIs x t → view_in 20 s ≡ put at (q ↝ t) c)
LandLeaves q c s (Halt answer) g = (g ≡ Break answer) × (view_in 20 s ≡ c)

-- the walk went down to what was found at q
pub record Descended (s₀ : Store) (q : Bytes) (x : Landing) (g : ControlFlow Answer ℕ) (s : Store) : Type 0 where
  pub stand : StandingIn s₀.ed s
  pub leaves : LandLeaves q (view_in 20 s₀) s x g

-- the model's step down to q, and its whole step at the name n of the tree at p, from the rest of the walk
abbrev pub down_as : Table → Edit → Bytes → Option Bytes → Cache → (Cache → Walked) → Walked
down_as T e q i c next = below next c (enter sha1 T e q c i)

abbrev pub step_as : Table → Edit → Bool → Bool → Bytes → Bytes → Bytes → Cache → (Cache → Walked) → Walked
step_as T e opening is_last p q n c next = pick_walked (is_nil n) (ended 1 c) (turned sha1 T e opening p q next c (turn (null sha1.width) is_last e n (tree_at p c)))

abbrev pub down_for : Task → Bytes → Option Bytes → Cache → (Cache → Walked) → Walked
down_for task = down_as (table_for task) (edit_for task)

abbrev pub step_for : Task → Bool → Bytes → Bytes → Bytes → Cache → (Cache → Walked) → Walked
step_for task = step_as (table_for task) (edit_for task) task.opening

-- each step of it keeps the limits, as some rest of the walk shows
pub record Fitting (m : (Cache → Walked) → Walked) : Type 0 where
  pub rest : Cache → Walked
  pub kept : (m rest).kept ≡ true

-- what is said of the step m: the walk ended with the answer and the cache; or the rest of it decides, from the slot of q
abbrev pub StepEnds : ((Cache → Walked) → Walked) → Bytes → Store → ControlFlow Answer ℕ → Type 0
StepEnds m q s (Break answer) = (next : Cache → Walked) → ((m next).code ≡ code_number answer) × ((m next).now ≡ view_in 20 s)
StepEnds m q s (Continue slot) = OnAt s q (Continue slot)
    × ((next : Cache → Walked) → ((m next).code ≡ (next (view_in 20 s)).code) × ((m next).now ≡ (next (view_in 20 s)).now) × ((m next).kept ≡ true → (next (view_in 20 s)).kept ≡ true))

-- the step m was made
pub record SteppedAs (r₀ : Record) (m : (Cache → Walked) → Walked) (q : Bytes) (g : ControlFlow Answer ℕ) (s : Store) : Type 0 where
  pub stand : StandingIn r₀ s
  pub ends : StepEnds m q s g

-- the whole walk was made
pub record WalkedAs (r₀ : Record) (w : Walked) (a : Answer) (s : Store) : Type 0 where
  pub code : code_number a ≡ w.code
  pub now : view_in 20 s ≡ w.now
  pub stand : StandingIn r₀ s

-- an editor with these trees cached, and no write open
abbrev pub editor_at : Cache → Model
editor_at c = record { cached = c; writing = none }

-- the call was settled as the model says, and number 5 left every byte as it was
pub record SettledAs (s : Store) (m : Answered) (a : Answer) (q : Store) : Type 0 where
  pub code : code_number a ≡ m.code
  pub now : editor_at (view_in 20 q) ≡ m.editor
  pub stand : StandingIn s.ed q
  pub same : code_number a ≡ 5 → (q.ed ≡ s.ed) × (q.plens.now ≡ s.plens.now) × (q.paths.now ≡ s.paths.now) × (q.tlens.now ≡ s.tlens.now) × (q.trees.now ≡ s.trees.now)
