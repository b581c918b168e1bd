-- What going down finds: the plan of it, which the measure and the walk of the model share, and what the code's answer says of it. Assumes nothing.
use Rattle.std.specs.Prelude.{ℕ, ◌≡◌, Bool, true, false, List, [], length, Option as Opt, Some, None}
use Rattle.std.proofs.Math.Option.{Option, none, some}
use Rattle.model.specs.Bytes.{Bytes, same}
use Rattle.model.specs.Map.{put}
use Rattle.model.specs.Tree.{Tree, name_bytes}
use Rattle.model.specs.Raw.{read_tree}
use Rattle.model.specs.Table.{Table, looked_up}
use Rattle.model.specs.Editor.{Format, at, Cache, ◌↝◌}
use Rattle.model.specs.Walk.{Entered, halt, into}
use Rattle.model.specs.Measure.{Counts, plus_tree, lands, halts}
use Rattle.model.specs.Measure as measure
use Rattle.store_slots.specs.View.{SlotIs}
use Rattle.editor_terms.specs.Answers.{code_number}
use Rattle.editor_walk.specs.declared.land.Raw.{Raw}
use Rattle.editor_walk.specs.declared.land.Landing.{Landing}
use Rattle.editor_walk.specs.declared.land.Landing.TheVariants.{There, Fresh, Load, Halt}

-- where nothing is cached at the path: this tree is cached there, or the walk stops with a number
pub data Plan : Type 0 where
  caches : Tree → Plan
  stops : ℕ → Plan

abbrev pub pick_plan : Bool → Plan → Plan → Plan
pick_plan true a b = a
pick_plan false a b = b

abbrev pub tree_plan : Option Tree → Plan
tree_plan none = stops 3
tree_plan (some t) = caches t

abbrev pub read_plan : Format → Option Bytes → Plan
read_plan F none = stops 2
read_plan F (some raw) = tree_plan (read_tree F.width raw)

-- the plan from the id to load, if one is given; the Bool says whether the edit is the removal of a leaf
abbrev pub planned : Format → Table → Bool → Option Bytes → Plan
planned F T leaf none = caches []
planned F T leaf (some i) = pick_plan (same i F.empty_id) (pick_plan leaf (stops 0) (caches [])) (read_plan F (looked_up F.width T i))

-- what the plan means to the measure, from the counts u, and to the walk, from the cache c
abbrev pub landed_by : Bytes → Counts → Plan → measure.Landing
landed_by q u (caches t) = lands t (plus_tree q t u)
landed_by q u (stops n) = halts n

abbrev pub entered_by : Bytes → Cache → Plan → Entered
entered_by q c (caches t) = into (put at (q ↝ t) c)
entered_by q c (stops n) = halt n

-- the raw tree is t, and has so many entries and name bytes
pub record RawIs (r : Raw) (t : Tree) : Type 0 where
  pub reads : read_tree 20 r.bytes.now ≡ some t
  pub entries : r.size.entries ≡ length t
  pub names : r.size.name_bytes ≡ name_bytes t

-- the answer is the plan
abbrev pub PlanIs : Plan → Landing → Type 0
PlanIs plan (There slot) = ⊥
PlanIs plan Fresh = plan ≡ caches []
PlanIs plan (Load r) = (t : Tree) × RawIs r t × (plan ≡ caches t)
PlanIs plan (Halt answer) = plan ≡ stops (code_number answer)

-- the slot of the path q, whatever the trees are
abbrev pub SlotFound : List ℕ → List Bytes → Bytes → Opt ℕ → Type 0
SlotFound ds ps q f = (w : ℕ) (bs : List Bytes) → length bs ≡ 64 → SlotIs w ds ps bs q f

-- the tree at q is cached in the slot given; or none is cached there, and the answer is the plan
abbrev pub LandsAs : Plan → List ℕ → List Bytes → Bytes → Landing → Type 0
LandsAs plan ds ps q (There slot) = SlotFound ds ps q (Some slot)
LandsAs plan ds ps q Fresh = SlotFound ds ps q None × PlanIs plan Fresh
LandsAs plan ds ps q (Load r) = SlotFound ds ps q None × PlanIs plan (Load r)
LandsAs plan ds ps q (Halt answer) = SlotFound ds ps q None × PlanIs plan (Halt answer)
