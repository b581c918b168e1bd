-- A store as it is lent: the record and the five slices, the editor that they hold, and what a call that changes it says. Assumes nothing.
use Rattle.std.specs.Prelude.{ℕ, ◌≤◌, ◌≡◌, List, length, take, drop}
use Rattle.model.specs.Calls.{Answer}
use Rattle.model.specs.Editor.{Editor as Model}
use Rattle.model.specs.Formats.{sha1}
use Rattle.store_slots.specs.View.{tree_room, editor_of}
use Rattle.store_slots.specs.declared.Record.{Record}
use Rattle.store_slots.specs.declared.Store.{Store}
use Rattle.store_slots.specs.declared.View.{View}
use Rattle.store_check.specs.Stored.{Stored}

-- the record, and the slices as they are lent, which may be longer than a store
pub record Lent : Type 0 where
  pub ed : Record
  pub plens : List ℕ
  pub paths : List ℕ
  pub tlens : List ℕ
  pub trees : List ℕ
  pub order : List ℕ

abbrev pub lent : Record → List ℕ → List ℕ → List ℕ → List ℕ → List ℕ → Lent
lent ed plens paths tlens trees order = record { ed = ed; plens = plens; paths = paths; tlens = tlens; trees = trees; order = order }

-- the same of a store as one value, and of one that is read
abbrev pub lent_in : Store → List ℕ → Lent
lent_in s order = lent s.ed s.plens.now s.paths.now s.tlens.now s.trees.now order

abbrev pub lent_seen : View → List ℕ → Lent
lent_seen v order = lent v.ed v.plens.now v.paths.now v.tlens.now v.trees.now order

-- the editor that it shows, of slices as long as a store
abbrev pub editor_in : Store → List ℕ → Model
editor_in s order = editor_of 20 s.ed s.plens.now s.paths.now s.tlens.now s.trees.now order

abbrev pub editor_seen : View → List ℕ → Model
editor_seen v order = editor_of 20 v.ed v.plens.now v.paths.now v.tlens.now v.trees.now order

-- the slices are as long as a store
pub record Long (s : Lent) : Type 0 where
  pub plens : 64 ≤ length s.plens
  pub paths : 8192 ≤ length s.paths
  pub tlens : 64 ≤ length s.tlens
  pub trees : tree_room 20 ≤ length s.trees
  pub order : 64 ≤ length s.order

-- it holds an editor
abbrev pub Good : Lent → Type 0
Good s = Stored sha1 s.ed s.plens s.paths s.tlens s.trees s.order

-- the editor that it holds, in the fronts of the slices
abbrev pub viewed : Lent → Model
viewed s = editor_of 20 s.ed (take 64 s.plens) (take 8192 s.paths) (take 64 s.tlens) (take (tree_room 20) s.trees) (take 64 s.order)

-- what lies behind the fronts is as it was
pub record Behind (s q : Lent) : Type 0 where
  pub plens : drop 64 q.plens ≡ drop 64 s.plens
  pub paths : drop 8192 q.paths ≡ drop 8192 s.paths
  pub tlens : drop 64 q.tlens ≡ drop 64 s.tlens
  pub trees : drop (tree_room 20) q.trees ≡ drop (tree_room 20) s.trees
  pub order : drop 64 q.order ≡ drop 64 s.order

-- nothing has changed with this number
abbrev pub Still : ℕ → Type 0
Still c = 5 ≤ c

-- A call does what f says of the editor that is held: 13 is for a store that holds none, and where nothing changes each lent byte is as it was.
pub record Does (f : Model → Answer) (s : Lent) (code : ℕ) (q : Lent) : Type 0 where
  pub refused : code ≡ 13 → (Good s → ⊥) × (q ≡ s)
  pub done : (code ≡ 13 → ⊥) → Good s × (record { code = code; editor = viewed q } ≡ f (viewed s)) × Good q × Behind s q
  pub kept : Still code → q ≡ s
