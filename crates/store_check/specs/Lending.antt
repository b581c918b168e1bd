-- What a record and lent slices hold, in the words of the view. Assumes nothing.
use Rattle.std.specs.Prelude.{ℕ, List}
use Rattle.model.specs.Bytes.{Bytes}
use Rattle.model.specs.Editor.{Held, Cache}
use Rattle.store_slots.specs.View.{path_of, held_at, cached_of, aside_of, stacked_of, start_slot}
use Rattle.store_check.specs.Laid.{Lays}
use Rattle.store_check.specs.Parents.{Parented, Hanging}
use Rattle.store_check.specs.Written.{Written, Taking, aside_by}
use Rattle.store_check.specs.declared.lent.Shelf.{Shelf}
use Rattle.store_check.specs.declared.parents.Known.{Known}

-- the trees are laid out, good and within the limits
abbrev pub LaidOut : Shelf → Type 0
LaidOut s = Lays s.width s.record s.plens.now s.paths.now s.tlens.now s.trees.now

-- a write is open, with its trees in slots of their own
abbrev pub TakenOut : Shelf → List ℕ → Type 0
TakenOut s order = Taking s.width s.record s.plens.now s.paths.now s.tlens.now s.trees.now order

-- the open write, if one is open, is one that can be
abbrev pub WrittenOut : Shelf → List ℕ → Type 0
WrittenOut s order = Written s.width s.record s.plens.now s.paths.now s.tlens.now s.trees.now order

abbrev pub path_in : Shelf → ℕ → Bytes
path_in s k = path_of s.plens.now s.paths.now k

-- the path of the tree that the write started at
abbrev pub start_in : Shelf → List ℕ → Bytes
start_in s order = path_in s (start_slot s.record order)

abbrev pub held_in : Shelf → ℕ → Held
held_in s k = held_at s.width s.plens.now s.paths.now s.tlens.now s.trees.now k

abbrev pub cached_in : Shelf → Cache
cached_in s = cached_of s.width s.record s.plens.now s.paths.now s.tlens.now s.trees.now

-- the trees set aside, the first n of them, and those stacked
abbrev pub aside_in : Shelf → List ℕ → List Held
aside_in s order = aside_of s.width s.record s.plens.now s.paths.now s.tlens.now s.trees.now order

abbrev pub first_aside : Shelf → List ℕ → ℕ → List Held
first_aside s order n = aside_by s.width s.plens.now s.paths.now s.tlens.now s.trees.now order n

abbrev pub stacked_in : Shelf → List ℕ → List Held
stacked_in s order = stacked_of s.width s.record s.plens.now s.paths.now s.tlens.now s.trees.now order

-- those stacked from i on lie below those set aside, and so does the requested tree, where that is known
abbrev pub ParentedIn : Shelf → List ℕ → ℕ → Type 0
ParentedIn s order i = Parented s.width s.record s.plens.now s.paths.now s.tlens.now s.trees.now order i

abbrev pub HangingIn : Shelf → List ℕ → Known → Type 0
HangingIn s order f = Hanging s.width s.record s.plens.now s.paths.now s.tlens.now s.trees.now order f
