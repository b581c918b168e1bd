-- The view: the record and the five slices of a store as an editor of the model, and the rules of the layout. Assumes nothing.
use Rattle.std.specs.Prelude.{◌≡◌, Bool, true, false, not, ◌&&◌, ℕ, zero, suc, ◌+◌, ◌-◌, ◌*◌, ◌≤◌, ◌<◌, List, [], ◌∷◌, ◌++◌, map, reverse, length, take, drop, get_or, set}
use Rattle.std.proofs.Math.Option.{Option, none, some}
use Rattle.model.specs.Bytes.{Bytes, has}
use Rattle.model.specs.Map.{find, put}
use Rattle.model.specs.Tree.{Tree, among, distinct, well_formed}
use Rattle.std.specs.Prelude.{Option as Found, Some, None}
use Rattle.model.specs.Editor.{Format, Held, at, Cache, Start, from_root, from_cursor, Write, entry_count, name_count}
use Rattle.model.specs.Editor.{Editor as Model}
use Rattle.model.specs.Order.{All}
use Rattle.model.specs.Write.{bottom}
use Rattle.model.specs.Valid.{valid}
use Rattle.store_runs.specs.Digits.{digits}
use Rattle.store_runs.specs.Runs.{cut, Sound}
use Rattle.names_compact.specs.Compact.{packed_all, unpack}
use Rattle.store_slots.specs.declared.Record.{Record}

-- a slot with the digit d of the free map, before the slots after it
abbrev pub if_used : ℕ → Held → List Held → List Held
if_used zero h hs = h ∷ hs
if_used (suc d) h hs = hs

abbrev pub held_in : ℕ → Bytes → Bytes → Held
held_in w p b = record { path = p; held = unpack w b }

-- the used slots, in slot order: the digits of the free map, the paths and the tree runs
unfoldable pub slots_of : ℕ → List ℕ → List Bytes → List Bytes → List Held
slots_of w [] ps bs = []
slots_of w (d ∷ ds) [] bs = []
slots_of w (d ∷ ds) (p ∷ ps) [] = []
slots_of w (d ∷ ds) (p ∷ ps) (b ∷ bs) = if_used d (held_in w p b) (slots_of w ds ps bs)

-- each put into the empty cache
unfoldable pub gather : List Held → Cache
gather [] = []
gather (h ∷ hs) = put at h (gather hs)

abbrev pub slots : ℕ → Record → List ℕ → List ℕ → List ℕ → List ℕ → List Held
slots w r plens paths tlens trees = slots_of w (digits 64 r.free) (cut plens paths) (cut tlens trees)

abbrev pub view_of : ℕ → Record → List ℕ → List ℕ → List ℕ → List ℕ → Cache
view_of w r plens paths tlens trees = gather (slots w r plens paths tlens trees)

-- the bytes that a slice for the trees has
abbrev pub tree_room : ℕ → ℕ
tree_room w = 1024 * (2 + w) + 16384

-- the layout's own rules: every call asks them and leaves them
pub record Laid (w : ℕ) (r : Record) (plens paths tlens trees : List ℕ) : Type 0 where
  pub plens_64 : length plens ≡ 64
  pub tlens_64 : length tlens ≡ 64
  pub paths_room : length paths ≡ 8192
  pub trees_room : length trees ≡ tree_room w
  pub paths_sound : Sound plens paths r.paths
  pub trees_sound : Sound tlens trees r.trees
  -- a free slot has no path and no tree
  pub empty : (k : ℕ) → k < 64 → (get_or (digits 64 r.free) k 0 ≡ 0 → ⊥) → (get_or (cut plens paths) k [] ≡ []) × (get_or (cut tlens trees) k [] ≡ [])
  -- every run is the packed form of a well-formed tree
  pub packed : (k : ℕ) → k < 64 → get_or (cut tlens trees) k [] ≡ packed_all (unpack w (get_or (cut tlens trees) k []))
  pub well : (k : ℕ) → k < 64 → well_formed w (unpack w (get_or (cut tlens trees) k [])) ≡ true
  -- no two slots are at one path
  pub apart : distinct (map at (slots w r plens paths tlens trees)) ≡ true
  -- the record's counts
  pub entries : r.entries ≡ entry_count (view_of w r plens paths tlens trees)
  pub names : r.names ≡ name_count (view_of w r plens paths tlens trees)

-- ---- the slot of a path

-- what a search for the slot of a path says
abbrev pub SlotIs : ℕ → List ℕ → List Bytes → List Bytes → Bytes → Found ℕ → Type 0
SlotIs w ds ps bs p (Some k) = (k < length ds) × (get_or ds k 0 ≡ 0) × (get_or ps k [] ≡ p) × (find at p (gather (slots_of w ds ps bs)) ≡ some (held_in w p (get_or bs k [])))
SlotIs w ds ps bs p None = (find at p (gather (slots_of w ds ps bs)) ≡ none) × (among p (map at (slots_of w ds ps bs)) ≡ false)

-- ---- one slot

abbrev pub held_as : Bytes → Tree → Held
held_as p t = record { path = p; held = t }

-- the slot k is used
pub record Used (r : Record) (k : ℕ) : Type 0 where
  pub low : k < 64
  pub used : get_or (digits 64 r.free) k 0 ≡ 0

-- its path and its tree
abbrev pub path_of : List ℕ → List ℕ → ℕ → Bytes
path_of plens paths k = get_or (cut plens paths) k []

abbrev pub tree_of : ℕ → List ℕ → List ℕ → ℕ → Tree
tree_of w tlens trees k = unpack w (get_or (cut tlens trees) k [])

-- every run but the run k is as it was
pub record Others (lens bytes : List ℕ) (k : ℕ) (lens' bytes' : List ℕ) : Type 0 where
  pub run : (j : ℕ) → (j ≡ k → ⊥) → get_or (cut lens' bytes') j [] ≡ get_or (cut lens bytes) j []

-- ---- the open write

-- the path and the tree of a slot
abbrev pub held_at : ℕ → List ℕ → List ℕ → List ℕ → List ℕ → ℕ → Held
held_at w plens paths tlens trees k = held_in w (get_or (cut plens paths) k []) (get_or (cut tlens trees) k [])

-- the cached trees: those of the slots that are neither free nor taken
abbrev pub cached_of : ℕ → Record → List ℕ → List ℕ → List ℕ → List ℕ → Cache
cached_of w r plens paths tlens trees = gather (slots_of w (digits 64 r.hidden) (cut plens paths) (cut tlens trees))

-- the trees set aside, the latest first: their slots are at the front of the order, the start tree's first
abbrev pub aside_of : ℕ → Record → List ℕ → List ℕ → List ℕ → List ℕ → List ℕ → List Held
aside_of w r plens paths tlens trees order = reverse (map (held_at w plens paths tlens trees) (take r.aside order))

-- the trees stacked, the next to be taken first: their slots are at the back of the order
abbrev pub stacked_of : ℕ → Record → List ℕ → List ℕ → List ℕ → List ℕ → List ℕ → List Held
stacked_of w r plens paths tlens trees order = map (held_at w plens paths tlens trees) (drop (64 - r.stacked) order)

abbrev pub start_of : ℕ → Bytes → Start
start_of zero p = from_root
start_of (suc zero) p = from_root
start_of (suc (suc n)) p = from_cursor p

-- the write from the requested tree, those set aside and those stacked, where one is open
abbrev pub write_of : ℕ → Held → List Held → List Held → Option Write
write_of zero asked aside stacked = none
write_of (suc n) asked aside stacked = some (record { start = start_of (suc n) (bottom asked aside).path; stacked = stacked; aside = aside; asked = asked })

abbrev pub editor_of : ℕ → Record → List ℕ → List ℕ → List ℕ → List ℕ → List ℕ → Model
editor_of w r plens paths tlens trees order =
    record {
      cached = cached_of w r plens paths tlens trees;
      writing = write_of r.«open» (held_at w plens paths tlens trees r.asked) (aside_of w r plens paths tlens trees order) (stacked_of w r plens paths tlens trees order);
    }

-- the slots of the trees that the write has taken
abbrev pub taken_of : Record → List ℕ → List ℕ
taken_of r order = r.asked ∷ (take r.aside order ++ drop (64 - r.stacked) order)

-- the slot of the tree that the write started at
abbrev pub start_from : ℕ → ℕ → List ℕ → ℕ
start_from zero asked order = asked
start_from (suc n) asked order = get_or order 0 0

abbrev pub start_slot : Record → List ℕ → ℕ
start_slot r order = start_from r.aside r.asked order

-- the digits with each of the places set
unfoldable pub marked : List ℕ → List ℕ → List ℕ
marked [] ds = ds
marked (k ∷ ks) ds = set (marked ks ds) k 1

abbrev pub all_different : List ℕ → Bool
all_different [] = true
all_different (k ∷ ks) = not (has k ks) && all_different ks

-- no write is open
pub record Closed (r : Record) : Type 0 where
  pub hidden : r.hidden ≡ r.free
  pub aside : r.aside ≡ 0
  pub stacked : r.stacked ≡ 0
  pub asked : r.asked ≡ 0

-- a write is open: its trees are in slots of their own, which are hidden with the free ones
pub record Opened (r : Record) (order : List ℕ) : Type 0 where
  pub from : r.«open» ≤ 2
  pub room : r.aside + r.stacked ≤ 63
  pub used : All (Used r) (taken_of r order)
  pub apart : all_different (taken_of r order) ≡ true
  pub hidden : digits 64 r.hidden ≡ marked (taken_of r order) (digits 64 r.free)

-- the layout's rules of the write
pub record Ordered (r : Record) (order : List ℕ) : Type 0 where
  pub order_64 : length order ≡ 64
  pub closed : r.«open» ≡ 0 → Closed r
  pub opened : (r.«open» ≡ 0 → ⊥) → Opened r order

-- the store holds an editor
pub record Holds (F : Format) (r : Record) (plens paths tlens trees order : List ℕ) : Type 0 where
  pub laid : Laid F.width r plens paths tlens trees
  pub ordered : Ordered r order
  pub valid : valid F (editor_of F.width r plens paths tlens trees order) ≡ true

-- the record of a store with no tree and no write
abbrev pub fresh : Record
fresh = record { free = 0xffff_ffff_ffff_ffff; hidden = 0xffff_ffff_ffff_ffff; paths = 0; trees = 0; entries = 0; names = 0; «open» = 0; aside = 0; stacked = 0; asked = 0 }

-- the numbers of the open write are as they were
pub record SameWrite (r q : Record) : Type 0 where
  pub «open» : q.«open» ≡ r.«open»
  pub aside : q.aside ≡ r.aside
  pub stacked : q.stacked ≡ r.stacked
  pub asked : q.asked ≡ r.asked
