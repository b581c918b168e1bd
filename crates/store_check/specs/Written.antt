-- The open write of a store is one that can be: what its functions decide, and the parts of it. Assumes nothing.
use Rattle.std.specs.Prelude.{◌≡◌, Option, Some, None, Bool, true, false, ◌&&◌, ◌||◌, ℕ, ◌≤◌, List, [], ◌∷◌, map, reverse, eqb, ltb, length, take, get_or}
use Rattle.model.specs.Bytes.{Bytes, same, is_nil}
use Rattle.model.specs.Map.{find, is_some}
use Rattle.model.specs.Editor.{Held, at, Cache, start_path}
use Rattle.model.specs.Valid.{root_held, write_good}
use Rattle.store_runs.specs.Digits.{digits}
use Rattle.store_slots.specs.View.{held_at, start_of, editor_of, marked, Opened, Ordered}
use Rattle.store_slots.specs.declared.Record.{Record}
use Rattle.store_check.specs.Laid.{Lays}

-- the write's trees are in slots of their own, the root is cached or the write's start, and the trees hang together
pub record Written (w : ℕ) (r : Record) (plens paths tlens trees order : List ℕ) : Type 0 where
  pub ordered : Ordered r order
  pub root : root_held (editor_of w r plens paths tlens trees order).cached (editor_of w r plens paths tlens trees order).writing ≡ true
  pub write : write_good (editor_of w r plens paths tlens trees order).writing ≡ true

-- the trees are laid out, good and within the limits, and the write's trees are in slots of their own
pub record Taking (w : ℕ) (r : Record) (plens paths tlens trees order : List ℕ) : Type 0 where
  pub lays : Lays w r plens paths tlens trees
  pub narrow : w ≤ 64
  pub opened : Opened r order
  pub order_64 : length order ≡ 64

-- ---- slots set in a map

-- the places may be set, the last first: each is one of the digits, which is 0 then
unfoldable pub markable : List ℕ → List ℕ → Bool
markable [] ds = true
markable (k ∷ ks) ds = markable ks ds && (ltb k (length ds) && eqb (get_or (marked ks ds) k 0) 0)

-- what is told of the slots set in a map: the map then, where they may be set
abbrev pub Marks : List ℕ → ℕ → Option ℕ → Type 0
Marks ks before None = markable ks (digits 64 before) ≡ false
Marks ks before (Some after) = (markable ks (digits 64 before) ≡ true) × (digits 64 after ≡ marked ks (digits 64 before))

-- ---- the trees of the write

-- the first n that were set aside, the latest first
abbrev pub aside_by : ℕ → List ℕ → List ℕ → List ℕ → List ℕ → List ℕ → ℕ → List Held
aside_by w plens paths tlens trees order n = reverse (map (held_at w plens paths tlens trees) (take n order))

-- a write that started at the path p may be open, and has or leaves a root
abbrev pub start_fine : ℕ → Bytes → Cache → Bool
start_fine n p c = (is_some (find at [] c) || is_nil (start_path (start_of n p))) && same p (start_path (start_of n p))
