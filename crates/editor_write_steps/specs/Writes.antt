-- The steps of a write between two requests, each as a change of the model's Going. Assumes nothing.
use Rattle.std.specs.Prelude.{◌≡◌, Bool, true, false, not, ◌&&◌, cond, List, [], ◌∷◌, ◌++◌, reverse, ℕ, zero, suc, ◌≤◌, length}
use Rattle.std.proofs.Math.Option.{Option as Maybe}
use Rattle.std.proofs.Math.Option.{none, some}
use Rattle.std.specs.Prelude.{Option, Some, None}
use Rattle.model.specs.Bytes.{Bytes, is_nil}
use Rattle.model.specs.Tree.{Tree, without_id}
use Rattle.model.specs.Editor.{Held, Cache}
use Rattle.model.specs.Write.{Going, Asking, scanned, unlinked, linked}
use Rattle.model.specs.Order.{All}
use Rattle.model.specs.Valid.{has_parent}
use Rattle.store_slots.specs.View.{path_of, held_at, aside_of}
use Rattle.store_slots.specs.declared.Record.{Record}
use Rattle.store_slots.specs.declared.Store.{Store}
use Rattle.store_slots.specs.declared.View.{View}
use Rattle.editor_write_steps.specs.declared.pick.Picked.{Picked}
use Rattle.editor_write_steps.specs.declared.pick.Picked.TheVariants.{Finish, Aside}
use Rattle.store_slots.specs.Stores.{held_in_slot}
use Rattle.store_taken.specs.Taken.{going_in, going_of, stacked_on, taken_off, SameSlots, Between}

-- the path and the tree of a slot, and the write with this record, of a store that is read
abbrev pub held_seen : ℕ → View → ℕ → Held
held_seen w v k = held_at w v.plens.now v.paths.now v.tlens.now v.trees.now k

abbrev pub going_seen : ℕ → Record → View → List ℕ → Going
going_seen w r v order = going_of w r v.plens.now v.paths.now v.tlens.now v.trees.now order

-- a cached tree that was found is taken off the cache and stacked
abbrev pub kid_on : Maybe Held → Going → Going
kid_on none g = g
kid_on (some h) g = stacked_on h (taken_off h g)

-- the tree t at p is scanned: the trees that are cached under its tree entries are stacked, the last one's first
abbrev pub scanned_on : Bytes → Tree → Going → Going
scanned_on p t g = record { cache = (scanned p t g.cache).left; stack = reverse (scanned p t g.cache).kids ++ g.stack; kept = g.kept }

-- only what is cached and what is stacked changed
pub record Stacks (r q : Record) : Type 0 where
  pub slots : SameSlots r q
  pub «open» : q.«open» ≡ r.«open»
  pub aside : q.aside ≡ r.aside
  pub asked : q.asked ≡ r.asked

-- ---- one turn

-- a path is short enough for a tree to be cached there
abbrev pub Brief : Held → Type 0
Brief h = length h.path ≤ 1024

-- what a turn comes to: the tree that was taken, whether it is to be finished, and the write without it
pub record Turn : Type 0 where
  pub finish : Bool
  pub hand : Held
  pub rest : Going

-- the top of the stack, with the cached trees under it and the cache without them: with any it is set aside, else it is finished
abbrev pub top_turn : Held → Going → List Held → Cache → Turn
top_turn h g [] left = record { finish = true; hand = h; rest = g }
top_turn h g (x ∷ xs) left = record { finish = false; hand = h; rest = record { cache = left; stack = reverse (x ∷ xs) ++ g.stack; kept = h ∷ g.kept } }

-- the top of the stack is taken; when the stack is empty, the latest set aside is finished
abbrev pub turn_of : List Held → List Held → Cache → Turn
turn_of [] [] c = record { finish = false; hand = record { path = []; held = [] }; rest = record { cache = c; stack = []; kept = [] } }
turn_of [] (h ∷ hs) c = record { finish = true; hand = h; rest = record { cache = c; stack = []; kept = hs } }
turn_of (h ∷ s) k c = top_turn h (record { cache = c; stack = s; kept = k }) (scanned h.path h.held c).kids (scanned h.path h.held c).left

abbrev pub turned : Going → Turn
turned g = turn_of g.stack g.kept g.cache

-- the turn that took the tree in a slot
abbrev pub turn_in : ℕ → Store → List ℕ → Picked → Turn
turn_in w s order (Finish k) = record { finish = true; hand = held_in_slot w s k; rest = going_in w s order }
turn_in w s order (Aside k) = record { finish = false; hand = held_in_slot w s k; rest = going_in w s order }

-- the slot in hand after a turn
abbrev pub hand_of : Picked → List ℕ
hand_of (Finish k) = k ∷ []
hand_of (Aside k) = []

-- ---- the entry of a finished tree in its parent

abbrev pub unlinked_on : Bytes → Going → Going
unlinked_on p g = record { cache = g.cache; stack = g.stack; kept = unlinked p g.kept }

abbrev pub linked_on : Bytes → Bytes → Going → Going
linked_on i p g = record { cache = g.cache; stack = g.stack; kept = linked i p g.kept }

-- the tree in the slot k is in hand, and its parent is set aside
pub record Child (w : ℕ) (r : Record) (plens paths tlens trees order : List ℕ) (k : ℕ) : Type 0 where
  pub between : Between r order (k ∷ [])
  pub parent : has_parent (path_of plens paths k) (aside_of w r plens paths tlens trees order) ≡ true

abbrev pub ChildIn : ℕ → Store → List ℕ → ℕ → Type 0
ChildIn w s order k = Child w s.ed s.plens.now s.paths.now s.tlens.now s.trees.now order k

-- ---- a turn to its end

-- what a turn leaves: the write goes on, or this tree is requested
pub data Step : Type 0 where
  goes : Going → Step
  asks : Held → Going → Step

-- the tree in a slot is requested, or none is
abbrev pub step_in : ℕ → Store → List ℕ → Option ℕ → Step
step_in w s order (Some k) = asks (held_in_slot w s k) (going_in w s order)
step_in w s order None = goes (going_in w s order)

-- the slot in hand then: the requested tree's
abbrev pub hand_asked : Option ℕ → List ℕ
hand_asked (Some k) = k ∷ []
hand_asked None = []

-- the tree in hand without its null-id entries is requested, unless it is empty and not the start tree
abbrev pub finished_as : Bytes → Held → Going → Step
finished_as nil h g = cond (is_nil (without_id nil h.held) && not (is_nil g.kept)) (goes (unlinked_on h.path g)) (asks (record { path = h.path; held = without_id nil h.held }) g)

abbrev pub ended : Bytes → Bool → Held → Going → Step
ended nil true h g = finished_as nil h g
ended nil false h g = goes g

-- one turn of the model's `onward`
abbrev pub next_of : Bytes → Going → Step
next_of nil g = ended nil (turned g).finish (turned g).hand (turned g).rest

-- the tree in the slot k is in hand, and its parent is set aside if it is not the start tree
pub record Hand (w : ℕ) (r : Record) (plens paths tlens trees order : List ℕ) (k : ℕ) : Type 0 where
  pub between : Between r order (k ∷ [])
  pub parent : is_nil (aside_of w r plens paths tlens trees order) ≡ false → has_parent (path_of plens paths k) (aside_of w r plens paths tlens trees order) ≡ true

abbrev pub HandIn : ℕ → Store → List ℕ → ℕ → Type 0
HandIn w s order k = Hand w s.ed s.plens.now s.paths.now s.tlens.now s.trees.now order k

-- what a turn asks: a tree is stacked or set aside, the stacked ones' paths are short, and the tree that is to be finished has its parent set aside
pub record Ready (g : Going) : Type 0 where
  pub taken : (is_nil g.stack && is_nil g.kept) ≡ false
  pub brief : All Brief g.stack
  pub parent : (turned g).finish ≡ true → is_nil (turned g).rest.kept ≡ false → has_parent (turned g).hand.path (turned g).rest.kept ≡ true

-- ---- turns up to the next request

-- after a step the write goes on with P, or it is at a request
abbrev pub StepHas : (Going → Type 0) → Step → Type 0
StepHas P (goes g) = P g
StepHas P (asks h g) = Unit {0}

-- each of at most n turns has what it asks, up to a request
abbrev pub Steady : Bytes → ℕ → Going → Type 0
Steady nil zero g = ⊥
Steady nil (suc n) g = Ready g × StepHas (λ x. Steady nil n x) (next_of nil g)

abbrev pub asks_on : Held → Going → Asking
asks_on h g = record { rest = g; ask = h }
