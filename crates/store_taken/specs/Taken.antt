-- A write between two requests: the trees in hand, stacked and set aside, as the model's Going. Assumes nothing.
use Rattle.std.specs.Prelude.{◌≡◌, true, ℕ, zero, suc, ◌+◌, ◌-◌, ◌≤◌, ◌<◌, List, [], ◌∷◌, ◌++◌, length, take, drop, get_or, set}
use Rattle.model.specs.Map.{del}
use Rattle.model.specs.Editor.{Held, at}
use Rattle.model.specs.Editor.{Editor as Model}
use Rattle.model.specs.Order.{All}
use Rattle.model.specs.Write.{Going, bottom, write_of}
use Rattle.store_runs.specs.Digits.{digits}
use Rattle.store_runs.specs.Runs.{cut}
use Rattle.store_slots.specs.View.{cached_of, stacked_of, aside_of, start_of, Used, marked, all_different}
use Rattle.store_slots.specs.declared.Record.{Record}
use Rattle.store_slots.specs.declared.Store.{Store}

-- the cache, and the trees stacked and set aside
abbrev pub going_of : ℕ → Record → List ℕ → List ℕ → List ℕ → List ℕ → List ℕ → Going
going_of w r plens paths tlens trees order =
    record {
      cache = cached_of w r plens paths tlens trees;
      stack = stacked_of w r plens paths tlens trees order;
      kept = aside_of w r plens paths tlens trees order;
    }

abbrev pub going_in : ℕ → Store → List ℕ → Going
going_in w s order = going_of w s.ed s.plens.now s.paths.now s.tlens.now s.trees.now order

-- with a tree more on the stack; among those set aside; with one fewer in the cache
abbrev pub stacked_on : Held → Going → Going
stacked_on h g = record { cache = g.cache; stack = h ∷ g.stack; kept = g.kept }

abbrev pub kept_on : Held → Going → Going
kept_on h g = record { cache = g.cache; stack = g.stack; kept = h ∷ g.kept }

abbrev pub taken_off : Held → Going → Going
taken_off h g = record { cache = del at h.path g.cache; stack = g.stack; kept = g.kept }

-- the model's editor with this tree requested, in a write from the root (1) or from a cursor (2)
abbrev pub writing_of : ℕ → Held → Going → Model
writing_of n h g = write_of (start_of n (bottom h g.kept).path) (record { rest = g; ask = h })

-- these are different used slots, and just they and the free ones are hidden
pub record Marks (r : Record) (ks : List ℕ) : Type 0 where
  pub used : All (Used r) ks
  pub apart : all_different ks ≡ true
  pub hidden : digits 64 r.hidden ≡ marked ks (digits 64 r.free)

-- the slots that the write has taken: those in hand, those set aside and those stacked
abbrev pub all_taken : Record → List ℕ → List ℕ → List ℕ
all_taken r order hand = hand ++ (take r.aside order ++ drop (64 - r.stacked) order)

-- a write is open, with the trees of these slots in hand
pub record Between (r : Record) (order hand : List ℕ) : Type 0 where
  pub order_64 : length order ≡ 64
  pub under_way : r.«open» ≡ 0 → ⊥
  pub from : r.«open» ≤ 2
  pub room : r.aside + r.stacked + length hand ≤ 64
  pub marks : Marks r (all_taken r order hand)

-- the slot k has a cached tree: it is neither free nor taken
pub record Cached (r : Record) (k : ℕ) : Type 0 where
  pub low : k < 64
  pub shown : get_or (digits 64 r.hidden) k 0 ≡ 0

-- what is said of the slots is as it was
pub record SameSlots (r q : Record) : Type 0 where
  pub free : q.free ≡ r.free
  pub paths : q.paths ≡ r.paths
  pub trees : q.trees ≡ r.trees
  pub entries : q.entries ≡ r.entries
  pub names : q.names ≡ r.names

-- the slot k holds what it held
pub record SameTree (plens paths tlens trees plens' paths' tlens' trees' : List ℕ) (k : ℕ) : Type 0 where
  pub path : get_or (cut plens' paths') k [] ≡ get_or (cut plens paths) k []
  pub run : get_or (cut tlens' trees') k [] ≡ get_or (cut tlens trees) k []

-- the digits with those set that are set in the first map too
abbrev pub either : ℕ → ℕ → ℕ
either zero d = d
either (suc n) d = 1

unfoldable pub joined : List ℕ → List ℕ → List ℕ
joined [] ds = ds
joined (g ∷ gs) [] = []
joined (g ∷ gs) (d ∷ ds) = either g d ∷ joined gs ds

-- the digits with the place k set where n is not 0
abbrev pub mark_if : ℕ → List ℕ → ℕ → List ℕ
mark_if zero ds k = ds
mark_if (suc n) ds k = set ds k 1
