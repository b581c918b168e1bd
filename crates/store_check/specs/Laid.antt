-- What a record and the slices of its trees have to be, and the parts of it that are tested one after the other. Assumes nothing.
use Rattle.std.specs.Prelude.{◌≡◌, Bool, true, ◌||◌, List, [], map, ℕ, ◌<◌, length, get_or}
use Rattle.model.specs.Bytes.{Bytes, is_nil}
use Rattle.model.specs.Tree.{name_bytes, well_formed}
use Rattle.model.specs.Paths.{valid_path}
use Rattle.model.specs.Editor.{fits}
use Rattle.model.specs.Valid.{all_good}
use Rattle.names_compact.specs.Compact.{packed_all, unpack}
use Rattle.store_runs.specs.Digits.{digits}
use Rattle.store_runs.specs.Runs.{total}
use Rattle.store_slots.specs.View.{Laid, slots, view_of}
use Rattle.store_slots.specs.declared.Record.{Record}

-- the layout's rules, the limits, and good paths and trees
pub record Lays (w : ℕ) (r : Record) (plens paths tlens trees : List ℕ) : Type 0 where
  pub laid : Laid w r plens paths tlens trees
  pub fits : fits (view_of w r plens paths tlens trees) ≡ true
  pub good : all_good w (slots w r plens paths tlens trees) ≡ true

-- a slot with the digit d of the free map has these lengths: none where it is free
abbrev pub Blank : ℕ → ℕ → ℕ → Type 0
Blank d n m = (d ≡ 0 → ⊥) → (n ≡ 0) × (m ≡ 0)

-- a path is the root's or valid
abbrev pub good_path : Bytes → Bool
good_path p = is_nil p || valid_path p

-- no used slot before k is at the path p
abbrev pub New : List ℕ → List Bytes → ℕ → Bytes → Type 0
New ds ps k p = (j : ℕ) → j < k → get_or ds j 0 ≡ 0 → get_or ps j [] ≡ p → ⊥

-- the slot k, if used, is the first at its path
abbrev pub First : List ℕ → List Bytes → ℕ → Type 0
First ds ps k = get_or ds k 0 ≡ 0 → New ds ps k (get_or ps k [])

-- the slot k, if it is one of these and used, is the first at its path
pub record FirstOf (among : ℕ) (ds : List ℕ) (ps : List Bytes) (k : ℕ) : Type 0 where
  pub first : get_or (digits 64 among) k 0 ≡ 1 → First ds ps k

-- the paths are good, and those of the used slots different
pub record Paths (ds : List ℕ) (ps : List Bytes) : Type 0 where
  pub good : (k : ℕ) → k < 64 → good_path (get_or ps k []) ≡ true
  pub apart : (k : ℕ) → k < 64 → First ds ps k

-- a run is the compact form of a well-formed tree
pub record Whole (w : ℕ) (b : Bytes) : Type 0 where
  pub packed : b ≡ packed_all (unpack w b)
  pub well : well_formed w (unpack w b) ≡ true

-- its entries and its name bytes
abbrev pub entries_in : ℕ → Bytes → ℕ
entries_in w b = length (unpack w b)

abbrev pub names_in : ℕ → Bytes → ℕ
names_in w b = name_bytes (unpack w b)

-- every run is whole, with so many entries and name bytes in all
pub record Trees (w : ℕ) (bs : List Bytes) (es ns : ℕ) : Type 0 where
  pub whole : (k : ℕ) → k < 64 → Whole w (get_or bs k [])
  pub entries : total (map (entries_in w) bs) ≡ es
  pub names : total (map (names_in w) bs) ≡ ns
