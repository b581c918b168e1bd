-- What the check of a tree in compact form says, and the entries that it finds in the bytes. Assumes nothing.
use Rattle.std.specs.Prelude.{Option as Found, Some, None, Bool, false, ℕ, zero, suc, ◌+◌, ◌-◌, ◌≤◌, ◌<◌, ◌≡◌, [], cond, ◌&&◌, eqb, leb, ltb, length, take, drop, get_or}
use Rattle.std.proofs.Math.Option.{Option, none, some}
use Rattle.model.specs.Bytes.{Bytes, same}
use Rattle.model.specs.Tree.{Entry, Tree, is_tree}
use Rattle.model.specs.Raw.{more, if_good}
use Rattle.names_compact.specs.Compact.{mode_at, packed_all, unpack}
use Rattle.names.specs.Check.{size_of, Checking}
use Rattle.names.specs.Eight.{number}

-- Where the entry at `at` ends, if its kind is one of the five and its bytes are there.
unfoldable pub end_at : Bytes → ℕ → ℕ → Option ℕ
end_at b w at = cond (ltb (get_or b at 0) 5 && leb (at + 2) (length b) && leb (at + 2 + w + get_or b (at + 1) 0) (length b)) (some (at + 2 + w + get_or b (at + 1) 0)) none

abbrev pub end_as : Found ℕ → Option ℕ
end_as (Some next) = some next
end_as None = none

-- the entry at `at`
abbrev pub entry_held : Bytes → ℕ → ℕ → Entry
entry_held b w at = record { mode = mode_at (get_or b at 0); name = take (get_or b (at + 1) 0) (drop (at + 2 + w) b); id = take w (drop (at + 2) b) }

abbrev pub held_next : Bytes → ℕ → ℕ → Option ℕ → (ℕ → Option Tree) → Option Tree
held_next b w at none from = none
held_next b w at (some next) from = more (entry_held b w at) (from next)

-- the entries from `at` to the end of the bytes, at most so many
unfoldable pub held_from : ℕ → Bytes → ℕ → ℕ → Option Tree
held_from zero b w at = none
held_from (suc most) b w at = cond (leb (length b) at) (some []) (held_next b w at (end_at b w at) (held_from most b w))

-- the entries from `at` to the end of the bytes; none, where they are no entries to their end
unfoldable pub held_at : Bytes → ℕ → ℕ → Option Tree
held_at b w at = held_from (suc (length b - at)) b w at

-- the tree that the bytes are the compact form of, if they are one and it is well formed
unfoldable pub compact_tree : ℕ → Bytes → Option Tree
compact_tree w b = cond (same b (packed_all (unpack w b))) (if_good w (some (unpack w b))) none

-- x is what the first eight bytes of the name say
pub record Head (n : Bytes) (x : ℕ) : Type 0 where
  pub long : 8 ≤ length n
  pub is : x ≡ number 0 (take 8 n)

-- the name of the entry before the place `at`, which stands at `prev`; none is before the first place
unfoldable pub name_before : Bytes → ℕ → ℕ → ℕ → Bytes
name_before b w prev at = cond (eqb at 0) [] (entry_held b w prev).name

-- whether the entry before the place `at` is a tree
unfoldable pub tree_before : Bytes → ℕ → ℕ → Bool
tree_before b prev at = cond (eqb at 0) false (is_tree (mode_at (get_or b prev 0)))

-- a check of the bytes has come to the place `at` past n entries with k bytes of names, the last of which stands at `prev`
pub record Reached (b : Bytes) (w at prev n k : ℕ) : Type 0 where
  pub back : 0 < at → end_at b w prev ≡ some at
  pub checking : Checking (size_of (compact_tree w b)) (length b) (held_at b w at) at n k (name_before b w prev at) (tree_before b prev at)
