-- What reading an entry tells of those that the bytes hold. Assumes nothing.
use Rattle.std.specs.Prelude.{◌≡◌, ℕ, ◌<◌, ◌≤◌, [], Option, Some, None, Result, Ok, Err, Bool, false}
use Rattle.std.proofs.Math.Option as math
use Rattle.std.proofs.Math.Option.{some}
use Rattle.model.specs.Tree.{Entry, Tree, is_tree}
use Rattle.model.specs.Raw.{more}
use Rattle.names.specs.declared.order.Key.{Key}

-- the entry at a place has that key, and those after it start at next
pub record Reads (held : ℕ → math.Option Tree) (end at : ℕ) (key : Key) (next : ℕ) : Type 0 where
  pub entry : Entry
  pub name : key.name.now ≡ entry.name
  pub tree : key.tree ≡ is_tree entry.mode
  pub begins : held at ≡ more entry (held next)
  pub forward : at < next
  pub inside : next ≤ end

-- an entry is read, or there is none
abbrev pub ReadsAs : (ℕ → math.Option Tree) → ℕ → ℕ → Option (Key × ℕ) → Type 0
ReadsAs held end at (Some (key, next)) = Reads held end at key next
ReadsAs held end at None = (t : Tree) → held at ≡ some t → t ≡ []

-- the same; where there is none, it may be said that there is damage, but only if the bytes from there on are no entries to their end
abbrev pub NextAs : (ℕ → math.Option Tree) → ℕ → ℕ → Result (Key × ℕ) Bool → Type 0
NextAs held end at (Ok (key, next)) = Reads held end at key next
NextAs held end at (Err damaged) = (t : Tree) → held at ≡ some t → (t ≡ []) × (damaged ≡ false)

-- an entry is read, or there is none: the bytes end there, or what stands there is no entry
abbrev pub ReadsTo : (ℕ → math.Option Tree) → ℕ → ℕ → Option (Key × ℕ) → Type 0
ReadsTo held end at (Some (key, next)) = Reads held end at key next
ReadsTo held end at None = (t : Tree) → held at ≡ some t → (t ≡ []) × (end ≤ at)
