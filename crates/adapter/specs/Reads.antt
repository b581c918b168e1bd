-- What the calls that read tell a program in C. Assumes nothing.
use Rattle.std.specs.Prelude.{ℕ, ◌<◌, ◌≤◌, ◌≡◌, length}
use Rattle.model.specs.Bytes.{Bytes}
use Rattle.model.specs.Lookup.{Looked, found, missing, refusal}
use Rattle.names.specs.Bits.{bits_of}
use Rattle.names.specs.Splice.{splice}
use Rattle.editor.specs.Lent.{Lent}
use Rattle.editor.specs.Looks.{Looks}

-- 1 where P is so, else 0
pub record Tells (P : Type 0) (n : ℕ) : Type 0 where
  pub one : n ≡ 1 → P
  pub so : P → n ≡ 1
  pub bit : (n ≡ 1 → ⊥) → n ≡ 0

-- a lookup's answer as a number, and the slice that the id goes to: an entry's mode with its id at the front; 0; the number of the refusal
abbrev pub Gives : Looked → Bytes → ℕ → Bytes → Type 0
Gives (found e) before n after = (n ≡ bits_of e.mode) × (after ≡ splice before 0 e.id)
Gives missing before n after = (n ≡ 0) × (after ≡ before)
Gives (refusal m) before n after = (n ≡ m) × (after ≡ before)

-- the lookup of the store that is lent, and what is told of it
pub record Finds (prefix path : Bytes) (s : Lent) (before : Bytes) (n : ℕ) (after : Bytes) : Type 0 where
  pub looked : Looked
  pub looks : Looks prefix path s looked
  pub gives : Gives looked before n after

-- 255 is for a slice without room for an id, and nothing is looked at then
pub record Gets (prefix path : Bytes) (s : Lent) (before : Bytes) (n : ℕ) (after : Bytes) : Type 0 where
  pub bad : length before < 20 → (n ≡ 255) × (after ≡ before)
  pub good : 20 ≤ length before → Finds prefix path s before n after
