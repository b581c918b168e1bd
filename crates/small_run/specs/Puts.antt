-- What is written into lent bytes from a place on, and what a call leaves in a store that holds an editor. Assumes nothing.
use Rattle.std.specs.Prelude.{ℕ, ◌+◌, ◌≤◌, ◌<◌, ◌≡◌, length, replicate, Option, Some, None}
use Rattle.model.specs.Bytes.{Bytes}
use Rattle.model.specs.Calls.{Answer}
use Rattle.names.specs.Splice.{splice}
use Rattle.editor.specs.Lent.{Lent, Good, viewed}

-- e is d with s written from the place on, and every other byte as it was; n is the place after s
pub record PutAt (d : Bytes) (at : ℕ) (s : Bytes) (n : ℕ) (e : Bytes) : Type 0 where
  pub next : n ≡ at + length s
  pub within : n ≤ length e
  pub long : length e ≡ length d
  pub done : e ≡ splice d at s

-- it is written whole; or it does not fit, and nothing is said of the bytes
abbrev pub Puts : Bytes → ℕ → Bytes → Option ℕ → Bytes → Type 0
Puts d at s (Some n) e = PutAt d at s n e
Puts d at s None e = length d < at + length s

-- What the program's run gives, every byte decided: the text at the front, with the bytes behind it as they were; or it does not fit, and each byte is 0
abbrev pub Gives : Bytes → Bytes → Option ℕ → Bytes → Type 0
Gives d s (Some n) e = PutAt d 0 s n e
Gives d s None e = (length d < length s) × (e ≡ replicate (length d) 0)

-- the store q holds the editor that the answer leaves
pub record Leaves (a : Answer) (q : Lent) : Type 0 where
  pub good : Good q
  pub is : viewed q ≡ a.editor
