-- Parts of a tree in compact form, which are hashed one after the other. Assumes nothing.
use Rattle.std.specs.Prelude.{◌≡◌, ℕ, ◌≤◌, ◌++◌, length}
use Rattle.model.specs.Bytes.{Bytes}
use Rattle.model.specs.Raw.{raw_tree}
use Rattle.names_compact.specs.Compact.{Run, unpack}

-- the run b is x and then y; x is whole entries, whose raw form takes at most n bytes; so is y, and its raw form follows
pub record Part (w : ℕ) (b x y : Bytes) (n : ℕ) : Type 0 where
  pub whole : b ≡ x ++ y
  pub first : Run w x
  pub others : Run w y
  pub raw : raw_tree (unpack w b) ≡ raw_tree (unpack w x) ++ raw_tree (unpack w y)
  pub long : length (raw_tree (unpack w x)) ≤ n
