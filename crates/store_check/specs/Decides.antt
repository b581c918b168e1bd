-- What a test says of what it tests. Assumes nothing.
use Rattle.std.specs.Prelude.{◌≡◌, Bool, true}

-- the test gives true exactly where P is so
pub record Decides (P : Type 0) (b : Bool) : Type 0 where
  pub yes : b ≡ true → P
  pub no : P → b ≡ true
