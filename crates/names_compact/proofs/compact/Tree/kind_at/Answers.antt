-- `names_compact::compact::Tree::kind_at` meets its contract: it is the entry's. Assumes nothing.
use mathlib.Core.Path.{ap}
use Rattle.model.specs.Tree.{Entry}
use Rattle.names_compact.proofs.compact.Tree.kind_at.Goals as goal

pub returns : goal.returns
returns c = ap (λ (e : Entry). e.mode) c.entry_at.ensures
