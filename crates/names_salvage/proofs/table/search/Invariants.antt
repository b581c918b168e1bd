use Prim.Native.Nat.{◌-◌, ◌≤◌}
use mathlib.Core.Path.{◌≡◌}
use mathlib.Core.Bool.{true}
use lib.ListN.{length}
use Rattle.model.specs.Map.{rising}
use Rattle.model.specs.Tree.{Tree, as_kind, key}
use Rattle.names_salvage.specs.Answers.{Lists}
use Rattle.names_salvage.proofs.SeekLaws.{Seeking}
use Rattle.names_salvage.proofs.table.search.Given as goal

abbrev pub invariant-loop-lo : goal.invariant-loop-lo
invariant-loop-lo l = (l.lo ≤ l.hi) × (l.hi ≤ length l.kept) × ((t : Tree) → Lists l.raw l.kept t → rising key t ≡ true → Seeking t (as_kind l.sought.tree l.sought.name.now) l.lo l.hi)

abbrev pub decreases-loop-lo : goal.decreases-loop-lo
decreases-loop-lo l = l.hi - l.lo
