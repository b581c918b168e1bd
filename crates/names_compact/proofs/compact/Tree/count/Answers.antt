-- `names_compact::compact::Tree::count` meets its contract: there are no more entries than bytes. Assumes nothing.
use mathlib.Core.Path.{ap}
use mathlib.Core.Logic.{inl}
use native.Mathlib.Omega.{arith}
use lib.ListN.{length}
use Rattle.names_compact.proofs.CompactSearchLaws.{entries_fewer}
use Rattle.names_compact.proofs.compact.Tree.count.Goals as goal

pub count-requires-clause-fits : goal.count-requires-clause-fits
count-requires-clause-fits c = inl (omega (arith, entries_fewer _ _ c.args.self.run, c.ranges.self.0, ap length c.entries.ensures))
