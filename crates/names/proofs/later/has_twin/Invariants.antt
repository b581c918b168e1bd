use Prim.Native.Nat.{◌-◌}
use Rattle.names.proofs.FitLaws.{Twinning}
use Rattle.names.proofs.later.has_twin.Given as goal

abbrev pub invariant-loop-entry : goal.invariant-loop-entry
invariant-loop-entry g l = Twinning (g.E.Entries.held l.fn.entries l.from) l.name (g.E.Entries.held l.fn.entries l.at)

abbrev pub decreases-loop-entry : goal.decreases-loop-entry
decreases-loop-entry g l = g.E.Entries.end l.fn.entries - l.at
