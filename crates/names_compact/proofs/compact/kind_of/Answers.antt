-- `names_compact::compact::kind_of` meets its contract: each byte below 4 is one of four modes, and any other is the fifth. Assumes nothing.
use mathlib.Core.Path.{sym, ap}
use native.Mathlib.Omega.{arith}
use Rattle.names_compact.specs.Compact.{mode_at}
use Rattle.names_compact.proofs.CompactLaws.{mode_high}
use Rattle.names_compact.proofs.compact.kind_of.Goals as goal

pub returns-in-0 : goal.returns-in-0
unfolding mode_at
returns-in-0 c = sym (ap mode_at c.in-0.is)

pub returns-in-1 : goal.returns-in-1
unfolding mode_at
returns-in-1 c = sym (ap mode_at c.in-1.is)

pub returns-in-2 : goal.returns-in-2
unfolding mode_at
returns-in-2 c = sym (ap mode_at c.in-2.is)

pub returns-in-3 : goal.returns-in-3
unfolding mode_at
returns-in-3 c = sym (ap mode_at c.in-3.is)

pub returns-in_default : goal.returns-in_default
returns-in_default c = let r = c.in_default.in_default-own.rest in mode_high _ (omega (arith, r.1, r.0.1, r.0.0.1, r.0.0.0.1))
