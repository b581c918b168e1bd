use Rattle.names.proofs.WriteLaws.{Putting}
use Rattle.lines.specs.Hex.{bytes_of}
use Rattle.lines.proofs.hex.unhex_into.Given as goal

abbrev pub invariant-loop-i : goal.invariant-loop-i
invariant-loop-i l = Putting l.initial.out l.out l.at (bytes_of l.s) l.i
