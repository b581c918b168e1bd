use Prim.Native.Nat.{◌*◌}
use Rattle.lines.specs.Hex.{hex_of}
use Rattle.names.proofs.WriteLaws.{Putting}
use Rattle.lines.proofs.text.hex_into.Given as goal

abbrev pub invariant-loop-i : goal.invariant-loop-i
invariant-loop-i l = Putting l.initial.out l.out l.at (hex_of l.bytes) (2 * l.i)
