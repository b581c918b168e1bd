use Rattle.std.proofs.Common.{◌≡◌, ◌*◌, take}
use Rattle.hash.specs.Blocks.{in_bytes}
use Rattle.hash.proofs.word.put_bytes.Given as goal

abbrev pub invariant-loop-i : goal.invariant-loop-i
invariant-loop-i l = take (4 * l.i) l.out ≡ in_bytes (take l.i l.words)
