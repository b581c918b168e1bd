-- `names::eight::low_at` meets its contract: each byte is a digit to the base 256, the first the lowest. Assumes nothing.
use Prim.Native.Nat.{◌+◌, ◌-◌}
use native.Mathlib.Omega.{arith}
use mathlib.Core.Path.{◌≡◌, ap, ◌∙◌}
use lib.ListN.{take, drop}
use Rattle.std.specs.Array.{IsWholeChunk}
use Rattle.names.proofs.EightLaws.{low_there}
use Rattle.names.proofs.eight.low_at.Goals as goal

pub returns : goal.returns
returns c =
    let a = c.args in
    let n : a.k + 8 - a.k ≡ 8 = omega arith in
    let w : IsWholeChunk (take (a.k + 8 - a.k) (drop a.k a.s.now)) c.unwrap.result 8 = rw c.unwrap.ensures at c.try_into.ensures.1 in
    low_there a.s.now a.k c.requires (λ i. omega (arith, c.type_inv.s i)) (w.same ∙ ap (λ m. take m (drop a.k a.s.now)) n) c.from_le_bytes.ensures
