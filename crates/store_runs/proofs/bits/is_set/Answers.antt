-- `store_runs::bits::is_set` meets its contract: the digit of a place is the word shifted there, without its higher digits. Assumes nothing.
use mathlib.Core.Path.{ap, sym}
use Prim.Native.Nat.{ℕ}
use lib.Dec.{eqb}
use Rattle.store_runs.proofs.DigitLaws.{digit_at}
use Rattle.store_runs.proofs.bits.is_set.Goals as goal

pub returns : goal.returns
returns c = ap (λ (x : ℕ). eqb x 1) (sym (digit_at 64 c.args.map c.args.slot c.requires))
