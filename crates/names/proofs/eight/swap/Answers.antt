-- `names::eight::swap` meets its contract: the bytes in the other order are one number. Assumes nothing.
use mathlib.Core.Path.{◌∙◌}
use native.Mathlib.Omega.{arith}
use Rattle.names.proofs.EightLaws.{turned}
use Rattle.names.proofs.eight.swap.Goals as goal

pub returns : goal.returns
returns c = c.swap_bytes.ensures ∙ turned c.args.w (omega (arith, c.ranges.w))
