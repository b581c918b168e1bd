-- `store_runs::bits::count` meets its contract: the ones of a word are its digits that are set. Assumes nothing.
use Rattle.store_runs.proofs.DigitLaws.{ones_total}
use Rattle.store_runs.proofs.bits.count.Goals as goal

pub returns : goal.returns
returns c = ones_total 64 c.args.map c.ranges.map.fits
