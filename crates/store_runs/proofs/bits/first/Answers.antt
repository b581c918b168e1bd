-- `store_runs::bits::first` meets its contract: the trailing zeros of a word are the digits before its first that is set. Assumes nothing.
use Rattle.store_runs.proofs.DigitLaws.{trailing_first}
use Rattle.store_runs.proofs.bits.first.Goals as goal

pub returns : goal.returns
returns c = trailing_first 64 c.args.map
