-- `names_compact::judge::Check::start` meets its contract: all of the bytes are ahead. Assumes nothing.
use Rattle.names_compact.proofs.AheadLaws.{reached_begin}
use Rattle.names_compact.proofs.judge.Check.start.Goals as goal

pub invariant_of-result : goal.invariant_of-result
invariant_of-result c = record { reached = reached_begin _ _ }
