use lib.ListN.{length}
use Rattle.store_runs.specs.Runs.{cut}
use Rattle.store_check.proofs.SeenLaws.{Seen}
use Rattle.store_check.proofs.runs.Runs.repeated.Given as goal

abbrev pub invariant-loop-k : goal.invariant-loop-k
invariant-loop-k l = Seen l.map (cut l.self.lens.now l.self.bytes.now) l.seen l.again (length l.yielded)
