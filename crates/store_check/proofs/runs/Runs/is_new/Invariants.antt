use lib.ListN.{length}
use Rattle.store_runs.specs.Digits.{digits}
use Rattle.store_runs.specs.Runs.{cut}
use Rattle.store_check.specs.Laid.{New}
use Rattle.store_check.proofs.runs.Runs.is_new.Given as goal

abbrev pub invariant-loop-j : goal.invariant-loop-j
invariant-loop-j l = New (digits 64 l.map) (cut l.self.lens.now l.self.bytes.now) (length l.yielded) l.path
