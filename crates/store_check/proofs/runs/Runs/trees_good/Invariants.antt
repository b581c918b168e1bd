use lib.ListN.{length}
use Rattle.store_runs.specs.Runs.{cut}
use Rattle.store_check.proofs.CountLaws.{Counting}
use Rattle.store_check.proofs.runs.Runs.trees_good.Given as goal

abbrev pub invariant-loop-tree : goal.invariant-loop-tree
invariant-loop-tree l = Counting l.width (cut l.self.lens.now l.self.bytes.now) l.fn.all l.left (length l.yielded)
