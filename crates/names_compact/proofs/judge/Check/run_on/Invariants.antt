use Prim.Native.Nat.{◌-◌, ◌≤◌, ◌<◌}
use mathlib.Core.Path.{◌≡◌}
use lib.ListN.{length}
use Rattle.names_compact.specs.Judge.{Head, name_before}
use Rattle.names_compact.proofs.judge.Check.run_on.Given as goal

abbrev pub invariant-loop-next : goal.invariant-loop-next
invariant-loop-next l = record {
  tree : l.run.tree.now ≡ l.initial.run.tree.now;
  width : l.run.width ≡ l.initial.run.width;
  on : l.initial.run.at ≤ l.run.at;
  head : 0 < l.run.at → Head (name_before l.run.tree.now l.run.width l.run.prev l.run.at) l.last;
}

abbrev pub decreases-loop-next : goal.decreases-loop-next
decreases-loop-next l = length l.run.tree.now - l.run.at
