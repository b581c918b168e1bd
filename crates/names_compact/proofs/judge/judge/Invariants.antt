use Prim.Native.Nat.{◌-◌, ◌<◌}
use mathlib.Core.Path.{◌≡◌}
use lib.ListN.{length}
use Rattle.std.specs.Prelude.{IfSome}
use Rattle.names_compact.specs.Judge.{Head, name_before}
use Rattle.names_compact.proofs.judge.judge.Given as goal

abbrev pub invariant-loop-check : goal.invariant-loop-check
invariant-loop-check l = record {
  tree : l.check.tree.now ≡ l.fn.tree;
  width : l.check.width ≡ l.fn.width;
  head : 0 < l.check.at → IfSome l.first (λ x. Head (name_before l.check.tree.now l.check.width l.check.prev l.check.at) x);
}

abbrev pub decreases-loop-check : goal.decreases-loop-check
decreases-loop-check l = length l.check.tree.now - l.check.at
