-- `names_compact::judge::Check::before` meets its contract: the entry before ends where this one starts, and none is before the first place. Assumes nothing.
use mathlib.Core.Path.{sym, ◌∙◌}
use native.Mathlib.Omega.{arith}
use Rattle.names_compact.proofs.AheadLaws.{before_none, before_some}
use Rattle.names_compact.proofs.judge.Check.before.Goals as goal

pub returns-then-self-eq0-clause-name : goal.returns-then-self-eq0-clause-name
returns-then-self-eq0-clause-name c = sym (before_none _ _ _ _ c.if-self-eq0.true).0

pub returns-then-self-eq0-clause-tree : goal.returns-then-self-eq0-clause-tree
returns-then-self-eq0-clause-tree c = sym (before_none _ c.args.self.width _ _ c.if-self-eq0.true).1

pub returns-clause-name : goal.returns-clause-name
returns-clause-name c = c.key_held.ensures.name ∙ sym (before_some _ _ _ _ (omega (arith, c.if-self-eq0.false))).0

pub returns-clause-tree : goal.returns-clause-tree
returns-clause-tree c = c.key_held.ensures.tree ∙ sym (before_some _ c.args.self.width _ _ (omega (arith, c.if-self-eq0.false))).1
