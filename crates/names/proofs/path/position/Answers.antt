-- `names::path::position` meets its contract: the first byte that passes the test is the first that is b. Assumes nothing.
use borrow.Author.Rules.{rules}
use borrow.Author.Tests.{tests}
use Rattle.std.proofs.lemmas.Iterator.{IsFirst-from_position, YieldsList-from_slice}
use mathlib.Core.Path.{◌≡◌}
use Rattle.names.proofs.PathLaws.{index_first}
use Rattle.names.proofs.path.position.Goals as goal

pub returns : goal.returns
returns c = index_first _ _ _ (IsFirst-from_position _ _ _ (λ x. x ≡ c.args.b) (λ x. x ≡ c.args.b → ⊥) c.position.ensures.ran (YieldsList-from_slice c.args.s.now cc) (λ x q k. search (rules, tests)) (λ x q k. search (rules, tests)))
