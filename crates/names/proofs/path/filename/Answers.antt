-- `names::path::filename` meets its contract: the bytes before the first slash from the end are the name. Assumes nothing.
use borrow.Author.Rules.{rules}
use borrow.Author.Tests.{tests}
use mathlib.Core.Path.{◌≡◌, ◌∙◌, subst}
use lib.ListN.{length}
use Prim.Native.Nat.{◌-◌}
use Rattle.std.proofs.lemmas.Iterator.{IsFirst-from_position}
use Rattle.std.proofs.lemmas.Iterator.Adapters.{YieldsList-from_rev_slice}
use Rattle.names.proofs.PathLaws.{rest_part, NamePart, base_first}
use Rattle.names.proofs.path.filename.Goals as goal

pub returns-in-Some : goal.returns-in-Some
returns-in-Some c =
    rest_part c.args.path.now (length c.args.path.now - c.in-Some.n)
    ∙ subst (NamePart c.args.path.now) c.in-Some.is
    (base_first _ _ (IsFirst-from_position _ _ _ (λ b. b ≡ 47) (λ b. b ≡ 47 → ⊥) c.position.ensures.ran (YieldsList-from_rev_slice c.args.path.now cc) (λ x q k. search (rules, tests)) (λ x q k. search (rules, tests))))

pub returns-in-None : goal.returns-in-None
returns-in-None c =
    subst (NamePart c.args.path.now) c.in-None.is
    (base_first _ _ (IsFirst-from_position _ _ _ (λ b. b ≡ 47) (λ b. b ≡ 47 → ⊥) c.position.ensures.ran (YieldsList-from_rev_slice c.args.path.now cc) (λ x q k. search (rules, tests)) (λ x q k. search (rules, tests))))
