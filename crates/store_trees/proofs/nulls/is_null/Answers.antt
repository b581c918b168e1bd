-- `store_trees::nulls::is_null` meets its contract: all bytes are zero. Assumes nothing.
use mathlib.Core.Path.{◌∙◌}
use Prim.Native.Nat.{ℕ}
use lib.Dec.{eqb}
use Rattle.std.proofs.Common.{rules, tests}
use Rattle.std.proofs.lemmas.Iterator.{YieldsList-from_slice}
use Rattle.std.proofs.lemmas.Iterator.Search.{all_from_yields_List}
use Rattle.store_trees.proofs.NullLaws.{all_zero}
use Rattle.store_trees.proofs.nulls.is_null.Goals as goal

pub returns : goal.returns
returns c =
    all_from_yields_List (λ (b : ℕ). eqb b 0) _ _ _ c.all.ensures.ran (YieldsList-from_slice c.args.id.now cc) (λ x b q k. search (rules, tests)) ∙ all_zero c.args.id.now
