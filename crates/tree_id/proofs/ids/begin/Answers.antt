-- `tree_id::ids::begin` meets its contract: the kind, a space, the digits and a NUL are taken in one behind the other. Assumes nothing.
use mathlib.Core.Path.{◌∙◌}
use mathlib.Core.List.{[]}
use Rattle.tree_id.proofs.Laws.{header_held}
use Rattle.tree_id.proofs.ids.begin.Goals as goal

pub returns : goal.returns
returns g c =
    header_held c.args.kind.now c.args.n c.after.result.now (c.after.ensures ∙ c.decimal_into-from.ensures.digits_after)
    (c.update-3.ensures.holds _ (c.update-2.ensures.holds _ (c.update-a.ensures.holds _ (c.update.ensures.holds [] c.start.ensures))))
