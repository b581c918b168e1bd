-- `names_compact::compact::Tree::order_at` meets its contract: the key that is compared is that of the entry. Assumes nothing.
use mathlib.Core.Path.{ap, ◌∙◌}
use Rattle.model.specs.Bytes.{cmp}
use Rattle.model.specs.Tree.{as_kind, key}
use Rattle.names_compact.proofs.compact.Tree.order_at.Goals as goal

pub returns : goal.returns
returns c = c.name_order.ensures ∙ ap (cmp (as_kind c.args.key.tree c.args.key.name.now)) (rw c.is_tree.ensures (ap key c.entry_at-e.ensures))
