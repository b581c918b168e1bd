-- `eq` of keys meets its contract: the order answers that they are equal exactly if their ordered bytes are. Assumes nothing.
use mathlib.Core.Path.{sym, ap, ◌∙◌}
use Rattle.std.specs.Ordering.{is_eq}
use Rattle.std.specs.Cmp.Lexicographic.{texts_ties}
use Rattle.names.specs.Keys.{ordered}
use Rattle.names.proofs.OrderLaws.{order_said}
use Rattle.names.proofs.order.KeyPartialEq.eq.Goals as goal

pub returns : goal.returns
returns c =
    let k = ordered c.args.self.now in
    let l = ordered c.args.other.now in
    c.is_eq.ensures ∙ ap is_eq (order_said k l c.name_order.ensures) ∙ sym (texts_ties k l)
