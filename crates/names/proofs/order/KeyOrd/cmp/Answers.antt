-- `cmp` of keys meets its contract: Git's order is that of the ordered bytes. Assumes nothing.
use Rattle.names.specs.Keys.{ordered}
use Rattle.names.proofs.OrderLaws.{order_said}
use Rattle.names.proofs.order.KeyOrd.cmp.Goals as goal

pub returns : goal.returns
returns c = order_said (ordered c.args.self.now) (ordered c.args.other.now) c.name_order.ensures
