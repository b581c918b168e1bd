-- `names_salvage::table::Table::place_for` meets its contract: the slots kept are those that are searched. Assumes nothing.
use Rattle.names_salvage.proofs.MendLaws.{lists_as}
use Rattle.names_salvage.proofs.table.Table.place_for.Goals as goal

pub returns : goal.returns
returns c = λ t l. c.place_in.ensures t (lists_as c.kept.ensures l)
