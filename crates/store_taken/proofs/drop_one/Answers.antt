-- `store_taken::drop_one` meets its contract: a slot that goes is dropped, and one that stays is free or not in the map. Assumes nothing.
use mathlib.Core.Path.{sym, ◌∙◌}
use Rattle.store_taken.proofs.Dropping.{goes_used, stays_free}
use Rattle.store_taken.proofs.drop_one.Goals as goal

pub drop_slot-requires : goal.drop_slot-requires
drop_slot-requires c = (
  c.requires.0,
  c.requires.1,
  record { low = c.requires.2; used = (goes_used c.args.s.now.ed.free c.args.gone c.args.k c.requires.2 (sym c.goes.ensures ∙ c.if-goes.true)).0 },
)

pub returns-else-goes-clause-free : goal.returns-else-goes-clause-free
returns-else-goes-clause-free c = stays_free c.args.s.now.ed.free c.args.gone c.args.k c.requires.2 (sym c.goes.ensures ∙ c.if-goes.false)
