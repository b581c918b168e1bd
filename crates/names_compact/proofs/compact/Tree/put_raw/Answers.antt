-- `names_compact::compact::Tree::put_raw` meets its contract: the entries that were written are those that are not left, in their order. Assumes nothing.
use mathlib.Core.Path.{◌∙◌}
use Rattle.names_compact.proofs.CompactRawLaws.{write_begin, write_end, write_fits, write_more}
use Rattle.names_compact.proofs.compact.Tree.put_raw.Goals as goal

pub loop-e-init : goal.loop-e-init
loop-e-init c = write_begin _ (c.into_iter-e-iterator.ensures.into_iter_gives ∙ c.entries-e-items.ensures)

pub put_entry-to-requires : goal.put_entry-to-requires
put_entry-to-requires c = write_fits c.loop-e.invariant c.requires c.in-Some.ensures.steps

pub loop-e-preserved : goal.loop-e-preserved
loop-e-preserved c = write_more c.loop-e.invariant c.requires c.in-Some.ensures.steps c.put_entry-to.ensures.value c.put_entry-to.ensures.out_after

pub returns-clause-value : goal.returns-clause-value
returns-clause-value c = (write_end c.loop-e.invariant c.in-None.ensures.steps.0).0

pub returns-clause-out_after : goal.returns-clause-out_after
returns-clause-out_after c = (write_end c.loop-e.invariant c.in-None.ensures.steps.0).1
