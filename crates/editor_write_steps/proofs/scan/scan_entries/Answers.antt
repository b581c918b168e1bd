-- `editor_write_steps::scan::scan_entries` meets its contract: what is left of the entries decides, on what the scan has made of the write so far. Assumes nothing.
use mathlib.Core.Path.{◌∙◌}
use Rattle.editor_write_steps.proofs.ScanLaws.{scan_begin, scan_more}
use Rattle.editor_write_steps.proofs.scan.scan_entries.Goals as goal

pub loop-entry-init : goal.loop-entry-init
loop-entry-init c = (scan_begin c.args.tree.width c.args.tree.run.good (c.into_iter-entry-iterator.ensures.into_iter_gives ∙ c.entries-entry-items.ensures), c.put_prefix-n.ensures.1)

pub loop-entry-preserved : goal.loop-entry-preserved
loop-entry-preserved c =
    let p = c.put_name-end.ensures.2 c.args.prefix.now c.loop-entry.invariant.1 in
    (scan_more c.loop-entry.invariant.0 c.in-Some.ensures.steps _ c.is_tree.result p.0 c.is_tree.ensures c.take_kid-ed.ensures.same c.take_kid-ed.ensures.between c.take_kid-ed.ensures.going, p.1)
