use mathlib.Core.Path.{◌≡◌}
use lib.ListN.{take}
use Rattle.names.specs.Fronts.{lead}
use Rattle.names_compact.specs.Compact.{unpack}
use Rattle.editor_write_steps.proofs.ScanLaws.{Scanning}
use Rattle.editor_write_steps.proofs.scan.scan_entries.Given as goal

abbrev pub invariant-loop-entry : goal.invariant-loop-entry
invariant-loop-entry l = Scanning l.v.plens.now l.v.paths.now l.prefix (unpack l.fn.tree.width l.fn.tree.bytes.now) l.v.ed l.initial.order l.ed l.order l.entry-iterator × (take l.n l.buf ≡ lead l.prefix)
