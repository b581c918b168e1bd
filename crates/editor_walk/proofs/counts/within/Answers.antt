-- `editor_walk::counts::within` meets its contract: each test is one of the limits. Assumes nothing.
use mathlib.Core.Path.{sym}
use native.Mathlib.Omega.{arith}
use Rattle.editor_walk.specs.Counted.{counts_as}
use Rattle.editor_walk.proofs.CountLaws.{not_within, within_paths}
use Rattle.editor_walk.proofs.counts.within.Goals as goal
use Rattle.editor_walk.proofs.counts.within.Goals.{then-u-gt-SLOTS-via-then-u-gt-SLOTS, then-u-gt-SLOTS-via-else-u-gt-SLOTS+then-u-gt-ENTRIES, then-u-gt-SLOTS-via-else-u-gt-SLOTS+else-u-gt-ENTRIES+then-u-gt-NAME_BYTES}

pub returns-then-u-gt-SLOTS : goal.returns-then-u-gt-SLOTS
returns-then-u-gt-SLOTS c =
    sym (not_within (counts_as c.args.u) (λ r.
    elim c.then-u-gt-SLOTS.branch [
      | then-u-gt-SLOTS-via-then-u-gt-SLOTS w ↦ omega (arith, r.trees, w.if-u-gt-SLOTS.true)
      | then-u-gt-SLOTS-via-else-u-gt-SLOTS+then-u-gt-ENTRIES w ↦ omega (arith, r.entries, w.if-u-gt-ENTRIES.true)
      | then-u-gt-SLOTS-via-else-u-gt-SLOTS+else-u-gt-ENTRIES+then-u-gt-NAME_BYTES w ↦ omega (arith, r.names, w.if-u-gt-NAME_BYTES.true)
    ]))

pub returns : goal.returns
returns c = within_paths (counts_as c.args.u) c.if-u-gt-SLOTS.false c.if-u-gt-ENTRIES.false c.if-u-gt-NAME_BYTES.false
