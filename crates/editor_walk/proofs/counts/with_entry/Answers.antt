-- `editor_walk::counts::with_entry` meets its contract: an entry that was there is counted already; within the limits no sum passes a word. Assumes nothing.
use mathlib.Core.Path.{sym, ap, ◌∙◌}
use native.Mathlib.Omega.{arith}
use Rattle.model.proofs.LimitLaws.{roomy}
use Rattle.editor_terms.specs.Edits.{put_counts}
use Rattle.std.specs.Prelude.{Option}
use Rattle.editor_terms.specs.declared.edit.Seen.{Seen}
use Rattle.editor_walk.specs.Counted.{counts_as}
use Rattle.editor_walk.proofs.CountLaws.{plus_name_lem}
use Rattle.editor_walk.proofs.counts.with_entry.Goals as goal

pub overflow_add-result : goal.overflow_add-result
overflow_add-result c =
    let r = roomy (counts_as c.args.u) c.requires.0 in
    omega (arith, r.entries)

pub overflow_add-result-in-None : goal.overflow_add-result-in-None
overflow_add-result-in-None c =
    let r = roomy (counts_as c.args.u) c.requires.0 in
    omega (arith, r.names, c.requires.1)

pub returns-in-None : goal.returns-in-None
returns-in-None c =
    let a = c.args in
    λ name e. plus_name_lem (counts_as a.u) a.n name e ∙ sym (ap (λ (z : Option Seen). put_counts z name (counts_as a.u)) c.in-None.is)
