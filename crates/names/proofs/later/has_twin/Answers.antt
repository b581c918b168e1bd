-- `names::later::has_twin` meets its contract: every entry passed comes before the twin, so the first that does not decides. Assumes nothing.
use native.Mathlib.Omega.{arith}
use mathlib.Core.Path.{◌∙◌}
use Rattle.names.proofs.FitLaws.{twin_begin, twin_less, twin_equal, twin_greater}
use Rattle.names.proofs.LaterLaws.{reads_begins, reads_key, reads_none}
use Rattle.names.proofs.later.has_twin.Goals as goal

pub loop-entry-init : goal.loop-entry-init
loop-entry-init g c = twin_begin _ _

pub loop-entry-smaller : goal.loop-entry-smaller
loop-entry-smaller g c = omega (arith, c.in-Ok.ensures.forward, c.in-Ok.ensures.inside)

pub loop-entry-preserved : goal.loop-entry-preserved
loop-entry-preserved g c = twin_less c.loop-entry.invariant (reads_begins c.in-Ok.ensures) _ (c.name_order.ensures ∙ reads_key c.in-Ok.ensures _) c.in-Less.is

pub returns-in-Equal : goal.returns-in-Equal
returns-in-Equal g c = twin_equal c.loop-entry.invariant (reads_begins c.in-Ok.ensures) _ (c.name_order.ensures ∙ reads_key c.in-Ok.ensures _) c.in-Equal.is

pub returns-in-Greater : goal.returns-in-Greater
returns-in-Greater g c = twin_greater c.loop-entry.invariant (reads_begins c.in-Ok.ensures) _ (c.name_order.ensures ∙ reads_key c.in-Ok.ensures _) c.in-Greater.is

pub returns-in-Err : goal.returns-in-Err
returns-in-Err g c = reads_none c.loop-entry.invariant c.in-Err.ensures
