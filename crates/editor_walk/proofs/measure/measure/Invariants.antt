use lib.ListN.{length}
use Rattle.editor_walk.specs.Tasks.{measure_for, path_seen, view_seen}
use Rattle.editor_walk.proofs.MeasureLaws.{Measuring}
use Rattle.editor_walk.proofs.measure.measure.Given as goal

abbrev pub invariant-loop-answer : goal.invariant-loop-answer
invariant-loop-answer l = Measuring l.task l.v l.full (measure_for l.task (path_seen l.v l.slot) l.path (view_seen l.v)) l.p l.stage

abbrev pub decreases-loop-answer : goal.decreases-loop-answer
decreases-loop-answer l = length l.p
