use lib.ListN.{length}
use Rattle.model.specs.Paths.{components}
use Rattle.store_slots.specs.Stores.{path_in_slot, view_in}
use Rattle.editor_walk.specs.Tasks.{walk_for}
use Rattle.editor_walk.proofs.WalkLaws.{Walking}
use Rattle.editor_walk.proofs.apply.walk.Given as goal

abbrev pub invariant-loop-answer : goal.invariant-loop-answer
invariant-loop-answer l = Walking l.task (walk_for l.task (components l.path) (path_in_slot l.initial.s l.slot) (view_in 20 l.initial.s)) l.initial.s l.full l.s l.p l.at

abbrev pub decreases-loop-answer : goal.decreases-loop-answer
decreases-loop-answer l = length l.p
