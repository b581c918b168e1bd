use Rattle.model.specs.Tree.{null}
use Rattle.model.specs.Write.{asking}
use Rattle.store_slots.specs.Stores.{SameLent}
use Rattle.store_taken.specs.Taken.{going_in}
use Rattle.editor_write_steps.proofs.OnwardLaws.{weight, Onward}
use Rattle.editor_write_steps.proofs.turn.onward.Given as goal

abbrev pub invariant-loop-slot : goal.invariant-loop-slot
invariant-loop-slot l =
    let g = going_in l.width l.initial.s l.initial.order in
    Onward l.width (asking (null l.width) g.stack g.kept g.cache) l.initial.s.ed.«open» l.s.ed l.s.plens.now l.s.paths.now l.s.tlens.now l.s.trees.now l.order × SameLent l.initial.s l.s

abbrev pub decreases-loop-slot : goal.decreases-loop-slot
decreases-loop-slot l = weight (going_in l.width l.s l.order)
