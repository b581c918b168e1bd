-- `editor_walk::apply::step` meets its contract: the turn is applied, and the walk ends there or goes down. Assumes nothing.
use mathlib.Core.Path.{sym, ap, ◌∙◌}
use Rattle.model.specs.Tree.{Tree, entry_of}
use Rattle.store_slots.specs.Stores.{path_in_slot, tree_in_slot}
use Rattle.editor_terms.specs.Edits.{parts_of}
use Rattle.editor_walk.proofs.TurnLaws.{seen_run, seen_tree, seen_order, step_empty, Turning, turn_fits, still_laid, still_closed, step_stop, down_fits, step_on}
use Rattle.editor_walk.proofs.apply.step.Goals as goal
use Rattle.editor_walk.proofs.apply.step.Goals.{After-turn-turn}

pub returns-then-here-eq0-clause-done : goal.returns-then-here-eq0-clause-done
returns-then-here-eq0-clause-done c =
    let a = c.args in step_empty a.task a.here.last (path_in_slot a.s.now a.slot) a.here.below.now a.here.name.now a.s.now c.requires.0 c.requires.1 c.if-here-eq0.true

pub seen_for-seen-requires : goal.seen_for-seen-requires
seen_for-seen-requires c = (seen_run c.view.ensures c.requires.0 c.requires.2 c.tree_in.ensures, seen_order c.view.ensures c.requires.0 c.requires.2 c.tree_in.ensures)

-- the turn
turning : (c : After-turn-turn) → Turning c.args.task c.args.here.last c.args.here.below.now c.args.here.name.now c.args.s.now c.args.slot c.seen_for-seen.result c.turn-turn.result
turning c =
    record {
      laid = c.requires.0;
      closed = c.requires.1;
      used = c.requires.2;
      turn = c.turn-turn.ensures;
      sees = λ h. c.seen_for-seen.ensures h ∙ ap (λ (z : Tree). parts_of (entry_of c.args.here.name.now z)) (seen_tree c.view.ensures c.requires.0 c.requires.2 c.tree_in.ensures);
      bytes = c.if-here-eq0.false;
    }

pub apply-requires : goal.apply-requires
apply-requires c = (c.requires.0, c.requires.2, c.requires.3 c.if-here-eq0.false, turn_fits (turning (goal.at.apply-requires c).After-turn-turn) c.requires.4)

pub returns-then-not-goes_down-clause-done : goal.returns-then-not-goes_down-clause-done
returns-then-not-goes_down-clause-done c =
    let a = c.args in
    step_stop (turning (goal.at.returns-then-not-goes_down-clause-done c).After-turn-turn) c.apply.ensures (sym (c.goes_down.ensures a.here.name.now (tree_in_slot 20 a.s.now a.slot)) ∙ c.if-not-goes_down.true) c.answer.ensures

pub go_down-requires : goal.go_down-requires
go_down-requires c =
    let a = c.args in
    let t = turning (goal.at.go_down-requires c).After-turn-turn in (
      still_laid t c.apply.ensures,
      still_closed t c.apply.ensures,
      down_fits t c.apply.ensures (sym (c.goes_down.ensures a.here.name.now (tree_in_slot 20 a.s.now a.slot)) ∙ c.if-not-goes_down.false) c.requires.4,
    )

pub returns-clause-done : goal.returns-clause-done
returns-clause-done c =
    let a = c.args in
    step_on (turning (goal.at.returns-clause-done c).After-turn-turn) c.apply.ensures (sym (c.goes_down.ensures a.here.name.now (tree_in_slot 20 a.s.now a.slot)) ∙ c.if-not-goes_down.false) c.go_down.ensures.done
