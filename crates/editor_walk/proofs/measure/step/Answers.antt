-- `editor_walk::measure::step` meets its contract: the turn at the component, its counts, and what is found below. Assumes nothing.
use mathlib.Core.Path.{refl, sym, ◌∙◌}
use Rattle.model.specs.Tree.{Tree}
use Rattle.editor_walk.specs.Counted.{counts_as}
use Rattle.editor_walk.specs.Levels.{Stands}
use Rattle.editor_walk.specs.Tasks.{cached_seen}
use Rattle.editor_walk.proofs.MeasureLaws.{Sighted, step_past, step_stop, step_on}
use Rattle.editor_walk.proofs.measure.step.Goals as goal
use Rattle.editor_walk.proofs.measure.step.Goals.{After-turned-u}

-- what was seen in the tree at hand, the turn and the counts
sighted : (c : After-turned-u) (t : Tree) → Stands c.args.v.tlens.now c.args.v.trees.now c.args.stage.level t
    → Sighted c.args.task c.args.here.last c.args.here.below.now c.args.here.name.now (cached_seen c.args.v) (counts_as c.args.stage.counts) c.seen_at-seen.result c.turn-turn.result t (counts_as c.turned-u.result)
sighted c t h = record { turn = c.turn-turn.ensures; sees = c.seen_at-seen.ensures.is t h; bytes = c.if-n-eq0.false; counts = c.turned-u.ensures c.args.here.name.now refl }

pub returns-then-not-within : goal.returns-then-not-within
returns-then-not-within c = λ t h. step_past (sighted (goal.at.returns-then-not-within c).After-turned-u t h) c.requires.7 (sym c.within.ensures ∙ c.if-not-within.true)

pub returns-then-not-goes_down : goal.returns-then-not-goes_down
returns-then-not-goes_down c = λ t h. step_stop (sighted (goal.at.returns-then-not-goes_down c).After-turned-u t h) (sym c.within.ensures ∙ c.if-not-within.false) (sym (c.goes_down.ensures c.args.here.name.now t) ∙ c.if-not-goes_down.true) c.answer.ensures

pub returns : goal.returns
returns c = λ t h. step_on (sighted (goal.at.returns c).After-turned-u t h) (sym c.within.ensures ∙ c.if-not-within.false) (sym (c.goes_down.ensures c.args.here.name.now t) ∙ c.if-not-goes_down.false) (c.go_down.ensures c.args.v.tlens.now c.args.v.trees.now c.requires.2.all)
