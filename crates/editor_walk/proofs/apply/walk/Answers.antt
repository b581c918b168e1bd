-- `editor_walk::apply::walk` meets its contract: what is left of the path decides, from the store as it is. Assumes nothing.
use mathlib.Core.Path.{refl}
use native.Mathlib.Omega.{arith}
use Rattle.names.proofs.FrontLaws.{front_long}
use Rattle.editor_walk.proofs.WalkLaws.{walk_empty, walk_begin, walk_fits, walk_good, walk_over, walk_last, walk_next}
use Rattle.editor_walk.proofs.apply.walk.Goals as goal

pub returns-then-path-eq0-clause-done : goal.returns-then-path-eq0-clause-done
returns-then-path-eq0-clause-done c = walk_empty c.args.task c.args.s.now c.requires.0 c.requires.1 c.args.slot c.args.path.now c.if-path-eq0.true refl

pub loop-answer-init : goal.loop-answer-init
loop-answer-init c =
    let a = c.args in walk_begin a.task a.s.now c.requires.0 c.requires.1 a.slot a.path.now a.full.now c.requires.2 c.requires.3 c.requires.4 c.requires.5 c.if-path-eq0.false

pub first-here-requires : goal.first-here-requires
first-here-requires c = omega (arith, front_long c.loop-answer.invariant.front)

pub step-requires : goal.step-requires
step-requires c =
    let i = c.loop-answer.invariant in (
      i.stand.laid,
      i.stand.closed,
      i.used,
      walk_good i refl c.first-here.ensures.last refl c.first-here.ensures.below c.first-here.ensures.name,
      walk_fits i refl c.first-here.ensures.last refl c.first-here.ensures.below c.first-here.ensures.name,
    )

pub returns-in-Break-clause-done : goal.returns-in-Break-clause-done
returns-in-Break-clause-done c = walk_over c.loop-answer.invariant refl c.first-here.ensures.last refl c.first-here.ensures.below c.first-here.ensures.name c.step.ensures.done c.in-Break.is

pub returns-then-here-clause-done : goal.returns-then-here-clause-done
returns-then-here-clause-done c = walk_last c.loop-answer.invariant refl c.first-here.ensures.last refl c.first-here.ensures.below c.first-here.ensures.name c.step.ensures.done c.in-Continue.is c.if-here.true refl

pub loop-answer-preserved : goal.loop-answer-preserved
loop-answer-preserved c = walk_next c.loop-answer.invariant refl c.first-here.ensures.last refl c.first-here.ensures.below c.first-here.ensures.name c.step.ensures.done c.in-Continue.is c.if-here.false c.step.ensures.lent c.first-here.ensures.rest
