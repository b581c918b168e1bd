-- `editor_walk::measure::landed` meets its contract, by what was found. Assumes nothing.
use Rattle.editor_walk.proofs.MeasureLaws.{passed_on, landed_there, landed_halt, landed_fresh, landed_load}
use Rattle.editor_walk.proofs.measure.landed.Goals as goal
use Rattle.editor_walk.proofs.measure.landed.Goals.{in-There, in-Fresh+in_ok-stage-in-Fresh, in-Load+in_ok-stage-in-Load}

pub returns-in-Halt : goal.returns-in-Halt
returns-in-Halt c = landed_halt c.in-Halt.is

pub returns-in_err-stage-in-Fresh : goal.returns-in_err-stage-in-Fresh
returns-in_err-stage-in-Fresh c = rw (passed_on _ c.from_residual.ensures.1) (landed_fresh (rw c.in_err-stage-in-Fresh.was at c.cached.ensures) c.in-Fresh.is)

pub returns-in_err-stage-in-Load : goal.returns-in_err-stage-in-Load
returns-in_err-stage-in-Load c = rw (passed_on _ c.from_residual-in_err-stage-in-Load.ensures.1) (landed_load (rw c.in_err-stage-in-Load.was at c.cached-in-Load.ensures) c.in-Load.is)

pub returns : goal.returns
returns c =
    elim c.match-landing.branch [
      | in-There w ↦ rw w.stage-is (landed_there c.args.u c.requires.0 w.in-There.is)
      | in-Fresh+in_ok-stage-in-Fresh w ↦ rw w.stage-is (landed_fresh (rw w.in_ok-stage-in-Fresh.was at w.cached.ensures) w.in-Fresh.is)
      | in-Load+in_ok-stage-in-Load w ↦ rw w.stage-is (landed_load (rw w.in_ok-stage-in-Load.was at w.cached-in-Load.ensures) w.in-Load.is)
    ]
