-- `editor_walk::measure::measure` meets its contract: what is left of the path decides, from the tree at hand and the counts. Assumes nothing.
use Prim.Native.Nat.{◌+◌, ◌-◌}
use mathlib.Core.Path.{refl, ap, ◌∙◌}
use native.Mathlib.Omega.{arith}
use Rattle.std.specs.Prelude.{Ok}
use lib.ListN.{length}
use lib.Seq.{length-take-le}
use Rattle.model.specs.Bytes.{has}
use Rattle.names.specs.Places.{first_piece}
use Rattle.names.proofs.FrontLaws.{front_long, piece_short}
use Rattle.editor_walk.specs.Tasks.{path_seen, view_seen}
use Rattle.editor_walk.proofs.ComponentLaws.{piece_plain}
use Rattle.editor_walk.proofs.MeasureLaws.{stored, passed_on, measure_empty, measure_begin, measure_past, measure_over, measure_last, measure_next}
use Rattle.editor_walk.proofs.measure.measure.Goals as goal

pub returns-then-path-eq0 : goal.returns-then-path-eq0
returns-then-path-eq0 c = measure_empty c.args.task (path_seen c.args.v c.args.slot) c.args.path.now (view_seen c.args.v) c.if-path-eq0.true refl

pub loop-answer-init : goal.loop-answer-init
loop-answer-init c = measure_begin c.args.task c.args.v c.args.full.now c.args.path.now c.args.slot c.requires.0 c.requires.2 c.requires.3 c.requires.4 c.if-path-eq0.false c.counts_of.result c.counts_of.ensures

pub first-here-requires : goal.first-here-requires
first-here-requires c = omega (arith, front_long c.loop-answer.invariant.front)

pub step-requires : goal.step-requires
step-requires c =
    let a = c.args in
    let p = c.loop-answer.p.now in
    let k = length (first_piece p) in
    let h = piece_short p k refl in
    let g = front_long c.loop-answer.invariant.front in
    let j = length-take-le (length a.full.now - length p + k) a.full.now (omega (arith, h, g)) in
    let i = length-take-le k p h in
    let e = c.first-here.ensures in (
      c.requires.0.paths_sound,
      c.requires.0.plens_64,
      stored c.requires.0,
      (c.loop-answer.invariant.tree, c.loop-answer.invariant.stands),
      ap (has 47) e.name ∙ piece_plain p k refl,
      omega (arith, ap length e.below, j, h, g, c.requires.5),
      omega (arith, ap length e.name, i, h, g, c.requires.5),
      c.loop-answer.invariant.room,
    )

pub returns-in_err-answer : goal.returns-in_err-answer
returns-in_err-answer c =
    let i = c.loop-answer.invariant in
    rw (passed_on _ c.from_residual.ensures.1)
    (measure_past i refl c.first-here.ensures.last refl c.first-here.ensures.below c.first-here.ensures.name c.requires.1 (c.step.ensures i.tree i.stands) c.in_err-answer.was)

pub returns-in-Break : goal.returns-in-Break
returns-in-Break c =
    let i = c.loop-answer.invariant in
    measure_over i refl c.first-here.ensures.last refl c.first-here.ensures.below c.first-here.ensures.name c.requires.1 (c.step.ensures i.tree i.stands) (c.in_ok-answer.was ∙ ap Ok c.in-Break.is)

pub returns-then-here : goal.returns-then-here
returns-then-here c =
    let i = c.loop-answer.invariant in
    measure_last i refl c.first-here.ensures.last refl c.first-here.ensures.below c.first-here.ensures.name c.requires.1 (c.step.ensures i.tree i.stands) (c.in_ok-answer.was ∙ ap Ok c.in-Continue.is) c.if-here.true refl

pub loop-answer-preserved : goal.loop-answer-preserved
loop-answer-preserved c =
    let i = c.loop-answer.invariant in
    measure_next i refl c.first-here.ensures.last refl c.first-here.ensures.below c.first-here.ensures.name c.requires.1 (c.step.ensures i.tree i.stands) (c.in_ok-answer.was ∙ ap Ok c.in-Continue.is) c.if-here.false c.first-here.ensures.rest
