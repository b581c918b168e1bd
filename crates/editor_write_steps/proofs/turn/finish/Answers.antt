-- `editor_write_steps::turn::finish` meets its contract: without its null-id entries the tree is dropped or to be requested as the model says. Assumes nothing.
use mathlib.Core.Path.{sym, ◌∙◌}
use mathlib.Core.List.{[], ◌∷◌}
use Rattle.editor_write_steps.proofs.LinkLaws.{between_kept}
use Rattle.editor_write_steps.proofs.FinishLaws.{dropped_test, null_child, null_asked, null_goes}
use Rattle.editor_write_steps.proofs.turn.finish.Goals as goal

pub unlink-requires : goal.unlink-requires
unlink-requires c =
    let e = c.drop_null.ensures in
    let (order, h) = c.requires.2 in
    let u = h.between.marks.used.0 in
    (rw (e.keys.plens, e.keys.paths) e.edit.laid, c.requires.1, (order, null_child c.requires.0 u e order h (sym (dropped_test c.requires.0 u e order h c.is_dropped.ensures) ∙ c.if-is_dropped.true)))

pub returns-then-is_dropped-clause-step : goal.returns-then-is_dropped-clause-step
returns-then-is_dropped-clause-step c order h =
    let e = c.drop_null.ensures in
    let u = h.between.marks.used.0 in
    let y = sym (dropped_test c.requires.0 u e order h c.is_dropped.ensures) ∙ c.if-is_dropped.true in
    null_goes c.requires.0 u e order h y (c.unlink.ensures.going order (null_child c.requires.0 u e order h y))

pub returns-then-is_dropped-clause-between : goal.returns-then-is_dropped-clause-between
returns-then-is_dropped-clause-between c order h =
    let e = c.drop_null.ensures in
    let u = h.between.marks.used.0 in
    c.unlink.ensures.between order (null_child c.requires.0 u e order h (sym (dropped_test c.requires.0 u e order h c.is_dropped.ensures) ∙ c.if-is_dropped.true))

pub returns-else-is_dropped-clause-step : goal.returns-else-is_dropped-clause-step
returns-else-is_dropped-clause-step c order h =
    let e = c.drop_null.ensures in
    let u = h.between.marks.used.0 in
    null_asked c.requires.0 u e order h (sym (dropped_test c.requires.0 u e order h c.is_dropped.ensures) ∙ c.if-is_dropped.false)

pub returns-else-is_dropped-clause-between : goal.returns-else-is_dropped-clause-between
returns-else-is_dropped-clause-between c order h = between_kept c.args.s.now.ed c.drop_null.new.s.ed order (c.args.slot ∷ []) c.drop_null.ensures.edit.kept h.between
