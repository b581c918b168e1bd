-- `editor::look::look_held` meets its contract: the refusals come in their order, then the walk down. Assumes nothing.
use mathlib.Core.Path.{sym, ap, ◌∙◌}
use native.Mathlib.Omega.{arith}
use Rattle.std.specs.Prelude.{Ok}
use Rattle.model.specs.Bytes.{Bytes}
use Rattle.model.specs.Paths.{base, full}
use Rattle.names.proofs.FrontLaws.{full_short}
use Rattle.editor_walk.specs.Lookups.{looked_as}
use Rattle.editor.specs.Lent.{editor_seen}
use Rattle.editor.proofs.LookLaws.{passed_on, looked_open, opened, Begun, begun, not_begun, went_down}
use Rattle.editor.proofs.look.look_held.Goals as goal
use Rattle.editor.proofs.look.look_held.Goals.{In_ok-slot}

pub returns-then-v-ne0 : goal.returns-then-v-ne0
returns-then-v-ne0 c order =
    let a = c.args in
    let v = a.v in
    looked_open a.prefix.now a.path.now (editor_seen v order) (opened v.ed v.plens.now v.paths.now v.tlens.now v.trees.now order c.if-v-ne0.true)

pub returns-in_err-slot : goal.returns-in_err-slot
returns-in_err-slot c order =
    let a = c.args in
    let v = a.v in
    rw (passed_on c.from_residual.result c.from_residual.ensures.1)
    (not_begun v.ed v.plens.now v.paths.now v.tlens.now v.trees.now a.prefix.now a.path.now c.slot_for.result c.requires.0 (c.requires.1 c.if-v-ne0.false) c.slot_for.ensures order c.if-v-ne0.false _ c.in_err-slot.was)

-- the walk begins in the slot of the prefix
begins : (c : In_ok-slot) → Begun c.args.v.ed c.args.v.plens.now c.args.v.paths.now c.args.v.tlens.now c.args.v.trees.now c.args.prefix.now c.args.path.now c.in_ok-slot.slot
begins c =
    let a = c.args in
    let v = a.v in
    begun v.ed v.plens.now v.paths.now v.tlens.now v.trees.now a.prefix.now a.path.now c.slot_for.result c.requires.0 (c.requires.1 c.if-v-ne0.false) c.slot_for.ensures c.in_ok-slot.slot c.in_ok-slot.was

pub put_full-n-requires : goal.put_full-n-requires
put_full-n-requires c = omega (arith, full_short c.args.prefix.now c.args.path.now (begins (goal.at.put_full-n-requires c).In_ok-slot).fine)

pub look-requires : goal.look-requires
look-requires c =
    let b = begins (goal.at.look-requires c).In_ok-slot in
    (c.requires.0, c.requires.1 c.if-v-ne0.false, b.used, c.put_full-n.ensures.1 ∙ ap (λ (p : Bytes). full p c.args.path.now) (sym b.stands))

pub returns : goal.returns
returns c order =
    let a = c.args in
    let v = a.v in
    went_down v.ed v.plens.now v.paths.now v.tlens.now v.trees.now a.prefix.now a.path.now c.slot_for.result c.requires.0 (c.requires.1 c.if-v-ne0.false) c.slot_for.ensures order c.if-v-ne0.false c.in_ok-slot.slot c.in_ok-slot.was (looked_as (base a.path.now) (Ok c.look.result)) c.look.ensures
