-- `store_check::open_write::Write::walked` meets its contract: those from where the walk has come down to lie below one that was set aside, and the children of the next are found from there. Assumes nothing.
use mathlib.Core.Path.{ap, ◌∙◌}
use mathlib.Core.List.{[]}
use Prim.Native.Nat.{ℕ, ◌<◌}
use native.Mathlib.Omega.{arith}
use lib.ListN.{get_or}
use lib.Seq.{get_or-take, length-take-le}
use Rattle.store_runs.specs.Runs.{cut}
use Rattle.store_slots.specs.View.{path_of}
use Rattle.store_check.proofs.ChildLaws.{hanging_none, all_begun, stacked_table, hanging_more}
use Rattle.store_check.proofs.open_write.Write.walked.Goals as goal

pub loop-slot-init : goal.loop-slot-init
loop-slot-init c = hanging_none c.args.self.taken

pub invariant_of-stack : goal.invariant_of-stack
invariant_of-stack c =
    let T = c.args.self.taken in
    record { table = stacked_table T (hanging_none T).stacked (all_begun T c.requires) }

pub loop-slot-preserved : goal.loop-slot-preserved
loop-slot-preserved c =
    let s = c.args.self.store in
    let T = c.args.self.taken in
    let n = c.loop-slot.slot-index in
    let l : n < s.record.aside = omega (arith, c.loop-slot-test.true, length-take-le s.record.aside c.args.self.order.now (omega (arith, c.args.self.taken.order_64, T.opened.room))) in
    let g = get_or-take s.record.aside c.args.self.order.now n 0 l in
    let k = c.known_children-known.ensures in
    hanging_more T c.loop-slot.invariant.stacked n l c.at.result.now c.tree.result.bytes.now c.tree.result.width (c.at.ensures ∙ ap (path_of s.plens.now s.paths.now) g) c.tree.ensures.0
    (c.tree.ensures.1 ∙ ap (λ (x : ℕ). get_or (cut s.tlens.now s.trees.now) x []) g) c.known_children-known.result c.at-asked.result.now c.at-asked.ensures k.0 k.1
