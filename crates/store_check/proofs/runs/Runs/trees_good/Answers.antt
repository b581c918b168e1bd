-- `store_check::runs::Runs::trees_good` meets its contract: the trees so far are whole, and what is left of the counts is for the others. Assumes nothing.
use mathlib.Core.Path.{◌∙◌}
use native.Mathlib.Omega.{arith}
use Rattle.std.proofs.lemmas.List.{length_push}
use Rattle.store_runs.proofs.RunLaws.{length_cut}
use Rattle.store_check.proofs.CountLaws.{count_none, count_broken, count_over, count_over_names, count_more, no_entries, no_names, count_all}
use Rattle.store_check.proofs.DecideLaws.{decides_eq}
use Rattle.store_check.proofs.Deciding.{refuses}
use Rattle.store_check.proofs.EachLaws.{each_turn, each_end}
use Rattle.store_check.proofs.runs.Runs.trees_good.Goals as goal
use Rattle.store_check.proofs.runs.Runs.trees_good.Goals.{then-left-size-via-then-left-size, then-left-size-via-else-left-size+then-left-size-2}

pub loop-tree-init : goal.loop-tree-init
loop-tree-init c = count_none

pub returns-in_default : goal.returns-in_default
returns-in_default c =
    let s = c.args.self in
    let t = each_turn c.into_iter-tree-iterator.ensures.into_iter_gives c.iter-tree-items.ensures c.loop-tree.yielded _ c.loop-tree.yielded_by c.next.new.self c.next.ensures.steps c.in-Some.tree c.in-Some.is in
    refuses (count_broken c.loop-tree.invariant c.in-Some.tree.now t.0 (omega (arith, length_cut s.lens.now s.bytes.now)) t.1 c.in_default.ensures)

pub returns-then-left-size : goal.returns-then-left-size
returns-then-left-size c =
    let s = c.args.self in
    let t = each_turn c.into_iter-tree-iterator.ensures.into_iter_gives c.iter-tree-items.ensures c.loop-tree.yielded _ c.loop-tree.yielded_by c.next.new.self c.next.ensures.steps c.in-Some.tree c.in-Some.is in
    elim c.then-left-size.branch [
      | then-left-size-via-then-left-size w ↦ refuses (count_over c.loop-tree.invariant c.in-Some.tree.now t.0 (omega (arith, length_cut s.lens.now s.bytes.now)) t.1 c.in-Some-judge.size c.in-Some-judge.ensures w.if-left-size.true)
      | then-left-size-via-else-left-size+then-left-size-2 w ↦ refuses (count_over_names c.loop-tree.invariant c.in-Some.tree.now t.0 (omega (arith, length_cut s.lens.now s.bytes.now)) t.1 c.in-Some-judge.size c.in-Some-judge.ensures w.if-left-size-2.true)
    ]

pub loop-tree-preserved : goal.loop-tree-preserved
loop-tree-preserved c =
    let s = c.args.self in
    let t = each_turn c.into_iter-tree-iterator.ensures.into_iter_gives c.iter-tree-items.ensures c.loop-tree.yielded _ c.loop-tree.yielded_by c.next.new.self c.next.ensures.steps c.in-Some.tree c.in-Some.is in
    let m = count_more c.loop-tree.invariant c.in-Some.tree.now t.0 (omega (arith, length_cut s.lens.now s.bytes.now)) t.1 c.in-Some-judge.size c.in-Some-judge.ensures c.if-left-size.false c.if-left-size-2.false in
    rw (length_push c.loop-tree.yielded c.in-Some.tree) m

pub returns-then-left-eq0 : goal.returns-then-left-eq0
returns-then-left-eq0 c =
    let s = c.args.self in
    let e = each_end c.into_iter-tree-iterator.ensures.into_iter_gives c.iter-tree-items.ensures c.loop-tree.yielded _ c.loop-tree.yielded_by c.next.new.self c.next.ensures.steps c.in-None.is in
    let l = length_cut s.lens.now s.bytes.now ∙ s.lens_64 in
    decides_eq _ 0 (λ z. count_all c.loop-tree.invariant l e c.if-left-eq0.true z) (no_names c.loop-tree.invariant l e)

pub returns-else-left-eq0 : goal.returns-else-left-eq0
returns-else-left-eq0 c =
    let s = c.args.self in
    let e = each_end c.into_iter-tree-iterator.ensures.into_iter_gives c.iter-tree-items.ensures c.loop-tree.yielded _ c.loop-tree.yielded_by c.next.new.self c.next.ensures.steps c.in-None.is in
    decides_eq _ 0 (λ z. absurd (c.if-left-eq0.false z)) (no_entries c.loop-tree.invariant (length_cut s.lens.now s.bytes.now ∙ s.lens_64) e)
