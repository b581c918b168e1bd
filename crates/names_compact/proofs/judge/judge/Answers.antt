-- `names_compact::judge::judge` meets its contract: the entries so far are well formed, whether a run or one careful step went over them, so those that are left decide. Assumes nothing.
use mathlib.Core.Path.{sym, ap, ◌∙◌, subst}
use lib.ListN.{length}
use native.Mathlib.Omega.{arith}
use Rattle.model.specs.Bytes.{Bytes}
use Rattle.std.specs.Prelude.{IfSome}
use Rattle.names.specs.Answers.{checked_as}
use Rattle.names.proofs.FitLaws.{check_end, check_damaged}
use Rattle.names_compact.specs.Judge.{Head}
use Rattle.names_compact.proofs.AheadLaws.{before_some, size_same, reached_more, reached_broken}
use Rattle.names_compact.proofs.JudgeLaws.{ends, read_whole, read_damaged, held_end}
use Rattle.names_compact.proofs.judge.judge.Goals as goal

pub loop-check-init : goal.loop-check-init
loop-check-init c = let s = c.start-check.ensures in record { tree = s.tree; width = s.width; head = λ h. absurd (omega (arith, s.at, h)) }

pub run_past-check-requires : goal.run_past-check-requires
run_past-check-requires c = c.loop-check.invariant.head

pub returns-then-check : goal.returns-then-check
returns-then-check c =
    let p = c.run_past-check.ensures in
    let i = c.loop-check.invariant in
    check_end c.run_past-check.result.reached.checking (held_end _ _ _ c.if-check.true) ∙ size_same (p.tree ∙ i.tree) (p.width ∙ i.width)

pub returns-in_err-next : goal.returns-in_err-next
returns-in_err-next c =
    let p = c.run_past-check.ensures in
    let i = c.loop-check.invariant in
    ap checked_as c.from_residual.ensures ∙ check_damaged c.run_past-check.result.reached.checking (read_damaged _ _ _ c.end_of.ensures (omega (arith, c.if-check.false)) c.in_err-next.was) ∙ size_same (p.tree ∙ i.tree) (p.width ∙ i.width)

pub key_held-key-requires : goal.key_held-key-requires
key_held-key-requires c = read_whole _ _ _ c.end_of.ensures c.in_ok-next.was

pub may_follow-requires : goal.may_follow-requires
may_follow-requires c = rw c.before-in-loop-check.ensures.name c.run_past-check.result.reached.checking.clear

pub returns-then-not-may_follow : goal.returns-then-not-may_follow
returns-then-not-may_follow c =
    let p = c.run_past-check.ensures in
    let i = c.loop-check.invariant in
    let e = c.key_held-key.ensures in
    let d = c.before-in-loop-check.ensures in
    reached_broken _ _ c.run_past-check.result.reached (read_whole _ _ _ c.end_of.ensures c.in_ok-next.was) e.name e.tree d.name d.tree c.may_follow.ensures c.if-not-may_follow.true ∙ size_same (p.tree ∙ i.tree) (p.width ∙ i.width)

pub past-check-requires : goal.past-check-requires
past-check-requires c =
    let e = c.key_held-key.ensures in
    let d = c.before-in-loop-check.ensures in
    reached_more _ _ c.run_past-check.result.reached (read_whole _ _ _ c.end_of.ensures c.in_ok-next.was) e.name e.tree d.name d.tree c.may_follow.ensures c.if-not-may_follow.false

pub loop-check-smaller : goal.loop-check-smaller
loop-check-smaller c =
    let x = ends _ _ _ (read_whole _ _ _ c.end_of.ensures c.in_ok-next.was) in
    omega (arith, x.is, x.inside, c.past-check.ensures.at, ap length c.past-check.ensures.tree, c.run_past-check.ensures.on, ap length c.run_past-check.ensures.tree)

pub loop-check-preserved : goal.loop-check-preserved
loop-check-preserved c =
    let p = c.past-check.ensures in
    let r = c.run_past-check.ensures in
    let i = c.loop-check.invariant in
    record {
      tree = p.tree ∙ r.tree ∙ i.tree;
      width = p.width ∙ r.width ∙ i.width;
      head = λ h.
          subst (λ (n : Bytes). IfSome c.head-first.result (λ x. Head n x))
          (c.key_held-key.ensures.name ∙ rw (sym p.tree, sym p.width, sym p.prev) (sym (before_some c.past-check.result.tree.now c.past-check.result.width c.past-check.result.prev c.past-check.result.at h).0))
          c.head-first.ensures;
    }

pub returns : goal.returns
returns c =
    let i = c.loop-check.invariant in
    check_end c.loop-check.check.reached.checking (held_end _ _ _ c.loop-check-test.false) ∙ size_same i.tree i.width
