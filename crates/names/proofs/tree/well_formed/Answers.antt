-- `names::tree::well_formed` meets its contract: the entries so far are well formed, so those that are left decide, with the last name and kind. Assumes nothing.
use mathlib.Core.Path.{refl, ap, ◌∙◌}
use native.Mathlib.Omega.{arith}
use Rattle.names.specs.Answers.{checked_as}
use Rattle.names.proofs.CheckLaws.{no_width, raw_is, raw_damaged, raw_reach, raw_begins, raw_short}
use Rattle.names.proofs.EntriesLaws.{entries_end}
use Rattle.names.proofs.FitLaws.{check_begin, check_end, check_damaged, check_broken, check_more}
use Rattle.names.proofs.ReadLaws.{entries_raw}
use Rattle.names.proofs.tree.well_formed.Goals as goal

pub returns-then-width-eq0 : goal.returns-then-width-eq0
returns-then-width-eq0 c = no_width _ _ c.if-width-eq0.true

pub loop-at-init : goal.loop-at-init
loop-at-init c = check_begin _ _ (raw_is _ _ c.if-width-eq0.false) (λ ts q. (entries_raw _ _ ts q).1) refl

pub returns-in_err-e : goal.returns-in_err-e
returns-in_err-e c = ap checked_as c.from_residual.ensures ∙ check_damaged c.loop-at.invariant (raw_damaged _ _ _ c.read_entry.ensures c.loop-at-test.true c.in_err-e.was)

-- The check goes on after an entry that fits. That the counts fit follows from this.
pub loop-at-preserved : goal.loop-at-preserved
loop-at-preserved c =
    check_more c.loop-at.invariant (raw_begins _ _ _ c.read_entry.ensures c.in_ok-e.was c.loop-at-test.true)
    c.key-key.ensures.name c.key-key.ensures.tree c.may_follow.ensures
    (raw_short _ _ _ c.read_entry.ensures c.in_ok-e.was c.key-key.ensures.name) (raw_reach _ _ _ c.read_entry.ensures c.in_ok-e.was).inside c.if-not-may_follow.false

pub loop-at-smaller : goal.loop-at-smaller
loop-at-smaller c =
    let x = raw_reach _ _ _ c.read_entry.ensures c.in_ok-e.was in
    omega arith

pub returns-then-not-may_follow : goal.returns-then-not-may_follow
returns-then-not-may_follow c =
    check_broken c.loop-at.invariant (raw_begins _ _ _ c.read_entry.ensures c.in_ok-e.was c.loop-at-test.true)
    c.key-key.ensures.name c.key-key.ensures.tree c.may_follow.ensures c.if-not-may_follow.true

pub returns : goal.returns
returns c = check_end c.loop-at.invariant (entries_end _ _ _ c.loop-at-test.false)
