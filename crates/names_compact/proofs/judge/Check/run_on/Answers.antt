-- `names_compact::judge::Check::run_on` meets its contract: an entry whose name comes after the one before by its bytes and is plain fits, whatever follows. Assumes nothing.
use mathlib.Core.Path.{refl, sym, ap, ◌∙◌, subst}
use lib.ListN.{length}
use native.Mathlib.Omega.{arith}
use Rattle.model.specs.Bytes.{Bytes}
use Rattle.names_compact.specs.Judge.{Head}
use Rattle.names_compact.proofs.AheadLaws.{before_some, reached_ahead}
use Rattle.names_compact.proofs.JudgeLaws.{ends, read_whole}
use Rattle.names_compact.proofs.judge.Check.run_on.Goals as goal

pub key_held-requires : goal.key_held-requires
key_held-requires c = read_whole _ _ _ c.end_of.ensures c.in-Some.is

pub loop-next-init : goal.loop-next-init
loop-next-init c = record { tree = refl; width = refl; on = omega arith; head = c.requires }

pub is_behind-requires : goal.is_behind-requires
is_behind-requires c = record { last = c.loop-next.invariant.head; head = c.in-Some-head.ensures }

pub past-run-requires : goal.past-run-requires
past-run-requires c =
    let k = c.key_held.ensures in
    reached_ahead _ _ c.loop-next.run.reached (read_whole _ _ _ c.end_of.ensures c.in-Some.is) k.name k.tree k.short c.in-Some-head.ensures.long (c.is_behind.ensures c.if-not-is_behind.false) (sym c.if-not-plain_name.ensures)

pub loop-next-smaller : goal.loop-next-smaller
loop-next-smaller c =
    let x = ends _ _ _ (read_whole _ _ _ c.end_of.ensures c.in-Some.is) in
    omega (arith, x.is, x.inside, c.past-run.ensures.at, ap length c.past-run.ensures.tree)

pub loop-next-preserved : goal.loop-next-preserved
loop-next-preserved c =
    let x = ends _ _ _ (read_whole _ _ _ c.end_of.ensures c.in-Some.is) in
    let p = c.past-run.ensures in
    let i = c.loop-next.invariant in
    record {
      tree = p.tree ∙ i.tree;
      width = p.width ∙ i.width;
      on = omega (arith, x.is, p.at, i.on);
      head = λ h.
          subst (λ (n : Bytes). Head n c.in-Some-head.head)
          (c.key_held.ensures.name ∙ rw (sym p.tree, sym p.width, sym p.prev) (sym (before_some c.past-run.result.tree.now c.past-run.result.width c.past-run.result.prev c.past-run.result.at h).0))
          c.in-Some-head.ensures;
    }

pub returns-in_default : goal.returns-in_default
returns-in_default c = let i = c.loop-next.invariant in record { tree = i.tree; width = i.width; on = i.on }

pub returns-in_default-head : goal.returns-in_default-head
returns-in_default-head c = let i = c.loop-next.invariant in record { tree = i.tree; width = i.width; on = i.on }

pub returns-then-not-is_behind : goal.returns-then-not-is_behind
returns-then-not-is_behind c = let i = c.loop-next.invariant in record { tree = i.tree; width = i.width; on = i.on }
