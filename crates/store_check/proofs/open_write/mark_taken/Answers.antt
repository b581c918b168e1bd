-- `store_check::open_write::mark_taken` meets its contract: the last slots are set first, and the requested tree's at the end. Assumes nothing.
use mathlib.Core.Path.{subst}
use mathlib.Core.List.{List, [], ◌∷◌, ◌++◌}
use Prim.Native.Nat.{ℕ, ◌-◌}
use lib.ListN.{length, take, drop}
use borrow.Author.Rules.{part_to_end}
use Rattle.std.specs.Prelude.{Option, Some, None}
use Rattle.store_check.specs.Written.{Marks}
use Rattle.store_check.proofs.MarkLaws.{marks_bad, marks_append}
use Rattle.store_check.proofs.open_write.mark_taken.Goals as goal

-- the slots that are stacked
stacked : (order : List ℕ) (n before : ℕ) (o : Option ℕ) → Marks (take (length order - n) (drop n order)) before o → Marks (drop n order) before o
stacked order n before o m = subst (λ (x : List ℕ). Marks x before o) (part_to_end order n) m

pub returns-in_err-last : goal.returns-in_err-last
returns-in_err-last c =
    let r = c.args.r in
    let l = c.args.order.now in
    rw c.from_residual.ensures (marks_bad (r.asked ∷ take r.aside l) (drop (64 - r.stacked) l) r.free (stacked l (64 - r.stacked) r.free None c.in_err-last.ensures))

pub returns-in_err-first : goal.returns-in_err-first
returns-in_err-first c =
    let r = c.args.r in
    let l = c.args.order.now in
    let a = take r.aside l in
    let b = drop (64 - r.stacked) l in
    rw c.from_residual-in_err-first.ensures
    (marks_bad (r.asked ∷ []) (a ++ b) r.free (marks_append a b r.free c.in_ok-last.last (stacked l (64 - r.stacked) r.free (Some c.in_ok-last.last) c.in_ok-last.ensures) None c.in_err-first.ensures))

pub returns : goal.returns
returns c =
    let r = c.args.r in
    let l = c.args.order.now in
    let a = take r.aside l in
    let b = drop (64 - r.stacked) l in
    let m = marks_append a b r.free c.in_ok-last.last (stacked l (64 - r.stacked) r.free (Some c.in_ok-last.last) c.in_ok-last.ensures) (Some c.in_ok-first.first) c.in_ok-first.ensures in
    marks_append (r.asked ∷ []) (a ++ b) r.free c.in_ok-first.first m c.mark.result c.mark.ensures
