-- `small_records::form::first_bad` meets its contract: the records passed have the form, so what is left decides, with four lines to a record. Assumes nothing.
use native.Mathlib.Omega.{arith}
use Prim.Native.Nat.{ℕ, ◌+◌, ◌*◌}
use mathlib.Core.Path.{sym, ap, ◌∙◌}
use Rattle.small_records.proofs.FormLaws.{standing, form_long, form_more, form_broken, form_none}
use Rattle.small_records.specs.Records.{bad_line}
use Rattle.small_records.proofs.form.first_bad.Goals as goal

pub returns-then-input-gt65536 : goal.returns-then-input-gt65536
returns-then-input-gt65536 c = form_long _ _ c.if-input-gt65536.true

pub loop-record-preserved : goal.loop-record-preserved
loop-record-preserved c = form_more c.loop-record.invariant (sym (rw c.in-Ok-Some.field-0-is at c.in-Ok-Some.ensures))

pub loop-record-smaller : goal.loop-record-smaller
loop-record-smaller c =
    let s = standing _ _ _ (sym (rw c.in-Ok-Some.field-0-is at c.in-Ok-Some.ensures)) in
    omega (arith, s.forward, s.inside)

pub returns-in-Err : goal.returns-in-Err
returns-in-Err c = ap (λ (k : ℕ). bad_line (4 * c.loop-record.count + 1 + k)) c.number.ensures ∙ form_broken c.loop-record.invariant c.if-input-gt65536.false (sym c.in-Err.ensures)

pub returns-in-Ok-None : goal.returns-in-Ok-None
returns-in-Ok-None c = form_none c.loop-record.invariant c.if-input-gt65536.false (sym (rw c.in-Ok-None.field-0-is at c.in-Ok-None.ensures))
