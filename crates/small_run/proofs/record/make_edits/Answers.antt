-- `small_run::record::make_edits` meets its contract: what was told and what is left to tell are the lines of all records. Assumes nothing.
use mathlib.Core.Path.{refl, sym, ◌∙◌, ap}
use native.Mathlib.Omega.{arith}
use borrow.Author.Rules.{rules}
use Rattle.small_records.specs.Answers.{next_read}
use Rattle.small_records.proofs.FormLaws.{standing}
use Rattle.small_run.proofs.PutLaws.{put_told, put_refused}
use Rattle.small_run.proofs.AllLaws.{read_found, midway_begin, midway_more, midway_stop, midway_good, midway_put, midway_after}
use Rattle.small_run.proofs.record.make_edits.Goals as goal

pub loop-record-init : goal.loop-record-init
loop-record-init c = record { law = midway_begin _ _ _ c.requires.0; lent = search rules; long = refl }

pub loop-record-smaller : goal.loop-record-smaller
loop-record-smaller c =
    let b = standing 20 c.args.input.now c.loop-record.at (read_found c.in-Ok-Some.ensures c.in-Ok-Some.field-0-is) in
    omega (arith, b.forward, b.inside)

pub loop-record-preserved : goal.loop-record-preserved
loop-record-preserved c =
    record {
      law = midway_more c.loop-record.invariant.law _ (read_found c.in-Ok-Some.ensures c.in-Ok-Some.field-0-is) c.make_record.ensures.editor (put_told c.make_record.ensures.put c.in_ok-to.was) _ refl;
      lent = search (rules, c.loop-record.invariant.lent, c.make_record.ensures.lent);
      long = search (rules, c.loop-record.invariant.long);
    }

pub returns-in_err-to-clause-put : goal.returns-in_err-to-clause-put
returns-in_err-to-clause-put c = λ rs e. rw c.from_residual.ensures (midway_stop c.loop-record.invariant.law _ (read_found c.in-Ok-Some.ensures c.in-Ok-Some.field-0-is) (put_refused _ _ _ _ c.make_record.ensures.put c.in_err-to.was) rs e)

pub returns-in_default-clause-put : goal.returns-in_default-clause-put
returns-in_default-clause-put c = λ rs e. midway_put c.loop-record.invariant.law (search (rules, c.in_default.ensures)) rs e

pub returns-in_default-clause-editor : goal.returns-in_default-clause-editor
returns-in_default-clause-editor c = λ rs n e z. (c.loop-record.invariant.law.good, midway_after c.loop-record.invariant.law (search (rules, c.in_default.ensures)) rs e)

pub returns-in_default-2-clause-editor : goal.returns-in_default-2-clause-editor
returns-in_default-2-clause-editor c = λ rs n e z. absurd (midway_good c.loop-record.invariant.law rs e (sym c.next_record.ensures ∙ ap next_read c.in_default.is))

pub returns-in_default-2-clause-put : goal.returns-in_default-2-clause-put
returns-in_default-2-clause-put c = λ rs e. absurd (midway_good c.loop-record.invariant.law rs e (sym c.next_record.ensures ∙ ap next_read c.in_default.is))
