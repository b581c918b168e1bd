-- `small_run::record::report` meets its contract: an accepted edit has no lines, and the two of a refused one stand behind each other. Assumes nothing.
use mathlib.Core.Path.{◌∙◌, sym}
use mathlib.Core.List.{[]}
use Rattle.small_run.proofs.RecordLaws.{tell_none, tell_both, tell_stop}
use Rattle.small_run.proofs.record.report.Goals as goal

pub returns-then-n-eq0 : goal.returns-then-n-eq0
returns-then-n-eq0 c = tell_none c.args.out.now c.args.to c.requires c.args.k _ (sym c.number-n.ensures ∙ c.if-n-eq0.true)

pub returns-in_err-next : goal.returns-in_err-next
returns-in_err-next c = rw c.from_residual.ensures (tell_stop c.args.out.now c.args.to c.requires c.args.k _ (λ z. c.if-n-eq0.false (c.number-n.ensures ∙ z)) _ _ c.put_number_line.ensures c.in_err-next.was [])

pub returns : goal.returns
returns c = tell_both c.args.out.now c.args.to c.requires c.args.k _ (λ z. c.if-n-eq0.false (c.number-n.ensures ∙ z)) _ _ c.put_number_line.ensures c.in_ok-next.was _ (c.from.ensures ∙ c.number-n.ensures) c.put_number_line-2.result c.put_number_line-2.new.out c.put_number_line-2.ensures
