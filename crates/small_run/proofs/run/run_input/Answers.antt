-- `small_run::run::run_input` meets its contract: a bad line is told alone, and a good input has its output. Assumes nothing.
use mathlib.Core.Path.{◌∙◌, sym, ap, subst}
use native.Mathlib.Omega.{arith}
use Rattle.model.specs.Bytes.{Bytes}
use Rattle.small_records.specs.Answers.{as_form}
use Rattle.small_run.specs.Puts.{Puts}
use Rattle.small_run.proofs.PutLaws.{puts}
use Rattle.small_run.proofs.RunLaws.{output_bad, good_form}
use Rattle.small_run.proofs.run.run_input.Goals as goal

pub run_good_input-requires : goal.run_good_input-requires
run_good_input-requires c = good_form c.args.input.now _ (sym (ap as_form c.in-Ok.is) ∙ c.first_bad.ensures)

pub returns-in-Err : goal.returns-in-Err
returns-in-Err c =
    let a = c.args in
    subst (λ (l : Bytes). Puts a.out.now 0 l c.put_number_line.result c.put_number_line.new.out)
    (output_bad a.input.now _ (sym (ap as_form c.in-Err.is) ∙ c.first_bad.ensures))
    (puts a.out.now 0 (omega arith) _ c.put_number_line.result c.put_number_line.new.out c.put_number_line.ensures)
