-- `small_run::run::run` meets its contract: every output fits into 303,104 bytes. Assumes nothing.
use native.Mathlib.Omega.{arith}
use borrow.Author.Rules.{rules}
use Rattle.small_run.specs.Lesson.{output}
use Rattle.small_run.proofs.PutLaws.{put_refused}
use Rattle.small_run.proofs.FitLaws.{output_fits}
use Rattle.small_run.proofs.run.run.Goals as goal

pub returns-then-is_none-clause-whole : goal.returns-then-is_none-clause-whole
returns-then-is_none-clause-whole c =
    let a = c.args in
    λ h. absurd (omega (arith, put_refused a.out.now 0 (output a.input.now) c.run_input-put.new.out c.run_input-put.ensures (search (rules, c.is_none.ensures, c.if-is_none.true)), h, output_fits a.input.now))
