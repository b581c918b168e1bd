-- `names_salvage::report::report` meets its contract: the number decides what is written. Assumes nothing.
use mathlib.Core.Path.{◌∙◌}
use Rattle.names_salvage.proofs.ReportLaws.{line_first, told_as, report_done, report_is, report_refused}
use Rattle.names_salvage.proofs.report.report.Goals as goal

pub returns-in-Ok : goal.returns-in-Ok
returns-in-Ok c =
    let a = c.args in
    told_as (report_done _ c.in-Ok.ensures.code ∙ report_is a.width a.raw.now _ c.in-Ok.ensures.value) (c.put_done.ensures _ c.front.ensures)

pub returns-in-Err : goal.returns-in-Err
returns-in-Err c =
    let a = c.args in
    told_as (report_refused a.width a.raw.now c.in-Err.refusal c.from.result c.try_mend.new.out (c.from.ensures _) c.in-Err.ensures.value) (line_first _ c.put_number_line.ensures)
