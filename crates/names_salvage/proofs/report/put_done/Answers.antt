-- `names_salvage::report::put_done` meets its contract: six lines, one behind the other. Assumes nothing.
use Rattle.names_salvage.specs.Answers.{answer}
use Rattle.names_salvage.proofs.ReportLaws.{line_first, line_more, told_done, stop_1, stop_2, stop_3, stop_4, stop_5}
use Rattle.names_salvage.proofs.report.put_done.Goals as goal

pub returns-in_err-at : goal.returns-in_err-at
returns-in_err-at c = λ d e. rw c.from_residual.ensures (stop_1 (answer c.args.m d) (line_first _ c.put_number_line.ensures) c.in_err-at.was)

pub returns-in_err-at-2 : goal.returns-in_err-at-2
returns-in_err-at-2 c =
    λ d e.
    let p₁ = line_first _ c.put_number_line.ensures in
    let p₂ = line_more p₁ c.in_ok-at.was _ c.put_number_line-2.ensures in
    rw c.from_residual-in_err-at-2.ensures (stop_2 (answer c.args.m d) p₂ c.in_err-at-2.was)

pub returns-in_err-at-3 : goal.returns-in_err-at-3
returns-in_err-at-3 c =
    λ d e.
    let p₁ = line_first _ c.put_number_line.ensures in
    let p₂ = line_more p₁ c.in_ok-at.was _ c.put_number_line-2.ensures in
    let p₃ = line_more p₂ c.in_ok-at-2.was _ c.put_number_line-3.ensures in
    rw c.from_residual-in_err-at-3.ensures (stop_3 (answer c.args.m d) p₃ c.in_err-at-3.was)

pub returns-in_err-at-4 : goal.returns-in_err-at-4
returns-in_err-at-4 c =
    λ d e.
    let p₁ = line_first _ c.put_number_line.ensures in
    let p₂ = line_more p₁ c.in_ok-at.was _ c.put_number_line-2.ensures in
    let p₃ = line_more p₂ c.in_ok-at-2.was _ c.put_number_line-3.ensures in
    let p₄ = line_more p₃ c.in_ok-at-3.was _ c.put_number_line-4.ensures in
    rw c.from_residual-in_err-at-4.ensures (stop_4 (answer c.args.m d) p₄ c.in_err-at-4.was)

pub returns-in_err-at-5 : goal.returns-in_err-at-5
returns-in_err-at-5 c =
    λ d e.
    let p₁ = line_first _ c.put_number_line.ensures in
    let p₂ = line_more p₁ c.in_ok-at.was _ c.put_number_line-2.ensures in
    let p₃ = line_more p₂ c.in_ok-at-2.was _ c.put_number_line-3.ensures in
    let p₄ = line_more p₃ c.in_ok-at-3.was _ c.put_number_line-4.ensures in
    let p₅ = line_more p₄ c.in_ok-at-4.was _ c.put_number_line-5.ensures in
    rw c.from_residual-in_err-at-5.ensures (stop_5 (answer c.args.m d) p₅ c.in_err-at-5.was)

pub returns : goal.returns
returns c =
    λ d e.
    let p₁ = line_first _ c.put_number_line.ensures in
    let p₂ = line_more p₁ c.in_ok-at.was _ c.put_number_line-2.ensures in
    let p₃ = line_more p₂ c.in_ok-at-2.was _ c.put_number_line-3.ensures in
    let p₄ = line_more p₃ c.in_ok-at-3.was _ c.put_number_line-4.ensures in
    let p₅ = line_more p₄ c.in_ok-at-4.was _ c.put_number_line-5.ensures in
    told_done (answer c.args.m d) c.args.tree.now e (line_more p₅ c.in_ok-at-5.was _ c.put_hex_line.ensures)
