-- `lines::text::put_number_line` meets its contract: the digits are put at the end of twenty bytes, and the line takes them from there. Assumes nothing.
use mathlib.Core.Path.{ap, ◌∙◌}
use native.Mathlib.Omega.{arith}
use Rattle.lines.specs.Texts.{written, line_of}
use Rattle.model.specs.Bytes.{Bytes}
use Rattle.lines.proofs.text.put_number_line.Goals as goal

pub slice_bounds-after-end : goal.slice_bounds-after-end
slice_bounds-after-end c = omega (arith, c.decimal_into-from.ensures.digits_len)

pub returns : goal.returns
returns c =
    let a = c.args in
    c.put_line.ensures ∙ ap (λ (l : Bytes). written a.out.now a.at (line_of a.key.now l)) (c.after.ensures ∙ c.decimal_into-from.ensures.digits_after)
