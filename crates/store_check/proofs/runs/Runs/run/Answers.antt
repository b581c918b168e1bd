-- `store_check::runs::Runs::run` meets its contract: it is the run of the view. Assumes nothing.
use mathlib.Core.Path.{sym, ◌∙◌}
use native.Mathlib.Omega.{arith}
use Rattle.store_runs.proofs.FindLaws.{cut_at}
use Rattle.store_check.proofs.runs.Runs.run.Goals as goal

pub returns : goal.returns
returns c =
    let s = c.args.self in
    c.run.ensures ∙ sym (cut_at s.lens.now s.bytes.now c.args.k (omega arith))
