-- `store_check::runs::Runs::paths_good` meets its contract: it tests the two parts. Assumes nothing.
use mathlib.Core.Path.{sym, ◌∙◌}
use native.Mathlib.Omega.{arith}
use Rattle.store_runs.specs.Runs.{cut}
use Rattle.store_runs.proofs.RunLaws.{length_cut}
use Rattle.model.proofs.Basics.{no_way}
use Rattle.store_check.proofs.Deciding.{refuses}
use Rattle.store_check.proofs.SeenLaws.{all_pass}
use Rattle.store_check.proofs.runs.Runs.paths_good.Goals as goal

pub returns-else-good_paths : goal.returns-else-good_paths
returns-else-good_paths c =
    let s = c.args.self in
    rw c.if-good_paths.false (refuses (λ p. no_way (sym (all_pass (cut s.lens.now s.bytes.now) (λ k h. p.good k (omega (arith, h, length_cut s.lens.now s.bytes.now)))) ∙ sym c.good_paths.ensures ∙ c.if-good_paths.false)))
