-- `store_check::laid::Laid::root_cached` meets its contract: the search for the empty path says it. Assumes nothing.
use mathlib.Core.Path.{◌∙◌}
use mathlib.Core.List.{[]}
use Rattle.store_runs.specs.Digits.{digits}
use Rattle.store_runs.specs.Runs.{cut}
use Rattle.store_runs.proofs.RunLaws.{length_cut}
use Rattle.store_check.proofs.StartLaws.{any_found}
use Rattle.store_check.proofs.laid.Laid.root_cached.Goals as goal

pub returns : goal.returns
returns c =
    let s = c.args.self.store in
    let ds = digits 64 s.record.hidden in
    let ps = cut s.plens.now s.paths.now in
    let bs = cut s.tlens.now s.trees.now in
    c.is_some.ensures ∙ any_found s.width ds ps bs [] c.find.result
    (c.find.ensures s.width bs (length_cut s.tlens.now s.trees.now ∙ s.tlens_64))
