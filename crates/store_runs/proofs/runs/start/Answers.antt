-- `store_runs::runs::start` meets its contract: the library's sum of the first k lengths. Assumes nothing.
use mathlib.Core.Path.{◌∙◌, sym}
use native.Mathlib.Omega.{arith}
use lib.ListN.{take}
use Rattle.std.proofs.lemmas.Iterator.{YieldsList-from_slice}
use Rattle.std.proofs.lemmas.Iterator.Consumers.{sum_from_yields_List, fits_from_yields_list}
use Rattle.store_runs.proofs.RunLaws.{total_sum, total_front}
use Rattle.store_runs.proofs.runs.start.Goals as goal

pub sum-sum-requires-clause-fits : goal.sum-sum-requires-clause-fits
sum-sum-requires-clause-fits c =
    let a = c.args in
    fits_from_yields_list c.iter.result _ (YieldsList-from_slice (take a.k a.lens.now) cc)
    (omega (arith, total_sum (take a.k a.lens.now), total_front a.lens.now a.k))

pub returns : goal.returns
returns c =
    let a = c.args in
    sum_from_yields_List c.iter.result _ c.sum-sum.ensures.ran (YieldsList-from_slice (take a.k a.lens.now) cc) ∙ sym (total_sum (take a.k a.lens.now))
