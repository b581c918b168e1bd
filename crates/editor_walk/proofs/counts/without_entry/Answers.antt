-- `editor_walk::counts::without_entry` meets its contract: the definition's difference is 0 too where there is none. Assumes nothing.
use Rattle.editor_walk.specs.Counted.{counts_as}
use Rattle.editor_walk.proofs.CountLaws.{less_name_lem}
use Rattle.editor_walk.proofs.counts.without_entry.Goals as goal

pub returns : goal.returns
returns c =
    let a = c.args in
    λ name e. less_name_lem (counts_as a.u) a.n name e c.saturating_sub.ensures c.saturating_sub-2.ensures
