-- `store_runs::moves::remove` meets its contract, by `remove-law`. Assumes nothing.
use Rattle.store_runs.proofs.MoveLaws.{remove_law}
use Rattle.store_runs.proofs.moves.remove.Goals as goal

pub returns : goal.returns
returns c =
    let a = c.args in
    remove_law a.s.now a.at a.used a.n _ c.requires.0 c.requires.1 c.shift.ensures
