-- `store_runs::moves::insert` meets its contract, by `insert-law`. Assumes nothing.
use Rattle.store_runs.proofs.MoveLaws.{insert_law}
use Rattle.store_runs.proofs.moves.insert.Goals as goal

pub returns : goal.returns
returns c =
    let a = c.args in
    insert_law a.s.now a.at a.used a.src.now _ _ c.requires.0 c.requires.1 c.shift.ensures c.put.ensures.out_after
