-- `names_salvage::table::search` meets its contract: each turn leaves a part of the entries before which all are lower than the name, and behind which all are higher. Assumes nothing.
use native.Mathlib.Omega.{arith}
use Rattle.names_salvage.proofs.SeekLaws.{seek_all, seek_none, seek_hit, seek_up, seek_down}
use Rattle.names_salvage.proofs.table.search.Goals as goal

pub loop-lo-init : goal.loop-lo-init
loop-lo-init c = (omega arith, omega arith, λ t l up. seek_all t _ _ (omega (arith, l.many)))

pub loop-lo-preserved-in-Less : goal.loop-lo-preserved-in-Less
loop-lo-preserved-in-Less c =
    let i = c.loop-lo.invariant in
    (omega arith, i.1, λ t l up. seek_up l up _ _ c.requires _ (omega arith) (i.2 t l up) c.in-Less.ensures)

pub returns-in-Equal : goal.returns-in-Equal
returns-in-Equal c =
    λ t l up. seek_hit l up _ _ c.requires _ (omega arith) c.in-Equal.ensures

pub loop-lo-preserved : goal.loop-lo-preserved
loop-lo-preserved c =
    let i = c.loop-lo.invariant in
    (omega arith, omega arith, λ t l up. seek_down l up _ _ c.requires _ (omega arith) (i.2 t l up) c.in-Greater.ensures)

pub returns : goal.returns
returns c =
    λ t l up.
    seek_none (c.loop-lo.invariant.2 t l up) (omega (arith, l.many)) c.loop-lo-test.false
