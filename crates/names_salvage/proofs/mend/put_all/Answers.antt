-- `names_salvage::mend::put_all` meets its contract: the entries passed are written, one after the other. Assumes nothing.
use mathlib.Core.Path.{refl}
use native.Mathlib.Omega.{arith}
use Rattle.names_salvage.proofs.PutLaws.{write_begin, write_more, write_end, stands_here, wide_here, fits_here}
use Rattle.names_salvage.proofs.mend.put_all.Goals as goal

pub loop-slot-init : goal.loop-slot-init
loop-slot-init c = write_begin _ _ _ _

pub put_piece-to-requires : goal.put_piece-to-requires
put_piece-to-requires c =
    let p = c.requires in
    let w = c.loop-slot.invariant in
    let h = c.loop-slot-test.true in
    (_, stands_here w h _ refl p.0 (p.1, p.2, p.3), wide_here w h _ refl p.0 (p.1, p.2, p.3), fits_here w h _ refl p.0 (p.1, p.2, p.3))

pub loop-slot-preserved : goal.loop-slot-preserved
loop-slot-preserved c = write_more c.loop-slot.invariant c.loop-slot-test.true _ refl c.put_piece-to.auto.out c.put_piece-to.ensures

pub returns : goal.returns
returns c = λ t l g h. write_end c.loop-slot.invariant (omega arith) t (l, g, h)
