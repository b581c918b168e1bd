-- `names_salvage::pass::pass` meets its contract: what is left gives the answer of the whole, and a limit once passed is passed in the end. Assumes nothing.
use mathlib.Core.Path.{ap}
use lib.ListN.{length}
use Rattle.names_salvage.proofs.PassLaws.{pass_begin, pass_more, pass_over, pass_end, read_whole, read_cut}
use Rattle.names_salvage.proofs.pass.pass.Goals as goal

pub loop-piece-init : goal.loop-piece-init
loop-piece-init c = pass_begin c.args.raw.now c.args.width c.clear.new.self (ap length c.clear.ensures) c.default-t.result c.default-t.ensures

pub returns-in_err-t : goal.returns-in_err-t
returns-in_err-t c =
    let k = c.loop-piece.invariant in
    let st = read_whole c.read_piece.ensures c.in-Some.is in
    rw c.from_residual.ensures (pass_over k st (rw c.in_err-t.was at (c.turn.ensures _ k.m k.holds st)))

pub loop-piece-preserved : goal.loop-piece-preserved
loop-piece-preserved c =
    let k = c.loop-piece.invariant in
    let st = read_whole c.read_piece.ensures c.in-Some.is in
    pass_more k st (rw c.in_ok-t.was at (c.turn.ensures _ k.m k.holds st))

pub returns : goal.returns
returns c = pass_end c.loop-piece.invariant (read_cut c.read_piece.ensures c.in_default.is)
