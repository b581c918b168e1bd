-- `names_salvage::piece::read_piece` meets its contract: the first space ends the mode's text, the first NUL behind it the name, and the id follows; each test is one of the definition's. Assumes nothing.
use mathlib.Core.Path.{refl}
use Rattle.names_salvage.proofs.PieceLaws.{no_space, no_nul, no_id, whole}
use Rattle.names_salvage.proofs.piece.read_piece.Goals as goal

pub returns-in_err-mode_len : goal.returns-in_err-mode_len
returns-in_err-mode_len c =
    let a = c.args in
    record { is = rw c.from_residual.ensures (no_space a.raw.now a.at a.width c.after-entry.ensures c.in_err-mode_len.ensures) }

pub returns-in_err-name_len : goal.returns-in_err-name_len
returns-in_err-name_len c =
    let a = c.args in
    record { is = rw c.from_residual-in_err-name_len.ensures (no_nul a.raw.now a.at a.width c.after-entry.ensures c.in_ok-mode_len.ensures c.after-named.ensures c.in_err-name_len.ensures) }

pub returns-then-id-width : goal.returns-then-id-width
returns-then-id-width c =
    let a = c.args in
    record { is = no_id a.raw.now a.at a.width c.after-entry.ensures c.in_ok-mode_len.ensures c.after-named.ensures c.in_ok-name_len.ensures c.after-id.ensures c.if-id-width.true }

pub returns : goal.returns
returns c =
    let a = c.args in
    record { is = whole a.raw.now a.at a.width c.after-entry.ensures c.in_ok-mode_len.ensures c.after-named.ensures c.in_ok-name_len.ensures c.after-id.ensures c.if-id-width.false _ refl c.front.ensures c.front-2.ensures refl }
