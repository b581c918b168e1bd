-- `names::raw::read_entry` meets its contract: the first space ends the mode, the first NUL behind it the name, and the id follows; each test is one of the definition's. Assumes nothing.
use mathlib.Core.Path.{ap, ◌∙◌}
use Rattle.names.specs.Answers.{entry_read}
use Rattle.names.proofs.EntryLaws.{no_space, no_nul, no_id, whole}
use Rattle.names.proofs.raw.read_entry.Goals as goal

pub returns-in_err-m : goal.returns-in_err-m
returns-in_err-m c = ap entry_read c.from_residual.ensures ∙ no_space _ _ _ c.in_err-m.ensures c.after.ensures

pub returns-in_err-name_len : goal.returns-in_err-name_len
returns-in_err-name_len c = ap entry_read c.from_residual-in_err-name_len.ensures ∙ no_nul _ _ _ c.in_ok-m.ensures c.after.ensures c.in_err-name_len.ensures c.after-2.ensures

pub returns-then-raw-id_at : goal.returns-then-raw-id_at
returns-then-raw-id_at c = no_id _ _ _ c.in_ok-m.ensures c.after.ensures c.in_ok-name_len.ensures c.after-2.ensures c.if-raw-id_at.true

pub returns-in_err-kind : goal.returns-in_err-kind
returns-in_err-kind c =
    ap entry_read c.from_residual-in_err-kind.ensures
    ∙ whole _ _ _ c.in_ok-m.ensures c.after.ensures c.in_ok-name_len.ensures c.after-2.ensures c.in_err-kind.ensures c.between.ensures c.if-raw-id_at.false

pub returns : goal.returns
returns c = whole _ _ _ c.in_ok-m.ensures c.after.ensures c.in_ok-name_len.ensures c.after-2.ensures c.in_ok-kind.ensures c.between.ensures c.if-raw-id_at.false
