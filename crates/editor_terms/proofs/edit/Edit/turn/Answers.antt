-- `editor_terms::edit::Edit::turn` meets its contract: an upsert's last component asks nothing. Assumes nothing.
use Rattle.editor_terms.proofs.EditLaws.{puts}
use Rattle.editor_terms.proofs.edit.Edit.turn.Goals as goal

pub returns-in-Upsert : goal.returns-in-Upsert
returns-in-Upsert c = rw (c.in-Upsert.is, c.if-last.true) (puts _ _ _)
