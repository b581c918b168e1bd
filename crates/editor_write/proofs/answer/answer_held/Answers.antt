-- `editor_write::answer::answer_held` meets its contract: the write ends where nothing is set aside. Assumes nothing.
use native.Mathlib.Omega.{arith}
use Rattle.editor_terms.specs.Ids.{id_bytes}
use Rattle.editor_write.proofs.answer.answer_held.Goals as goal

pub returns-then-s-eq0-clause-done : goal.returns-then-s-eq0-clause-done
returns-then-s-eq0-clause-done c = c.close.ensures.done c.args.order.now (id_bytes c.args.id) c.requires.0 (omega arith)
