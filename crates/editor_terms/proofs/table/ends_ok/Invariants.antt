use Rattle.editor_terms.proofs.TableLaws.{Checking}
use Rattle.editor_terms.proofs.table.ends_ok.Given as goal

abbrev pub invariant-loop-end : goal.invariant-loop-end
invariant-loop-end l = Checking l.ends l.size l.from l.end-index
