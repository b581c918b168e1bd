use Rattle.names.proofs.RefusalLaws.{Scanning}
use Rattle.names.proofs.path.has_bad_bytes.Given as goal

abbrev pub invariant-loop-b : goal.invariant-loop-b
invariant-loop-b l = Scanning l.path l.b-index l.run
