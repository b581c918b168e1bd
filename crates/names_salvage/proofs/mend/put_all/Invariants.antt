use Rattle.names_salvage.proofs.PutLaws.{Writing}
use Rattle.names_salvage.proofs.mend.put_all.Given as goal

abbrev pub invariant-loop-slot : goal.invariant-loop-slot
invariant-loop-slot l = Writing l.raw l.width l.slots l.initial.out l.out l.slot-index l.to
