-- `small_records::record::verb_of` meets its contract: three words are compared, one after the other. Assumes nothing.
use Rattle.small_records.proofs.PlaceLaws.{verb_says}
use Rattle.small_records.proofs.record.verb_of.Goals as goal

pub returns-then-eq : goal.returns-then-eq
returns-then-eq c = let h = c.if-eq.ensures in rw (verb_says c.args.text.now, ← c.if-eq.ensures)

pub returns-then-eq-2 : goal.returns-then-eq-2
returns-then-eq-2 c = rw (verb_says c.args.text.now, ← c.if-eq.ensures, ← c.if-eq-2.ensures)

pub returns-then-eq-3 : goal.returns-then-eq-3
returns-then-eq-3 c = rw (verb_says c.args.text.now, ← c.if-eq.ensures, ← c.if-eq-2.ensures, ← c.if-eq-3.ensures)

pub returns-else-eq-3 : goal.returns-else-eq-3
returns-else-eq-3 c = rw (verb_says c.args.text.now, ← c.if-eq.ensures, ← c.if-eq-2.ensures, ← c.if-eq-3.ensures)
