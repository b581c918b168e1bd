use Rattle.store_check.proofs.TagLaws.{Wordwise}
use Rattle.store_check.proofs.tag.by_words.Given as goal

abbrev pub invariant-loop-i : goal.invariant-loop-i
invariant-loop-i l = Wordwise l.path l.h l.i
