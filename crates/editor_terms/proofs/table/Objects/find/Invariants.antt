use Rattle.std.proofs.Common.{◌≡◌}
use Rattle.std.specs.Iterator.Adapters.{zip_first, zip_second}
use Rattle.std.specs.Slice.Iter.{chunks_exact_rest, chunks_exact_size, iter_rest}
use Rattle.editor_terms.proofs.TableLaws.{Finding}
use Rattle.editor_terms.proofs.table.Objects.find.Given as goal

abbrev pub invariant-loop-key : goal.invariant-loop-key
invariant-loop-key l =
    (goal.iterator-loop-key).can_next l.key-iterator ×
    (goal.iterator-loop-key).is_finite l.key-iterator ×
    (chunks_exact_size (zip_first l.key-iterator) ≡ 20) ×
    Finding l.self.ids.now l.self.ends.now l.self.raws.now l.id.bytes l.from (chunks_exact_rest (zip_first l.key-iterator)) (iter_rest (zip_second l.key-iterator))
