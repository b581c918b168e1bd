-- The ids of the empty tree in both formats, computed from the definition: they are those that Git publishes and the model has. Assumes nothing.
use mathlib.Core.Path.{◌≡◌, refl}
use mathlib.Core.List.{[]}
use Rattle.hash.specs.Blocks.{turns, words, word_of, zeros, big_endian, padding, padded, run, hashed}
use Rattle.hash.specs.Sha1 as one
use Rattle.hash.specs.Sha256 as two
use Rattle.lines.specs.Texts.{decimal_from, decimal}
use Rattle.model.specs.Formats as format
use Rattle.tree_id.specs.Ids.{header, hashed_by, object_id, tree_id}

empty20 : tree_id 20 [] ≡ (format.sha1).empty_id
unfolding format.sha1 header hashed_by object_id decimal_from decimal one.F one.K one.next one.schedule one.step one.turn turns one.sums one.compress one.initial one.sha1 one.bytes words word_of zeros big_endian padding padded run hashed
empty20 = refl

empty32 : tree_id 32 [] ≡ (format.sha256).empty_id
unfolding format.sha256 header hashed_by object_id decimal_from decimal two.next two.schedule two.T1 two.T2 two.step two.turn turns two.sums two.compress two.initial two.sha256 two.bytes words word_of zeros big_endian padding padded run hashed
empty32 = refl
