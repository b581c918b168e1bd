-- What the definition says of the example in docs/RULES.md, byte for byte, of an input with a refused edit, of one with a bad line and of an empty one, by computing. Assumes nothing.
use mathlib.Core.Path.{◌≡◌, refl}
use mathlib.Core.List.{[], ◌∷◌}
use Rattle.model.specs.Bytes.{Bytes}
use Rattle.model.specs.Tree.{is_tree, null, good_name, well_formed}
use Rattle.model.specs.Raw.{octal, mode_of, raw_entry}
use Rattle.model.specs.Paths.{refused, valid_path}
use Rattle.model.specs.Table.{good_table, looked_up}
use Rattle.model.specs.Editor.{start_path, fits}
use Rattle.model.specs.Formats.{sha1}
use Rattle.model.specs.Walk.{through, to_remove, removed, at_last, at_earlier, turn, load, enter, ended, stepped, below, turned}
use Rattle.model.specs.Calls.{refuse_if, settled, edited, root_only}
use Rattle.model.specs.Write.{unlinked, linked, finished, taken, no_tree, asking, write_of, begun_at, begun, closed, answered_in, answered, requested}
use Rattle.lines.specs.Hex.{hexed, bytes_of, hex_of}
use Rattle.lines.specs.Lines.{lines, said}
use Rattle.small_records.specs.Records.{verb_of, op_of, good_id, step, read, reading}
use Rattle.lines.specs.Texts.{decimal_from, decimal}
use Rattle.small_run.specs.Lesson.{refusal, record_lines, after_records, count_id, request_lines, write_lines, saved, output}

-- the definitions that the computing looks through
computing : Unit {0}
unfolding is_tree null good_name well_formed octal mode_of raw_entry refused valid_path good_table looked_up start_path fits sha1 through to_remove removed at_last at_earlier turn load enter ended
    stepped below turned refuse_if settled edited root_only unlinked linked finished taken no_tree asking write_of begun_at begun closed answered_in answered requested
    hexed bytes_of hex_of lines said verb_of op_of good_id step read reading decimal_from decimal refusal record_lines after_records count_id request_lines write_lines saved output
computing = tt

-- one upsert of `612f62`, 100644, with the id of twenty bytes 11
abbrev pub example : Bytes
example = 111 ∷ 112 ∷ 61 ∷ 117 ∷ 112 ∷ 115 ∷ 101 ∷ 114 ∷ 116 ∷ 10
    ∷ 112 ∷ 97 ∷ 116 ∷ 104 ∷ 61 ∷ 54 ∷ 49 ∷ 50 ∷ 102 ∷ 54 ∷ 50 ∷ 10
    ∷ 107 ∷ 105 ∷ 110 ∷ 100 ∷ 61 ∷ 49 ∷ 48 ∷ 48 ∷ 54 ∷ 52 ∷ 52 ∷ 10
    ∷ 105 ∷ 100 ∷ 61 ∷ 49 ∷ 49 ∷ 49 ∷ 49 ∷ 49 ∷ 49 ∷ 49 ∷ 49 ∷ 49 ∷ 49 ∷ 49 ∷ 49 ∷ 49 ∷ 49 ∷ 49 ∷ 49 ∷ 49 ∷ 49 ∷ 49 ∷ 49 ∷ 49 ∷ 49 ∷ 49 ∷ 49 ∷ 49 ∷ 49 ∷ 49 ∷ 49 ∷ 49 ∷ 49 ∷ 49 ∷ 49 ∷ 49 ∷ 49 ∷ 49 ∷ 49 ∷ 49 ∷ 49 ∷ 49 ∷ 49 ∷ 10 ∷ []

-- the five lines of that example
pub the_example : output example ≡ 116 ∷ 114 ∷ 101 ∷ 101 ∷ 61 ∷ 54 ∷ 49 ∷ 10
    ∷ 114 ∷ 97 ∷ 119 ∷ 61 ∷ 51 ∷ 49 ∷ 51 ∷ 48 ∷ 51 ∷ 48 ∷ 51 ∷ 54 ∷ 51 ∷ 52 ∷ 51 ∷ 52 ∷ 50 ∷ 48 ∷ 54 ∷ 50 ∷ 48 ∷ 48 ∷ 49 ∷ 49 ∷ 49 ∷ 49 ∷ 49 ∷ 49 ∷ 49 ∷ 49 ∷ 49 ∷ 49 ∷ 49 ∷ 49 ∷ 49 ∷ 49 ∷ 49 ∷ 49 ∷ 49 ∷ 49 ∷ 49 ∷ 49 ∷ 49 ∷ 49 ∷ 49 ∷ 49 ∷ 49 ∷ 49 ∷ 49 ∷ 49 ∷ 49 ∷ 49 ∷ 49 ∷ 49 ∷ 49 ∷ 49 ∷ 49 ∷ 49 ∷ 49 ∷ 49 ∷ 49 ∷ 49 ∷ 10
    ∷ 116 ∷ 114 ∷ 101 ∷ 101 ∷ 61 ∷ 10
    ∷ 114 ∷ 97 ∷ 119 ∷ 61 ∷ 51 ∷ 52 ∷ 51 ∷ 48 ∷ 51 ∷ 48 ∷ 51 ∷ 48 ∷ 51 ∷ 48 ∷ 50 ∷ 48 ∷ 54 ∷ 49 ∷ 48 ∷ 48 ∷ 48 ∷ 48 ∷ 48 ∷ 48 ∷ 48 ∷ 48 ∷ 48 ∷ 48 ∷ 48 ∷ 48 ∷ 48 ∷ 48 ∷ 48 ∷ 48 ∷ 48 ∷ 48 ∷ 48 ∷ 48 ∷ 48 ∷ 48 ∷ 48 ∷ 48 ∷ 48 ∷ 48 ∷ 48 ∷ 48 ∷ 48 ∷ 48 ∷ 48 ∷ 48 ∷ 48 ∷ 48 ∷ 48 ∷ 48 ∷ 48 ∷ 48 ∷ 48 ∷ 48 ∷ 48 ∷ 49 ∷ 10
    ∷ 114 ∷ 111 ∷ 111 ∷ 116 ∷ 61 ∷ 48 ∷ 48 ∷ 48 ∷ 48 ∷ 48 ∷ 48 ∷ 48 ∷ 48 ∷ 48 ∷ 48 ∷ 48 ∷ 48 ∷ 48 ∷ 48 ∷ 48 ∷ 48 ∷ 48 ∷ 48 ∷ 48 ∷ 48 ∷ 48 ∷ 48 ∷ 48 ∷ 48 ∷ 48 ∷ 48 ∷ 48 ∷ 48 ∷ 48 ∷ 48 ∷ 48 ∷ 48 ∷ 48 ∷ 48 ∷ 48 ∷ 48 ∷ 48 ∷ 48 ∷ 48 ∷ 50 ∷ 10 ∷ []
unfolding computing
the_example = refl

-- an upsert of `a/`, which is refused with 1, and a removal that finds nothing; the root is written empty
abbrev pub refusing : Bytes
refusing = 111 ∷ 112 ∷ 61 ∷ 117 ∷ 112 ∷ 115 ∷ 101 ∷ 114 ∷ 116 ∷ 10
    ∷ 112 ∷ 97 ∷ 116 ∷ 104 ∷ 61 ∷ 54 ∷ 49 ∷ 50 ∷ 102 ∷ 10
    ∷ 107 ∷ 105 ∷ 110 ∷ 100 ∷ 61 ∷ 49 ∷ 48 ∷ 48 ∷ 54 ∷ 52 ∷ 52 ∷ 10
    ∷ 105 ∷ 100 ∷ 61 ∷ 49 ∷ 49 ∷ 49 ∷ 49 ∷ 49 ∷ 49 ∷ 49 ∷ 49 ∷ 49 ∷ 49 ∷ 49 ∷ 49 ∷ 49 ∷ 49 ∷ 49 ∷ 49 ∷ 49 ∷ 49 ∷ 49 ∷ 49 ∷ 49 ∷ 49 ∷ 49 ∷ 49 ∷ 49 ∷ 49 ∷ 49 ∷ 49 ∷ 49 ∷ 49 ∷ 49 ∷ 49 ∷ 49 ∷ 49 ∷ 49 ∷ 49 ∷ 49 ∷ 49 ∷ 49 ∷ 49 ∷ 10
    ∷ 111 ∷ 112 ∷ 61 ∷ 114 ∷ 101 ∷ 109 ∷ 111 ∷ 118 ∷ 101 ∷ 10
    ∷ 112 ∷ 97 ∷ 116 ∷ 104 ∷ 61 ∷ 55 ∷ 56 ∷ 10
    ∷ 107 ∷ 105 ∷ 110 ∷ 100 ∷ 61 ∷ 10
    ∷ 105 ∷ 100 ∷ 61 ∷ 10 ∷ []

pub the_refusal : output refusing ≡ 101 ∷ 100 ∷ 105 ∷ 116 ∷ 61 ∷ 49 ∷ 10
    ∷ 99 ∷ 111 ∷ 100 ∷ 101 ∷ 61 ∷ 49 ∷ 10
    ∷ 116 ∷ 114 ∷ 101 ∷ 101 ∷ 61 ∷ 10
    ∷ 114 ∷ 97 ∷ 119 ∷ 61 ∷ 10
    ∷ 114 ∷ 111 ∷ 111 ∷ 116 ∷ 61 ∷ 48 ∷ 48 ∷ 48 ∷ 48 ∷ 48 ∷ 48 ∷ 48 ∷ 48 ∷ 48 ∷ 48 ∷ 48 ∷ 48 ∷ 48 ∷ 48 ∷ 48 ∷ 48 ∷ 48 ∷ 48 ∷ 48 ∷ 48 ∷ 48 ∷ 48 ∷ 48 ∷ 48 ∷ 48 ∷ 48 ∷ 48 ∷ 48 ∷ 48 ∷ 48 ∷ 48 ∷ 48 ∷ 48 ∷ 48 ∷ 48 ∷ 48 ∷ 48 ∷ 48 ∷ 48 ∷ 49 ∷ 10 ∷ []
unfolding computing
the_refusal = refl

-- a path of one digit: `bad=2`
pub the_bad_line : output (111 ∷ 112 ∷ 61 ∷ 108 ∷ 101 ∷ 97 ∷ 102 ∷ 10 ∷ 112 ∷ 97 ∷ 116 ∷ 104 ∷ 61 ∷ 54 ∷ 10 ∷ []) ≡ 98 ∷ 97 ∷ 100 ∷ 61 ∷ 50 ∷ 10 ∷ []
unfolding computing
the_bad_line = refl

-- no record: the empty root alone
pub the_empty : output [] ≡ 116 ∷ 114 ∷ 101 ∷ 101 ∷ 61 ∷ 10
    ∷ 114 ∷ 97 ∷ 119 ∷ 61 ∷ 10
    ∷ 114 ∷ 111 ∷ 111 ∷ 116 ∷ 61 ∷ 48 ∷ 48 ∷ 48 ∷ 48 ∷ 48 ∷ 48 ∷ 48 ∷ 48 ∷ 48 ∷ 48 ∷ 48 ∷ 48 ∷ 48 ∷ 48 ∷ 48 ∷ 48 ∷ 48 ∷ 48 ∷ 48 ∷ 48 ∷ 48 ∷ 48 ∷ 48 ∷ 48 ∷ 48 ∷ 48 ∷ 48 ∷ 48 ∷ 48 ∷ 48 ∷ 48 ∷ 48 ∷ 48 ∷ 48 ∷ 48 ∷ 48 ∷ 48 ∷ 48 ∷ 48 ∷ 49 ∷ 10 ∷ []
unfolding computing
the_empty = refl
