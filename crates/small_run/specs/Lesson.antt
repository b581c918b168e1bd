-- What the small program writes for an input. Assumes nothing.
use Rattle.std.specs.Prelude.{ℕ, zero, suc, ◌+◌, ◌/◌, ◌%◌, List, [], ◌∷◌, ◌++◌, false, cond, eqb, replicate}
use Rattle.std.proofs.Math.Option.{Option, none, some}
use Rattle.model.specs.Bytes.{Bytes}
use Rattle.model.specs.Raw.{raw_tree}
use Rattle.model.specs.Editor.{Held, from_root, Editor}
use Rattle.model.specs.Formats.{sha1}
use Rattle.model.specs.Calls.{Answer, edited, root_only}
use Rattle.model.specs.Write.{begun, requested, answered}
use Rattle.model.specs.Script.{no_table}
use Rattle.lines.specs.Hex.{hex_of}
use Rattle.small_records.specs.Records.{EditRecord, Read, bad, good, reading}
use Rattle.lines.specs.Texts.{decimal, line_of}

-- `bad`, `edit`, `code`, `tree`, `raw`, `root`
abbrev pub bad_key : Bytes
bad_key = 98 ∷ 97 ∷ 100 ∷ []

abbrev pub edit_key : Bytes
edit_key = 101 ∷ 100 ∷ 105 ∷ 116 ∷ []

abbrev pub code_key : Bytes
code_key = 99 ∷ 111 ∷ 100 ∷ 101 ∷ []

abbrev pub tree_key : Bytes
tree_key = 116 ∷ 114 ∷ 101 ∷ 101 ∷ []

abbrev pub raw_key : Bytes
raw_key = 114 ∷ 97 ∷ 119 ∷ []

abbrev pub root_key : Bytes
root_key = 114 ∷ 111 ∷ 111 ∷ 116 ∷ []

-- the edit of a record, with an empty table, and the two lines of its refusal, if it is the k-th
abbrev pub made_by : EditRecord → Editor → Answer
made_by r E = edited sha1 no_table r.edit false [] r.path E

unfoldable pub refusal : ℕ → ℕ → Bytes
refusal k code = cond (eqb code 0) [] (line_of edit_key (decimal k) ++ line_of code_key (decimal code))

-- the records from the k-th on: their lines, and the editor after them
unfoldable pub record_lines : ℕ → List EditRecord → Editor → Bytes
record_lines k [] E = []
record_lines k (r ∷ rs) E = refusal k (made_by r E).code ++ record_lines (k + 1) rs (made_by r E).editor

unfoldable pub after_records : List EditRecord → Editor → Editor
after_records [] E = E
after_records (r ∷ rs) E = after_records rs (made_by r E).editor

-- a count as an id of 20 bytes, the highest first
unfoldable pub count_id : ℕ → Bytes
count_id k = replicate 16 0 ++ (k / 16777216 ∷ k / 65536 % 256 ∷ k / 256 % 256 ∷ k % 256 ∷ [])

-- the two lines of a request
unfoldable pub request_lines : Held → Bytes
request_lines h = line_of tree_key (hex_of h.path) ++ line_of raw_key (hex_of (raw_tree h.held))

-- the request, and the lines that follow its answer; after k answers with none left, the last of them is the root's id
abbrev pub or_root : ℕ → Option Held → Bytes → Bytes
or_root k none rest = line_of root_key (hex_of (count_id k))
or_root k (some h) rest = request_lines h ++ rest

-- the lines of a write after k answers. n bounds the requests, of which there are at most 64: it is never met (`bound-unmet` in proofs/SaveLaws)
unfoldable pub write_lines : ℕ → ℕ → Editor → Bytes
write_lines zero k E = []
write_lines (suc n) k E =
    let r = write_lines n (k + 1) (answered sha1 (count_id (k + 1)) E).editor in
    or_root k (requested E) r

-- a write from the root
unfoldable pub saved : Editor → Bytes
saved E = write_lines 65 0 (begun sha1 from_root E).editor

-- the whole, from an empty root: the first bad line alone, or the refusals of the records and then the write
abbrev pub output_of : Read → Bytes
output_of (bad n) = line_of bad_key (decimal n)
output_of (good rs) = record_lines 1 rs (root_only []) ++ saved (after_records rs (root_only []))

unfoldable pub output : Bytes → Bytes
output input = output_of (reading 20 input)
