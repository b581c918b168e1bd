-- The small program's input: lines, four of them a record, and the edits that they say; or the first line that breaks the form. Assumes nothing.
use Rattle.std.specs.Prelude.{ℕ, suc, ◌*◌, List, [], ◌∷◌, Bool, cond, ◌&&◌, leb, eqb, length}
use Rattle.std.proofs.Math.Option.{Option, none, some}
use Rattle.model.specs.Bytes.{Bytes, same, is_nil}
use Rattle.model.specs.Tree.{Mode}
use Rattle.model.specs.Raw.{mode_of}
use Rattle.model.specs.Walk.{RemoveKind, ANY, LEAF, Edit, remove, upsert}
use Rattle.lines.specs.Hex.{hexed, bytes_of}
use Rattle.lines.specs.Lines.{Line, whole, cut, lines, said}

-- `op=`, `path=`, `kind=`, `id=`; `upsert`, `remove`, `leaf`
abbrev pub op_key : Bytes
op_key = 111 ∷ 112 ∷ 61 ∷ []

abbrev pub path_key : Bytes
path_key = 112 ∷ 97 ∷ 116 ∷ 104 ∷ 61 ∷ []

abbrev pub kind_key : Bytes
kind_key = 107 ∷ 105 ∷ 110 ∷ 100 ∷ 61 ∷ []

abbrev pub id_key : Bytes
id_key = 105 ∷ 100 ∷ 61 ∷ []

abbrev pub upsert_word : Bytes
upsert_word = 117 ∷ 112 ∷ 115 ∷ 101 ∷ 114 ∷ 116 ∷ []

abbrev pub remove_word : Bytes
remove_word = 114 ∷ 101 ∷ 109 ∷ 111 ∷ 118 ∷ 101 ∷ []

abbrev pub leaf_word : Bytes
leaf_word = 108 ∷ 101 ∷ 97 ∷ 102 ∷ []

-- What an `op=` line says
pub data Verb : Type 0 where
  adds : Verb
  takes : RemoveKind → Verb

unfoldable pub verb_of : Bytes → Option Verb
verb_of v = cond (same v upsert_word) (some adds) (cond (same v remove_word) (some (takes ANY)) (cond (same v leaf_word) (some (takes LEAF)) none))

-- What the `kind=` line makes of it: an upsert's is one of the five modes, a removal's is empty
pub data Op : Type 0 where
  put : Mode → Op
  drops : RemoveKind → Op

abbrev pub put_as : Option Mode → Option Op
put_as none = none
put_as (some m) = some (put m)

unfoldable pub op_of : Verb → Bytes → Option Op
op_of adds v = put_as (mode_of v)
op_of (takes k) v = cond (is_nil v) (some (drops k)) none

-- whether an `id=` line may say so: for an upsert two digits for each of the w bytes, for a removal nothing
unfoldable pub good_id : ℕ → Op → Bytes → Bool
good_id w (put m) v = hexed v && eqb (length v) (2 * w)
good_id w (drops k) v = is_nil v

abbrev pub edit_of : Op → Bytes → Edit
edit_of (put m) v = upsert m (bytes_of v)
edit_of (drops k) v = remove k

-- an edit and its path; a path may have no bytes
pub record EditRecord : Type 0 where
  pub edit : Edit
  pub path : Bytes

-- Which line of a record comes next, with what the lines before it said
pub data Stage : Type 0 where
  at_op : Stage
  at_path : Verb → Stage
  at_kind : Verb → Bytes → Stage
  at_id : Op → Bytes → Stage

-- what a line makes of it; a line that breaks the form does so at its own number: the kind's, where the kind does not go with the op
pub data Step : Type 0 where
  on : Stage → Step
  done : EditRecord → Step
  wrong : Step

abbrev pub or_wrong : {A : Type 0} → Option A → (A → Step) → Step
or_wrong none next = wrong
or_wrong (some a) next = next a

unfoldable pub step : ℕ → Stage → Bytes → Step
step w at_op l = or_wrong (said op_key l) (λ v. or_wrong (verb_of v) (λ o. on (at_path o)))
step w (at_path o) l = or_wrong (said path_key l) (λ v. cond (hexed v) (on (at_kind o (bytes_of v))) wrong)
step w (at_kind o p) l = or_wrong (said kind_key l) (λ v. or_wrong (op_of o v) (λ k. on (at_id k p)))
step w (at_id k p) l = or_wrong (said id_key l) (λ v. cond (good_id w k v) (done (record { edit = edit_of k v; path = p })) wrong)

-- The answer for an input: the first line that breaks the form, or the records
pub data Read : Type 0 where
  bad : ℕ → Read
  good : List EditRecord → Read

abbrev pub more : EditRecord → Read → Read
more r (bad n) = bad n
more r (good rs) = good (r ∷ rs)

-- at the end of the input, before line n: between two records, or within one, which misses that line
abbrev pub ended : ℕ → Stage → Read
ended n at_op = good []
ended n (at_path o) = bad n
ended n (at_kind o p) = bad n
ended n (at_id k p) = bad n

abbrev pub stepped : ℕ → Step → (Stage → Read) → Read
stepped n (on st) next = next st
stepped n (done r) next = more r (next at_op)
stepped n wrong next = bad n

-- The lines from line n on. The first line that breaks the form is the first at which the input can no longer be a good one: the lines before it can
-- still go on to good records, and no input that has it does (proved in proofs/FirstBad)
unfoldable pub read : ℕ → ℕ → List Line → Stage → Read
read w n [] st = ended n st
read w n (cut ∷ ls) st = bad n
read w n (whole l ∷ ls) st = stepped n (step w st l) (λ s. read w (suc n) ls s)

-- The whole input, for ids of w bytes: over 65,536 bytes are bad at line 0, before any line is looked at
unfoldable pub reading : ℕ → Bytes → Read
reading w input = cond (leb (length input) 65536) (read w 1 (lines input) at_op) (bad 0)

-- the same with the number of the records only
pub data Form : Type 0 where
  bad_line : ℕ → Form
  records : ℕ → Form

abbrev pub form_of : Read → Form
form_of (bad n) = bad_line n
form_of (good rs) = records (length rs)
