-- The report of a mended tree: five lines, in order, and the tree in hex; a refusal is one line with its number. Assumes nothing.
use Rattle.std.specs.Prelude.{ℕ, [], ◌∷◌, ◌++◌, cond, eqb, take, replicate, Option}
use Rattle.model.specs.Bytes.{Bytes}
use Rattle.lines.specs.Hex.{hex_of}
use Rattle.lines.specs.Puts.{Puts}
use Rattle.lines.specs.Texts.{decimal, line_of}
use Rattle.names_salvage.specs.Mending.{Answer, salvaged}

-- `code`, `cut`, `badname`, `badmode`, `double`, `moved`, `raw`
abbrev pub code_key : Bytes
code_key = 99 ∷ 111 ∷ 100 ∷ 101 ∷ []

abbrev pub cut_key : Bytes
cut_key = 99 ∷ 117 ∷ 116 ∷ []

abbrev pub bad_name_key : Bytes
bad_name_key = 98 ∷ 97 ∷ 100 ∷ 110 ∷ 97 ∷ 109 ∷ 101 ∷ []

abbrev pub bad_mode_key : Bytes
bad_mode_key = 98 ∷ 97 ∷ 100 ∷ 109 ∷ 111 ∷ 100 ∷ 101 ∷ []

abbrev pub double_key : Bytes
double_key = 100 ∷ 111 ∷ 117 ∷ 98 ∷ 108 ∷ 101 ∷ []

abbrev pub moved_key : Bytes
moved_key = 109 ∷ 111 ∷ 118 ∷ 101 ∷ 100 ∷ []

abbrev pub raw_key : Bytes
raw_key = 114 ∷ 97 ∷ 119 ∷ []

abbrev pub number_line : Bytes → ℕ → Bytes
number_line key n = line_of key (decimal n)

abbrev pub count_lines : Answer → Bytes
count_lines a = (((number_line cut_key a.cut ++ number_line bad_name_key a.bad_name) ++ number_line bad_mode_key a.bad_mode) ++ number_line double_key a.double) ++ number_line moved_key a.moved

abbrev pub tree_line : Bytes → Bytes
tree_line tree = line_of raw_key (hex_of tree)

unfoldable pub done_lines : Answer → Bytes
done_lines a = count_lines a ++ tree_line (take a.len a.out)

abbrev pub report_of : Answer → Bytes
report_of a = cond (eqb a.code 0) (done_lines a) (number_line code_key a.code)

-- the report of a tree's bytes: a tree that is well formed and within the limits has at most 57,344
unfoldable pub reported : ℕ → Bytes → Bytes
reported w raw = report_of (salvaged w raw (replicate 57344 0))

-- s stands at the front of e, where d was, if r says so; otherwise it does not fit
pub record Told (d s : Bytes) (r : Option ℕ) (e : Bytes) : Type 0 where
  pub is : Puts d 0 s r e
