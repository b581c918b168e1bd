-- Scripts: lists of calls on an editor with SHA-1's format, and what a script comes to. Short names for what they are made of. Assumes nothing.
use Rattle.std.specs.Prelude.{ℕ, List, [], ◌∷◌, ◌++◌, Bool, true, false, ◌&&◌, length, replicate}
use Rattle.std.proofs.Math.Option.{Option, none, some}
use Rattle.model.specs.Bytes.{Bytes}
use Rattle.model.specs.Tree.{TREE, BLOB, Entry, Tree}
use Rattle.model.specs.Raw.{raw_tree}
use Rattle.model.specs.Table.{Table}
use Rattle.model.specs.Editor.{Held, Cache, from_root, from_cursor, Editor}
use Rattle.model.specs.Formats.{sha1}
use Rattle.model.specs.Walk.{Edit, upsert}
use Rattle.model.specs.Calls.{Answer, edited, opened, root_only}
use Rattle.model.specs.Valid.{valid}
use Rattle.model.specs.Write.{begun, answered, failed, requested}

-- a call: an edit on the editor itself, one under a cursor's prefix, the opening of a cursor, a write's begin from the root or at a prefix, its answer, its failure
pub data Act : Type 0 where
  edit : Edit → Bytes → Act
  under : Bytes → Edit → Bytes → Act
  cursor : Bytes → Act
  begin : Act
  begin_at : Bytes → Act
  answer : Bytes → Act
  fail : Act

unfoldable pub act : Table → Act → Editor → Answer
act T (edit e p) E = edited sha1 T e false [] p E
act T (under q e p) E = edited sha1 T e false q p E
act T (cursor p) E = opened sha1 T p E
act T begin E = begun sha1 from_root E
act T (begin_at q) E = begun sha1 (from_cursor q) E
act T (answer i) E = answered sha1 i E
act T fail E = failed E

-- what a script comes to: the number of each call, the requests in their order, the cached trees at the end
pub record Outcome : Type 0 where
  pub codes : List ℕ
  pub requests : List Held
  pub cached : Cache

abbrev pub onto_list : Option Held → List Held → List Held
onto_list none hs = hs
onto_list (some h) hs = h ∷ hs

unfoldable pub and_then : Answer → Outcome → Outcome
and_then a o = record { codes = a.code ∷ o.codes; requests = onto_list (requested a.editor) o.requests; cached = o.cached }

abbrev pub run : Table → List Act → Editor → Outcome
run T [] E = record { codes = []; requests = []; cached = E.cached }
run T (x ∷ xs) E = and_then (act T x E) (run T xs (act T x E).editor)

pub record Case : Type 0 where
  pub table : Table
  pub root : Tree
  pub acts : List Act
  pub want : Outcome

unfoldable pub comes : Case → Outcome
comes c = run c.table c.acts (root_only c.root)

-- short names for the cases below
abbrev pub no_table : Table
no_table = record { ids = []; ends = []; raws = [] }

abbrev pub B : Bytes
B = replicate 20 17

abbrev pub Z : Bytes
Z = replicate 20 0

abbrev pub X : Bytes
X = replicate 20 9

abbrev pub no# : ℕ → Bytes
no# k = replicate 19 0 ++ (k ∷ [])

abbrev pub file : Bytes → Entry
file n = record { mode = BLOB; name = n; id = B }

abbrev pub folder : Bytes → Bytes → Entry
folder n i = record { mode = TREE; name = n; id = i }

abbrev pub up : Bytes → Act
up p = edit (upsert BLOB B) p

-- a table with the tree of one file `f` under the id X
abbrev pub with_x : Table
with_x = record { ids = X; ends = length (raw_tree (file (102 ∷ []) ∷ [])) ∷ []; raws = raw_tree (file (102 ∷ []) ∷ []) }

-- every editor on the way of every script is valid
abbrev pub valid_run : Table → List Act → Editor → Bool
valid_run T [] E = valid sha1 E
valid_run T (x ∷ xs) E = valid sha1 E && valid_run T xs (act T x E).editor

unfoldable pub all_valid : List Case → Bool
all_valid [] = true
all_valid (c ∷ cs) = valid_run c.table c.acts (root_only c.root) && all_valid cs
