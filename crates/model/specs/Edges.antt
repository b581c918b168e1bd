-- The edge lines under document 01's twelve cases, and the limits: scripts of which the numbers are asked. Assumes nothing.
use Rattle.std.specs.Prelude.{ℕ, zero, suc, ◌+◌, ◌/◌, ◌%◌, List, [], ◌∷◌, ◌++◌, replicate}
use Rattle.model.specs.Bytes.{Bytes}
use Rattle.model.specs.Tree.{BLOB, Tree}
use Rattle.model.specs.Raw.{raw_tree}
use Rattle.model.specs.Formats.{sha1}
use Rattle.model.specs.Walk.{upsert}
use Rattle.model.specs.Calls.{root_only, set_root}
use Rattle.model.specs.Script.{Act, under, cursor, run, no_table, B, up, file}

-- n bytes `a`
abbrev pub times : ℕ → Bytes
times n = replicate n 97

-- pieces of these lengths, joined by slashes
abbrev pub path_of : List ℕ → Bytes
path_of [] = []
path_of (n ∷ ns) = times n ++ rest ns
  where
    rest : List ℕ → Bytes
    rest [] = []
    rest (m ∷ ms) = 47 ∷ times m ++ rest ms

-- a script on an empty root, with an empty table, and its numbers
pub record Edge : Type 0 where
  pub acts : List Act
  pub want : List ℕ

unfoldable pub answers : Edge → List ℕ
answers e = (run no_table e.acts (root_only [])).codes

-- a name of 255 bytes, and one of 256
unfoldable pub names : List Edge
names =
    record { acts = up (times 255) ∷ []; want = 0 ∷ [] }
    ∷ record { acts = up (times 256) ∷ []; want = 6 ∷ [] }
    ∷ []

-- a path of 1,024 bytes, and one of 1,025
unfoldable pub paths : List Edge
paths =
    record { acts = up (path_of (255 ∷ 255 ∷ 255 ∷ 254 ∷ 1 ∷ [])) ∷ []; want = 0 ∷ [] }
    ∷ record { acts = up (path_of (255 ∷ 255 ∷ 255 ∷ 255 ∷ 1 ∷ [])) ∷ []; want = 6 ∷ [] }
    ∷ []

-- below a prefix of 1,000 bytes, a path of 23 bytes, and one of 24
unfoldable pub prefixes : List Edge
prefixes =
    record { acts = cursor (path_of (255 ∷ 255 ∷ 255 ∷ 232 ∷ [])) ∷ under (path_of (255 ∷ 255 ∷ 255 ∷ 232 ∷ [])) (upsert BLOB B) (times 23) ∷ under (path_of (255 ∷ 255 ∷ 255 ∷ 232 ∷ [])) (upsert BLOB B) (times 24) ∷ []; want = 0 ∷ 0 ∷ 6 ∷ [] }
    ∷ []

-- 64 components are the root and 63 trees below it: another tree would be the 65th, and so would that of one component more
unfoldable pub trees : List Edge
trees =
    record { acts = up (path_of (replicate 64 1)) ∷ up (path_of (1 ∷ 2 ∷ [])) ∷ up (98 ∷ 47 ∷ 98 ∷ []) ∷ []; want = 0 ∷ 0 ∷ 5 ∷ [] }
    ∷ record { acts = up (path_of (replicate 65 1)) ∷ []; want = 5 ∷ [] }
    ∷ []

-- n files with names of two bytes, in order
abbrev pub ramp : ℕ → ℕ → Tree
ramp zero k = []
ramp (suc n) k = file ((65 + k / 64) ∷ (65 + k % 64) ∷ []) ∷ ramp n (suc k)

-- n files with names of 255 bytes
abbrev pub long : ℕ → ℕ → Tree
long zero k = []
long (suc n) k = file ((65 + k) ∷ replicate 254 97) ∷ long n (suc k)

-- the numbers of a script on a root; and those of setting a root by its raw form, then a script
unfoldable pub start_then : Tree → List Act → List ℕ
start_then t acts = (run no_table acts (root_only t)).codes

unfoldable pub root_then : Tree → List Act → List ℕ
root_then t acts = let a = set_root sha1 (raw_tree t) (root_only []) in a.code ∷ (run no_table acts a.editor).codes

-- 64 names of 255 bytes and one of 64 are 16,384 bytes
-- a path of pieces: a first byte, then this many more
abbrev pub chain : ℕ → Bytes
chain k = (k ∷ replicate 254 97) ++ (47 ∷ replicate 255 97) ++ (47 ∷ replicate 255 97) ++ (47 ∷ replicate 254 97) ++ (47 ∷ 102 ∷ [])

-- three chains of 255, 511, 767 and 1,022 bytes, then 255 and 272: 8,192 path bytes
