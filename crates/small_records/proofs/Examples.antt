-- What the definition says of the example in docs/RULES.md and of inputs that break the form, by computing. Assumes nothing.
use Prim.Native.Nat.{ℕ, ◌<◌}
use mathlib.Core.Path.{◌≡◌, refl}
use mathlib.Core.List.{List, [], ◌∷◌, ◌++◌, map}
use lib.ListN.{length, replicate}
use borrow.Author.Tests.{lt-leb}
use Rattle.model.specs.Bytes.{Bytes}
use Rattle.model.specs.Tree.{BLOB}
use Rattle.model.specs.Raw.{octal, mode_of}
use Rattle.model.specs.Walk.{ANY, LEAF, remove, upsert}
use Rattle.lines.specs.Hex.{hexed, bytes_of}
use Rattle.lines.specs.Lines.{lines, said}
use Rattle.small_records.specs.Records.{op_key, path_key, kind_key, id_key, upsert_word, remove_word, leaf_word, verb_of, op_of, good_id, step, bad, good, read, reading}

-- a line: key, value, newline
abbrev line : Bytes → Bytes → Bytes
line key v = key ++ (v ++ (10 ∷ []))

-- `612f62`, `100644`, forty times `1`
abbrev place : Bytes
place = 54 ∷ 49 ∷ 50 ∷ 102 ∷ 54 ∷ 50 ∷ []

abbrev blob : Bytes
blob = 49 ∷ 48 ∷ 48 ∷ 54 ∷ 52 ∷ 52 ∷ []

abbrev ones : ℕ → Bytes
ones n = replicate n 49

abbrev four : Bytes → Bytes → Bytes → Bytes → Bytes
four o p k i = line op_key o ++ (line path_key p ++ (line kind_key k ++ line id_key i))

abbrev one : Bytes
one = four upsert_word place blob (ones 40)

pub the_example : reading 20 one ≡ good (record { edit = upsert BLOB (replicate 20 17); path = 97 ∷ 47 ∷ 98 ∷ [] } ∷ [])
unfolding reading read lines step said verb_of op_of good_id hexed bytes_of mode_of octal
the_example = refl

-- no record, and removals, one of them with a path of no bytes
pub the_good : map (reading 20) ([] ∷ (four remove_word place [] [] ++ four leaf_word [] [] []) ∷ [])
    ≡ good [] ∷ good (record { edit = remove ANY; path = 97 ∷ 47 ∷ 98 ∷ [] } ∷ record { edit = remove LEAF; path = [] } ∷ []) ∷ []
unfolding reading read lines step said verb_of op_of good_id hexed bytes_of mode_of octal
the_good = refl

-- an input and the line at which it breaks the form
pub record Broken : Type 0 where
  pub input : Bytes
  pub at : ℕ

unfoldable pub broken : List Broken
broken =
    -- an empty line; a line that no newline ends; a carriage return; another word; `OP=`
    record { input = 10 ∷ []; at = 1 }
    ∷ record { input = op_key ++ upsert_word; at = 1 }
    ∷ record { input = line op_key (upsert_word ++ (13 ∷ [])); at = 1 }
    ∷ record { input = line op_key (97 ∷ 100 ∷ 100 ∷ []); at = 1 }
    ∷ record { input = line (79 ∷ 80 ∷ 61 ∷ []) upsert_word; at = 1 }
    -- a missing line; an odd digit; an upper-case digit; a blank
    ∷ record { input = line op_key upsert_word; at = 2 }
    ∷ record { input = line op_key upsert_word ++ line path_key (54 ∷ []); at = 2 }
    ∷ record { input = line op_key upsert_word ++ line path_key (54 ∷ 70 ∷ []); at = 2 }
    ∷ record { input = line op_key upsert_word ++ line path_key (54 ∷ 49 ∷ 32 ∷ []); at = 2 }
    -- the kind: of a removal, of an upsert without one, with a leading zero; the lines changed round
    ∷ record { input = four remove_word place blob []; at = 3 }
    ∷ record { input = four upsert_word place [] (ones 40); at = 3 }
    ∷ record { input = four upsert_word place (48 ∷ blob) (ones 40); at = 3 }
    ∷ record { input = line op_key upsert_word ++ (line path_key place ++ line id_key (ones 40)); at = 3 }
    -- the id: of a removal, too short, too long, not ended, missing
    ∷ record { input = four leaf_word place [] (ones 40); at = 4 }
    ∷ record { input = four upsert_word place blob (ones 38); at = 4 }
    ∷ record { input = four upsert_word place blob (ones 41); at = 4 }
    ∷ record { input = four upsert_word place blob (ones 42); at = 4 }
    ∷ record { input = four upsert_word place blob []; at = 4 }
    ∷ record { input = line op_key remove_word ++ (line path_key place ++ (line kind_key [] ++ id_key)); at = 4 }
    ∷ record { input = line op_key remove_word ++ (line path_key place ++ line kind_key []); at = 4 }
    -- after a good record: an empty line, a record cut short; a bad line comes first, whatever follows it
    ∷ record { input = one ++ (10 ∷ []); at = 5 }
    ∷ record { input = one ++ line op_key leaf_word; at = 6 }
    ∷ record { input = one ++ four remove_word (54 ∷ []) blob (ones 40); at = 6 }
    ∷ []

pub the_broken : map (λ b. reading 20 b.input) broken ≡ map (λ b. bad b.at) broken
unfolding broken reading read lines step said verb_of op_of good_id hexed bytes_of mode_of octal
the_broken = refl

-- more than 65,536 bytes, whatever they are
pub the_long : (w : ℕ) (input : Bytes) → 65536 < length input → reading w input ≡ bad 0
unfolding reading
the_long w input h = rw (lt-leb (length input) 65536 h)
