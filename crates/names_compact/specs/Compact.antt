-- A tree as bytes: its entries end to end, each a kind, the length of its name, an id of w bytes and the name. Assumes nothing.
use Rattle.std.specs.Prelude.{◌≡◌, ℕ, zero, suc, ◌+◌, ◌*◌, ◌≤◌, Bool, true, false, [], ◌∷◌, ◌++◌, length, take, drop, get_or, Result, Ok, Err}
use Rattle.std.proofs.Math.Option.{none, some}
use Rattle.model.specs.Bytes.{Bytes, same}
use Rattle.model.specs.Map.{find}
use Rattle.model.specs.Tree.{Mode, TREE, BLOB, EXEC, LINK, COMMIT, Entry, Tree, key, good_entries, name_bytes}
use Rattle.model.specs.Raw.{read_tree}
use Rattle.model.specs.Search.{Spot, hit, miss, Searched, searched}
use Rattle.names_compact.specs.declared.compact.Place.{Place}

-- the kind byte of a mode, and the mode of a kind byte
unfoldable pub kind_of : Mode → ℕ
kind_of TREE = 0
kind_of BLOB = 1
kind_of EXEC = 2
kind_of LINK = 3
kind_of COMMIT = 4

unfoldable pub mode_at : ℕ → Mode
mode_at zero = TREE
mode_at (suc zero) = BLOB
mode_at (suc (suc zero)) = EXEC
mode_at (suc (suc (suc zero))) = LINK
mode_at (suc (suc (suc (suc k)))) = COMMIT

abbrev pub packed : Entry → Bytes
packed e = kind_of e.mode ∷ length e.name ∷ (e.id ++ e.name)

unfoldable pub packed_all : Tree → Bytes
packed_all [] = []
packed_all (e ∷ es) = packed e ++ packed_all es

-- the entries of a run, of which there are at most n
unfoldable pub unpack_in : ℕ → ℕ → Bytes → Tree
unpack_in zero w b = []
unpack_in (suc n) w [] = []
unpack_in (suc n) w (k ∷ []) = []
unpack_in (suc n) w (k ∷ l ∷ b) = record { mode = mode_at k; name = take l (drop w b); id = take w b } ∷ unpack_in n w (drop (w + l) b)

-- the tree that a run holds
unfoldable pub unpack : ℕ → Bytes → Tree
unpack w b = unpack_in (length b) w b

-- the run is the packed form of the tree it holds, whose names and ids are good
pub record Run (w : ℕ) (b : Bytes) : Type 0 where
  pub bytes : b ≡ packed_all (unpack w b)
  pub good : good_entries w (unpack w b) ≡ true

-- where the entry i starts
abbrev pub offset : ℕ → Bytes → ℕ → ℕ
offset w b i = length (packed_all (take i (unpack w b)))

abbrev pub blank : Entry
blank = record { mode = TREE; name = []; id = [] }

-- the entry i
abbrev pub entry_at : ℕ → Bytes → ℕ → Entry
entry_at w b i = get_or (unpack w b) i blank

-- whether a search found the key, and the place that it gives back
abbrev pub found_of : Result Place Place → Bool
found_of (Ok place) = true
found_of (Err place) = false

abbrev pub place_of : Result Place Place → Place
place_of (Ok place) = place
place_of (Err place) = place

-- a place that a search gives back says what the model's search says, and where it is in the bytes
abbrev pub spot_of : Bool → ℕ → Spot
spot_of true i = hit i
spot_of false i = miss i

pub record Tells (w : ℕ) (b : Bytes) (s : Searched) (r : Result Place Place) : Type 0 where
  pub spot : spot_of (found_of r) (place_of r).index ≡ s.spot
  pub within : (place_of r).index ≤ length (unpack w b)
  pub start : (place_of r).at ≡ offset w b (place_of r).index
  pub count : (place_of r).compared ≡ s.count

-- a place that was found is where the search of the key finds it; and where none was, the key is not there
pub record Finds (w : ℕ) (b k : Bytes) (r : Result Place Place) : Type 0 where
  pub there : found_of r ≡ true → Tells w b (searched key k (unpack w b)) r
  pub nowhere : found_of r ≡ false → find key k (unpack w b) ≡ none

-- the first of these entries has a name that begins with n
abbrev pub begun : Bytes → Tree → Bool
begun n [] = false
begun n (e ∷ es) = same (take (length n) e.name) n

-- the bytes are the raw form of a well-formed tree, whose compact form takes n bytes
pub record Takes (w : ℕ) (raw : Bytes) (n : ℕ) : Type 0 where
  pub tree : Tree
  pub reads : read_tree w raw ≡ some tree
  pub room : n ≡ length tree * (2 + w) + name_bytes tree

-- b is the compact form of the tree that the bytes are the raw form of
pub record PackedAs (w : ℕ) (raw b : Bytes) : Type 0 where
  pub is : (t : Tree) → read_tree w raw ≡ some t → b ≡ packed_all t
