-- What reading the open request tells a program in C, alone and after an answer. Assumes nothing.
use Rattle.std.specs.Prelude.{ℕ, ◌≤◌, ◌≡◌, List, [], length, set}
use Rattle.model.specs.Bytes.{Bytes}
use Rattle.model.specs.Formats.{sha1}
use Rattle.model.specs.Write.{Shown, shown, short, unopened, requested, show, answered}
use Rattle.names.specs.Splice.{splice}
use Rattle.editor_terms.specs.Answers.{Answer, code_number}
use Rattle.editor.specs.Lent.{Lent, Good, viewed, Does}
use Rattle.editor.specs.Looks.{prefix_of}
use Rattle.editor.specs.declared.cursor.Cursor.{Cursor}
use Rattle.editor_write.specs.Requests.{shown_as, shown_number, place_in}

-- the slices that a request is read to: for the raw tree, for the path, and for their lengths
pub record Slices : Type 0 where
  pub out : Bytes
  pub path : Bytes
  pub lens : List ℕ

abbrev pub slices : Bytes → Bytes → List ℕ → Slices
slices out path lens = record { out = out; path = path; lens = lens }

-- the slices afterwards: the raw tree and its path at the fronts, with their lengths; or the length needed; or nothing
abbrev pub read_to : Shown → Bytes → Slices → Slices
read_to (shown b) p d = slices (splice d.out 0 b) (splice d.path 0 p) (set (set d.lens 0 (length b)) 1 (length p))
read_to (short m) p d = slices d.out d.path (set d.lens 0 m)
read_to unopened p d = d

-- there is room for both lengths and for any path
pub record Room (d : Slices) : Type 0 where
  pub lens : 2 ≤ length d.lens
  pub path : 1024 ≤ length d.path

-- the request of the editor that is held: 13 is for a store that holds none
pub record Reads (s : Lent) (d : Slices) (n : ℕ) (q : Slices) : Type 0 where
  pub refused : n ≡ 13 → (Good s → ⊥) × (q ≡ d)
  pub done : (n ≡ 13 → ⊥) →
      Good s × (n ≡ shown_number (show (length d.out) (viewed s))) × (q ≡ read_to (show (length d.out) (viewed s)) (place_in (show (length d.out) (viewed s)) (requested (viewed s))) d)

-- 255 is for slices without room, and nothing is looked at then
pub record Asks (s : Lent) (d : Slices) (n : ℕ) (q : Slices) : Type 0 where
  pub bad : (Room d → ⊥) → (n ≡ 255) × (q ≡ d)
  pub good : Room d → Reads s d n q

-- the arguments of an answer that also reads the next request: an id, and room for the request and for the number of its reading
pub record Whole (i p : Bytes) (l : List ℕ) (m : Bytes) : Type 0 where
  pub id : length i ≡ 20
  pub path : 1024 ≤ length p
  pub lens : 2 ≤ length l
  pub next : 1 ≤ length m

-- the answer that the id means, and the request of the editor that it leaves: the number of the reading goes to the front of its slice
pub record Turns (id : Bytes) (s : Lent) (d : Slices) (next : Bytes) (n : ℕ) (q : Lent) (e : Slices) (next' : Bytes) : Type 0 where
  pub does : Does (answered sha1 id) s n q
  pub number : ℕ
  pub reads : Reads q d number e
  pub given : next' ≡ set next 0 number

-- 255 is for arguments that are not whole, and nothing is looked at then
pub record AnswersAndAsks (id : Bytes) (s : Lent) (d : Slices) (next : Bytes) (n : ℕ) (q : Lent) (e : Slices) (next' : Bytes) : Type 0 where
  pub bad : (Whole id d.path d.lens next → ⊥) → (n ≡ 255) × (q ≡ s) × (e ≡ d) × (next' ≡ next)
  pub good : Whole id d.path d.lens next → Turns id s d next n q e next'

-- the length that an answer says is needed
abbrev pub short_by : Shown → ℕ
short_by (shown b) = 0
short_by (short m) = m
short_by unopened = 0

abbrev pub needed_by : Answer → ℕ
needed_by code = short_by (shown_as code 0 [])

-- what is told of an answer, of the length of the raw tree and of its place
pub record Told (code : Answer) (len : ℕ) (place : Cursor) (path : Bytes) (lens : List ℕ) (n : ℕ) (path' : Bytes) (lens' : List ℕ) : Type 0 where
  pub number : n ≡ code_number code
  pub lacks : code_number code ≡ 11 → (path' ≡ path) × (lens' ≡ set lens 0 (needed_by code))
  pub done : code_number code ≡ 0 → (path' ≡ splice path 0 (prefix_of place)) × (lens' ≡ set (set lens 0 len) 1 (length (prefix_of place)))
  pub other : (code_number code ≡ 11 → ⊥) → (code_number code ≡ 0 → ⊥) → (path' ≡ path) × (lens' ≡ lens)
