-- What the answers of this crate's code mean: where the parts of an entry stand, and which entries the table holds. Assumes nothing.
use Rattle.std.specs.Prelude.{ℕ, ◌+◌, ◌-◌, ◌*◌, ◌/◌, ◌%◌, ◌≤◌, ◌<◌, ◌≡◌, List, ◌∷◌, ◌++◌, Bool, true, false, length, take, drop, get_or, Option, Some, None, Result, Ok, Err}
use Rattle.std.proofs.Math.Option.{none, some}
use Rattle.model.specs.Bytes.{Bytes}
use Rattle.model.specs.Map.{find, put, is_some}
use Rattle.model.specs.Raw.{octal, raw_entry, raw_tree}
use Rattle.model.specs.Tree.{is_tree, Entry, Tree, as_kind, key, entry_of, good_name, good_entries, name_bytes}
use Rattle.names_compact.specs.Compact.{blank}
use Rattle.names_salvage.specs.Pieces.{Piece, piece_of, pieces_of}
use Rattle.names_salvage.specs.Mending.{Mended, nothing, sorted, mend_all, within, Answer, refusal}
use Rattle.names_salvage.specs.declared.mend.Mended as code
use Rattle.names_salvage.specs.declared.mend.Refusal.{Refusal}
use Rattle.names_salvage.specs.declared.mend.Refusal.TheVariants.{NotTaken, OverLimit, TooShort}
use Rattle.names_salvage.specs.declared.pass.Tally.{Tally}
use Rattle.names_salvage.specs.declared.piece.RawPiece.{RawPiece}
use Rattle.names_salvage.specs.declared.table.Slot.{Slot}

-- where an entry's name begins
abbrev pub name_place : RawPiece → ℕ
name_place p = p.at + length p.mode.now + 1

-- an entry stands at `at`: its mode's text, its name, and behind their ends an id of w bytes, after which what is left begins at `next`
abbrev pub piece_at : Bytes → ℕ → RawPiece → Piece
piece_at raw w p = record { mode = p.mode.now; name = p.name.now; id = take w (drop (name_place p + length p.name.now + 1) raw); rest = drop p.next raw }

pub record StandsAt (raw : Bytes) (w at : ℕ) (p : RawPiece) : Type 0 where
  pub start : p.at ≡ at
  pub end : p.next ≡ name_place p + length p.name.now + 1 + w
  pub within : p.next ≤ length raw
  pub is : piece_of w (drop at raw) ≡ some (piece_at raw w p)

abbrev pub ReadIn : Bytes → ℕ → ℕ → Option RawPiece → Type 0
ReadIn raw at w (Some p) = StandsAt raw w at p
ReadIn raw at w None = piece_of w (drop at raw) ≡ none

pub record ReadAs (raw : Bytes) (at w : ℕ) (r : Option RawPiece) : Type 0 where
  pub is : ReadIn raw at w r

-- The table of the entries kept has one number an entry: eight times the place of its name, and how long its mode's text is.
pub record Stands (raw : Bytes) (v : ℕ) (e : Entry) : Type 0 where
  pub at : ℕ
  pub rest : Bytes
  pub start : v / 8 ≡ at + v % 8 + 1
  pub text : v % 8 ≡ length (octal e.mode)
  pub bytes : drop at raw ≡ raw_entry e ++ rest
  pub good : good_name e.name ≡ true

abbrev pub empty : Slot
empty = record { word = 0 }

-- the slots are those of a tree's entries
pub record Lists (raw : Bytes) (vs : List Slot) (t : Tree) : Type 0 where
  pub many : length vs ≡ length t
  pub each : (i : ℕ) → i < length t → Stands raw (get_or vs i empty).word (get_or t i blank)

-- a key is not in a tree, and where an entry of it goes
abbrev pub Goes : Tree → Bytes → ℕ → Type 0
Goes t k i = (find key k t ≡ none) × ((e : Entry) → key e ≡ k → put key e t ≡ take i t ++ (e ∷ drop i t)) × (i ≤ length t)

abbrev pub SearchIn : Tree → Bytes → Result ℕ ℕ → Type 0
SearchIn t k (Ok i) = is_some (find key k t) ≡ true
SearchIn t k (Err i) = Goes t k i

pub record SearchIs (t : Tree) (k : Bytes) (r : Result ℕ ℕ) : Type 0 where
  pub is : SearchIn t k r

-- whether a name is in a tree, and where an entry of it goes that is a tree or a file
pub record Away (t : Tree) (name : Bytes) (tree : Bool) (i : ℕ) : Type 0 where
  pub is : is_some (entry_of name t) ≡ false
  pub within : i ≤ length t
  pub goes : (e : Entry) → key e ≡ as_kind tree name → put key e t ≡ take i t ++ (e ∷ drop i t)

abbrev pub PlaceIn : Tree → Bytes → Bool → Result ℕ ℕ → Type 0
PlaceIn t name kind (Ok i) = is_some (entry_of name t) ≡ true
PlaceIn t name kind (Err i) = Away t name kind i

pub record PlaceIs (t : Tree) (name : Bytes) (tree : Bool) (r : Result ℕ ℕ) : Type 0 where
  pub is : PlaceIn t name tree r

-- the number of an entry that was read
abbrev pub word_of : RawPiece → ℕ
word_of p = name_place p * 8 + length p.mode.now

-- an entry that is to be kept: where it stands, and what its name and kind are
pub record Enters (raw : Bytes) (w at : ℕ) (p : RawPiece) (tree : Bool) (e : Entry) : Type 0 where
  pub start : p.at ≡ at
  pub named : e.name ≡ p.name.now
  pub kind : is_tree e.mode ≡ tree
  pub wide : length e.id ≡ w
  pub near : length p.mode.now < 8
  pub end : p.next ≡ p.at + length (raw_entry e)
  pub longer : 0 < length (raw_entry e)
  pub within : p.next ≤ length raw
  pub stands : Stands raw (word_of p) e

-- The tally and the table hold what is known of a tree up to the tally's place.
pub record Holds (raw : Bytes) (w : ℕ) (vs : List Slot) (t : Tally) (m : Mended) : Type 0 where
  pub lists : Lists raw vs (sorted m.kept)
  pub good : good_entries w (sorted m.kept) ≡ true
  pub kept : length vs ≡ length m.kept
  pub names : t.names ≡ name_bytes m.kept
  pub len : t.len ≡ length (raw_tree (sorted m.kept))
  pub bad_name : t.badname ≡ m.bad_name
  pub bad_mode : t.badmode ≡ m.bad_mode
  pub double : t.double ≡ m.double
  pub moved : t.moved ≡ m.moved
  pub few : length vs ≤ 1024
  pub short : t.names ≤ 16384
  pub counted : t.badname + t.badmode + t.double ≤ t.at
  pub written : t.len ≤ t.at
  pub inside : t.at ≤ length raw

-- what is known after one entry more: all of it, or that the entries kept pass a limit
abbrev pub TurnedTo : Bytes → ℕ → List Slot → Option Tally → Mended → ℕ → Type 0
TurnedTo raw w vs None m next = within m.kept ≡ false
TurnedTo raw w vs (Some t) m next = Holds raw w vs t m × (t.at ≡ next)

pub record Turned (raw : Bytes) (w : ℕ) (vs : List Slot) (r : Option Tally) (m : Mended) (next : ℕ) : Type 0 where
  pub is : TurnedTo raw w vs r m next

-- what is known at the end
abbrev pub mended_of : ℕ → Bytes → Mended
mended_of w raw = mend_all (pieces_of w raw).read nothing

abbrev pub PassedTo : Bytes → ℕ → List Slot → Option Tally → Type 0
PassedTo raw w vs None = within (mended_of w raw).kept ≡ false
PassedTo raw w vs (Some t) = Holds raw w vs t (mended_of w raw) × (length (pieces_of w raw).left ≡ length raw - t.at)

pub record Passed (raw : Bytes) (w : ℕ) (vs : List Slot) (r : Option Tally) : Type 0 where
  pub is : PassedTo raw w vs r

-- what the answer of a call says
abbrev pub answer : code.Mended → Bytes → Answer
answer r d = record { code = r.code; len = r.len; cut = r.cut; bad_name = r.badname; bad_mode = r.badmode; double = r.double; moved = r.moved; out = d }

-- the same of a call that may be refused
abbrev pub outcome : Result code.Mended Refusal → Bytes → Answer
outcome (Ok r) d = answer r d
outcome (Err NotTaken) d = refusal 255 0 d
outcome (Err OverLimit) d = refusal 5 0 d
outcome (Err (TooShort needed)) d = refusal 11 needed d
