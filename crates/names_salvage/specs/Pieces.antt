-- The bytes of a tree as entries, whatever their modes and names are: each a mode's text, a space (32), a name, a NUL and an id. Assumes nothing.
use Rattle.std.specs.Prelude.{ℕ, zero, suc, List, [], ◌∷◌, ◌++◌, cond, ◌&&◌, leb, ltb, length, take, drop}
use Rattle.std.proofs.Math.Option.{Option, none, some}
use Rattle.model.specs.Bytes.{Bytes}
use Rattle.names.specs.Places.{index_of}

-- an entry as it stands, and the bytes after it
pub record Piece : Type 0 where
  pub mode : Bytes
  pub name : Bytes
  pub id : Bytes
  pub rest : Bytes

-- the entry at the front of the bytes, with an id of w bytes; none where there is no space, after it no NUL, or too few bytes for the id
unfoldable pub piece_of : ℕ → Bytes → Option Piece
piece_of w s =
    let m = index_of 32 s in
    let t = drop (suc m) s in
    let n = index_of 0 t in
    let u = drop (suc n) t in
    cond (ltb m (length s) && (ltb n (length t) && leb w (length u))) (some (record { mode = take m s; name = take n t; id = take w u; rest = drop w u })) none

-- the entries read until one can't be, and the bytes that are left
pub record Pieces : Type 0 where
  pub read : List Piece
  pub left : Bytes

abbrev pub read_on : (Bytes → Pieces) → Bytes → Option Piece → Pieces
read_on next s none = record { read = []; left = s }
read_on next s (some x) = let r = next x.rest in record { read = x ∷ r.read; left = r.left }

-- at most so many
unfoldable pub pieces_in : ℕ → ℕ → Bytes → Pieces
pieces_in zero w s = record { read = []; left = s }
pieces_in (suc most) w s = read_on (pieces_in most w) s (piece_of w s)

unfoldable pub pieces_of : ℕ → Bytes → Pieces
pieces_of w s = pieces_in (length s) w s

-- the bytes of entries as they stand
abbrev pub raw_piece : Piece → Bytes
raw_piece x = x.mode ++ (32 ∷ x.name ++ (0 ∷ x.id))

unfoldable pub raw_pieces : List Piece → Bytes
raw_pieces [] = []
raw_pieces (x ∷ xs) = raw_piece x ++ raw_pieces xs
