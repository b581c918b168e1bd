-- A damaged tree mended: which of its entries are kept, what is counted, and what a call gives back. Assumes nothing.
use Rattle.std.specs.Prelude.{ℕ, suc, List, [], ◌∷◌, Bool, true, cond, ◌&&◌, ◌||◌, leb, ltb, eqb, length}
use Rattle.std.proofs.Math.Option.{Option, none, some}
use Rattle.model.specs.Bytes.{Bytes, cmp}
use Rattle.model.specs.Map.{put, is_some}
use Rattle.model.specs.Raw.{mode_of, raw_tree}
use Rattle.model.specs.Tree.{Mode, Entry, Tree, key, entry_of, good_name, name_bytes}
use Rattle.names.specs.Check.{is_less}
use Rattle.names.specs.Splice.{splice}
use Rattle.names_salvage.specs.Pieces.{Piece, pieces_of}

-- what is known after some entries: those kept, the last first, the counts of those dropped, and whether one was kept after one that it comes before
pub record Mended : Type 0 where
  pub kept : Tree
  pub bad_name : ℕ
  pub bad_mode : ℕ
  pub double : ℕ
  pub moved : ℕ

abbrev pub nothing : Mended
nothing = record { kept = []; bad_name = 0; bad_mode = 0; double = 0; moved = 0 }

-- the entries in Git's order
unfoldable pub sorted : Tree → Tree
sorted [] = []
sorted (e ∷ es) = put key e (sorted es)

-- a key is above all of a tree's
unfoldable pub above : Bytes → Tree → Bool
above k [] = true
above k (x ∷ xs) = is_less (cmp (key x) k) && above k xs

-- an entry more: kept, unless its name is kept already; and one with a good name, if its text is a mode
abbrev pub keep : Entry → Mended → Mended
keep e m =
    let t = sorted m.kept in
    cond (is_some (entry_of e.name t))
    (record { kept = m.kept; bad_name = m.bad_name; bad_mode = m.bad_mode; double = suc m.double; moved = m.moved })
    (record { kept = e ∷ m.kept; bad_name = m.bad_name; bad_mode = m.bad_mode; double = m.double; moved = cond (above (key e) t) m.moved 1 })

abbrev pub keep_as : Option Mode → Piece → Mended → Mended
keep_as none x m = record { kept = m.kept; bad_name = m.bad_name; bad_mode = suc m.bad_mode; double = m.double; moved = m.moved }
keep_as (some k) x m = keep (record { mode = k; name = x.name; id = x.id }) m

unfoldable pub mend1 : Piece → Mended → Mended
mend1 x m =
    cond (good_name x.name) (keep_as (mode_of x.mode) x m)
    (record { kept = m.kept; bad_name = suc m.bad_name; bad_mode = m.bad_mode; double = m.double; moved = m.moved })

unfoldable pub mend_all : List Piece → Mended → Mended
mend_all [] m = m
mend_all (x ∷ xs) m = mend_all xs (mend1 x m)

-- so many entries with so many bytes of names are within the limits
abbrev pub fits : ℕ → ℕ → Bool
fits entries bytes = leb entries 1024 && leb bytes 16384

abbrev pub within : Tree → Bool
within t = fits (length t) (name_bytes t)

-- what a call gives back: a number, the length of the tree written or needed, what was changed, and the lent output afterwards
pub record Answer : Type 0 where
  pub code : ℕ
  pub len : ℕ
  pub cut : ℕ
  pub bad_name : ℕ
  pub bad_mode : ℕ
  pub double : ℕ
  pub moved : ℕ
  pub out : Bytes

-- a refusal writes nothing
abbrev pub refusal : ℕ → ℕ → Bytes → Answer
refusal code len d = record { code = code; len = len; cut = 0; bad_name = 0; bad_mode = 0; double = 0; moved = 0; out = d }

-- 5 for entries that pass a limit, then 11, with the length needed, for an output that is too short
unfoldable pub told : Mended → ℕ → Bytes → Answer
told m cut d =
    let raw = raw_tree (sorted m.kept) in
    cond (within m.kept)
    (cond (leb (length raw) (length d))
    (record { code = 0; len = length raw; cut = cut; bad_name = m.bad_name; bad_mode = m.bad_mode; double = m.double; moved = m.moved; out = splice d 0 raw })
    (refusal 11 (length raw) d))
    (refusal 5 0 d)

unfoldable pub mended : ℕ → Bytes → Bytes → Answer
mended w raw d = let p = pieces_of w raw in told (mend_all p.read nothing) (length p.left) d

-- 255 for a width that no format of ids has, and for a tree of 2 ^ 29 bytes or more
abbrev pub takes : ℕ → Bytes → Bool
takes w raw = (eqb w 20 || eqb w 32) && ltb (length raw) 536870912

unfoldable pub salvaged : ℕ → Bytes → Bytes → Answer
salvaged w raw d = cond (takes w raw) (mended w raw d) (refusal 255 0 d)
