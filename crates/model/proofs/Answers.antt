-- Document 01's twelve cases, its edge lines, and finer points: each holds because the definitions compute to what is written beside it.
-- This file is checked before the laws, so that a wrong definition is refused by a case. Assumes nothing.
use Prim.Native.Nat.{ℕ}
use mathlib.Core.Path.{◌≡◌, refl}
use mathlib.Core.List.{map, [], ◌∷◌, ◌++◌}
use mathlib.Core.Bool.{true, false}
use lib.ListN.{replicate, length}
use Rattle.model.specs.Bytes.{Bytes}
use Rattle.model.specs.Tree.{is_tree, null, good_name, well_formed, TREE, BLOB}
use Rattle.model.specs.Raw.{octal, mode_of, raw_entry, name_from, got, ended as atEnd, read_tree, raw_tree}
use Rattle.model.specs.Paths.{refused, valid_path}
use Rattle.model.specs.Table.{good_table, looked_up}
use Rattle.model.specs.Editor.{start_path, fits, from_root, ◌↝◌}
use Rattle.model.specs.Formats.{sha1, sha256}
use Rattle.model.specs.Walk.{through, to_remove, removed, at_last, at_earlier, turn, load, enter, ended, stepped, below, turned, upsert}
use Rattle.model.specs.Calls.{refuse_if, settled, edited, opened, root_only, rooted, set_root}
use Rattle.model.specs.Lookup.{look_on, looked, found, missing, refusal}
use Rattle.model.specs.Write.{unlinked, linked, finished, taken, no_tree, asking, write_of, begun_at, begun, closed, answered_in, answered, failed, requested, show, shown, short, unopened}
use Rattle.model.specs.Valid.{taken_good, every_tree, root_held, write_good, valid}
use Rattle.model.specs.Written.{written}
use Rattle.model.specs.Script.{act, and_then, comes, no_table, no#, up, file, folder, X, Z, B, all_valid}
use Rattle.model.specs.Cases.{cases}
use Rattle.model.specs.Edges.{answers, names, paths, prefixes, trees, ramp, long, chain, start_then, root_then}
use Rattle.model.specs.Traps.{traps, numbers_of, full, three}

-- the definitions that the computing looks through: to unfold `computing` is to unfold them all
computing : Unit {0}
unfolding is_tree null good_name well_formed octal mode_of raw_entry name_from got atEnd read_tree refused valid_path good_table looked_up start_path fits sha1 sha256
    through to_remove removed at_last at_earlier turn load enter ended stepped below turned refuse_if settled edited opened root_only rooted set_root look_on looked
    unlinked linked finished taken no_tree asking write_of begun_at begun closed answered_in answered failed requested show taken_good every_tree root_held write_good valid act and_then comes
computing = tt

-- The twelve cases marked [T]
pub the_cases : map comes cases ≡ map (λ c. c.want) cases
unfolding computing cases
the_cases = refl

-- The edge lines: names of 255 and 256 bytes; paths of 1,024 and 1,025; below a prefix of 1,000, paths of 23 and 24; the 65th tree
pub the_edges : map answers (names ++ paths ++ prefixes ++ trees) ≡ map (λ e. e.want) (names ++ paths ++ prefixes ++ trees)
unfolding computing answers names paths prefixes trees
the_edges = refl

-- The other limits. 1,023 entries and one more are 1,024
pub entries_full : start_then (ramp 1023 0) (up (98 ∷ []) ∷ up (99 ∷ []) ∷ up (98 ∷ []) ∷ []) ≡ 0 ∷ 5 ∷ 0 ∷ []
unfolding computing start_then
entries_full = refl

-- 64 names of 255 bytes and one of 64 are 16,384 bytes
pub names_full : root_then (long 64 0) (up (replicate 64 98) ∷ up (99 ∷ []) ∷ []) ≡ 0 ∷ 0 ∷ 5 ∷ []
unfolding computing root_then
names_full = refl

-- three chains of 255, 511, 767 and 1,022 bytes, then 255 and 272: 8,192 path bytes
pub paths_full : root_then [] (up (chain 65) ∷ up (chain 66) ∷ up (chain 67) ∷ up ((68 ∷ replicate 254 97) ++ (47 ∷ replicate 16 97) ++ (47 ∷ 102 ∷ [])) ∷ up (69 ∷ 47 ∷ 102 ∷ []) ∷ []) ≡ 0 ∷ 0 ∷ 0 ∷ 0 ∷ 0 ∷ 5 ∷ []
unfolding computing root_then
paths_full = refl

-- The traps, one equation over their list
pub the_traps : map comes traps ≡ map (λ c. c.want) traps
unfolding computing traps
the_traps = refl

-- of room: the numbers alone
pub the_full : map numbers_of full ≡ map (λ t. t.want) full
unfolding computing numbers_of full
the_full = refl

-- Lookups: an entry, nothing, or a refusal
pub the_lookups : map (λ (p : Bytes). looked [] p three) ([] ∷ (97 ∷ []) ∷ (97 ∷ 47 ∷ 98 ∷ []) ∷ (97 ∷ 47 ∷ []) ∷ (99 ∷ []) ∷ (99 ∷ 47 ∷ 98 ∷ []) ∷ (100 ∷ 47 ∷ 98 ∷ []) ∷ (47 ∷ 97 ∷ []) ∷ (0 ∷ []) ∷ [])
    ≡ missing ∷ found (folder (97 ∷ []) Z) ∷ found (file (98 ∷ [])) ∷ missing ∷ found (folder (99 ∷ []) X) ∷ missing ∷ missing ∷ missing ∷ refusal 6 ∷ []
unfolding computing
the_lookups = refl

pub below_a_cursor : looked (97 ∷ []) (98 ∷ []) three ≡ found (file (98 ∷ []))
unfolding computing
below_a_cursor = refl

pub stale_cursor : looked (99 ∷ []) (98 ∷ []) three ≡ refusal 8
unfolding computing
stale_cursor = refl

pub open_write : looked [] (97 ∷ []) (begun sha1 from_root three).editor ≡ refusal 9
unfolding computing
open_write = refl

-- the first request is `a`: 29 bytes; with room for 28 the answer is the length needed, and with none open nothing is shown
pub shown_or_short : map (λ (n : ℕ). show n (begun sha1 from_root three).editor) (28 ∷ 29 ∷ [])
    ≡ short 29 ∷ shown (49 ∷ 48 ∷ 48 ∷ 54 ∷ 52 ∷ 52 ∷ 32 ∷ 98 ∷ 0 ∷ B) ∷ []
unfolding computing
shown_or_short = refl

pub none_open : show 45056 three ≡ unopened
unfolding computing
none_open = refl

-- The small program's example: for one upsert of `a/b` the requests are `a`, then the root with the id that was answered for `a`
pub the_small_program : written sha1 (no# 1 ∷ no# 2 ∷ []) from_root (act no_table (up (97 ∷ 47 ∷ 98 ∷ [])) (root_only [])).editor
    ≡ (97 ∷ [], 49 ∷ 48 ∷ 48 ∷ 54 ∷ 52 ∷ 52 ∷ 32 ∷ 98 ∷ 0 ∷ B) ∷ ([], 52 ∷ 48 ∷ 48 ∷ 48 ∷ 48 ∷ 32 ∷ 97 ∷ 0 ∷ no# 1) ∷ []
unfolding computing written
the_small_program = refl

-- Every editor on the way of every case and trap is valid
pub the_cases_valid : all_valid (cases ++ traps) ≡ true
unfolding computing all_valid cases traps
the_cases_valid = refl

-- Ids of 32 bytes: nothing but the format differs. `d` is loaded from the table, and `g` put beside its `f`
pub loads_wide : (edited sha256
    (record { ids = replicate 32 9; ends = length (raw_tree (record { mode = BLOB; name = 102 ∷ []; id = replicate 32 17 } ∷ [])) ∷ []; raws = raw_tree (record { mode = BLOB; name = 102 ∷ []; id = replicate 32 17 } ∷ []) })
    (upsert BLOB (replicate 32 18)) false [] (100 ∷ 47 ∷ 103 ∷ []) (root_only (record { mode = TREE; name = 100 ∷ []; id = replicate 32 9 } ∷ []))).editor.cached
    ≡ [] ↝ (record { mode = TREE; name = 100 ∷ []; id = replicate 32 9 } ∷ [])
    ∷ (100 ∷ []) ↝ (record { mode = BLOB; name = 102 ∷ []; id = replicate 32 17 } ∷ record { mode = BLOB; name = 103 ∷ []; id = replicate 32 18 } ∷ []) ∷ []
unfolding computing
loads_wide = refl
