-- What is made of some broken trees, computed from the definition. Assumes nothing.
use mathlib.Core.Path.{◌≡◌, refl}
use mathlib.Core.List.{[], ◌∷◌, ◌++◌}
use lib.ListN.{replicate}
use Rattle.model.specs.Raw.{octal, mode_of, raw_entry}
use Rattle.model.specs.Tree.{is_tree, good_name}
use Rattle.names.specs.Places.{index_of}
use Rattle.names.specs.Splice.{splice}
use Rattle.names_salvage.specs.Pieces.{piece_of, pieces_in, pieces_of}
use Rattle.names_salvage.specs.Mending.{sorted, above, mend1, mend_all, told, mended, salvaged, refusal}
use Rattle.names_salvage.specs.Examples.{file, folder, a, b, room, done}

-- in order, and nothing to mend
unbroken : mended 1 (file a 1 ++ file b 2) room ≡ done 20 0 0 0 0 0 (file a 1 ++ (file b 2 ++ replicate 20 7))
unfolding octal mode_of raw_entry is_tree good_name index_of splice piece_of pieces_in pieces_of sorted above mend1 mend_all told mended
unbroken = refl

-- out of order, and cut within the third entry
swapped : mended 1 (file b 2 ++ (file a 1 ++ (49 ∷ 48 ∷ []))) room ≡ done 20 2 0 0 0 1 (file a 1 ++ (file b 2 ++ replicate 20 7))
unfolding octal mode_of raw_entry is_tree good_name index_of splice piece_of pieces_in pieces_of sorted above mend1 mend_all told mended
swapped = refl

-- a file and a folder of one name: the first stays
twice : mended 1 (file a 1 ++ folder a 2) room ≡ done 10 0 0 0 1 0 (file a 1 ++ replicate 30 7)
unfolding octal mode_of raw_entry is_tree good_name index_of splice piece_of pieces_in pieces_of sorted above mend1 mend_all told mended
twice = refl

-- a bad name is counted before a bad mode, and neither makes a double
both_bad : mended 1 (49 ∷ 32 ∷ 47 ∷ 0 ∷ 1 ∷ 49 ∷ 32 ∷ 97 ∷ 0 ∷ 1 ∷ file a 1) room ≡ done 10 0 1 1 0 0 (file a 1 ++ replicate 30 7)
unfolding octal mode_of raw_entry is_tree good_name index_of splice piece_of pieces_in pieces_of sorted above mend1 mend_all told mended
both_bad = refl

-- too short an output: the length needed, and nothing written
short : mended 1 (file a 1) (1 ∷ 2 ∷ []) ≡ refusal 11 10 (1 ∷ 2 ∷ [])
unfolding octal mode_of raw_entry is_tree good_name index_of splice piece_of pieces_in pieces_of sorted above mend1 mend_all told mended
short = refl

-- a width that no format has
odd_width : salvaged 1 (file a 1) room ≡ refusal 255 0 room
unfolding salvaged
odd_width = refl
