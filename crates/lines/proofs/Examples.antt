-- What the definitions say of some numbers and lines, by computing. Assumes nothing.
use mathlib.Core.Path.{◌≡◌, refl}
use mathlib.Core.List.{[], ◌∷◌, map}
use mathlib.Core.Option.{none, some}
use Rattle.lines.specs.Hex.{hex_of}
use Rattle.lines.specs.Numbers.{says_after, number_of, held}
use Rattle.lines.specs.Texts.{decimal_from, decimal, line_of}

-- numbers in decimal, and the lines `tree=61` and `bad=12`
pub the_numbers : map decimal (0 ∷ 7 ∷ 10 ∷ 13 ∷ 65537 ∷ 18446744073709551615 ∷ [])
    ≡ (48 ∷ []) ∷ (55 ∷ []) ∷ (49 ∷ 48 ∷ []) ∷ (49 ∷ 51 ∷ []) ∷ (54 ∷ 53 ∷ 53 ∷ 51 ∷ 55 ∷ [])
    ∷ (49 ∷ 56 ∷ 52 ∷ 52 ∷ 54 ∷ 55 ∷ 52 ∷ 52 ∷ 48 ∷ 55 ∷ 51 ∷ 55 ∷ 48 ∷ 57 ∷ 53 ∷ 53 ∷ 49 ∷ 54 ∷ 49 ∷ 53 ∷ []) ∷ []
unfolding decimal decimal_from
the_numbers = refl

pub the_lines : line_of (116 ∷ 114 ∷ 101 ∷ 101 ∷ []) (hex_of (97 ∷ [])) ∷ line_of (98 ∷ 97 ∷ 100 ∷ []) (decimal 12) ∷ []
    ≡ (116 ∷ 114 ∷ 101 ∷ 101 ∷ 61 ∷ 54 ∷ 49 ∷ 10 ∷ []) ∷ (98 ∷ 97 ∷ 100 ∷ 61 ∷ 49 ∷ 50 ∷ 10 ∷ []) ∷ []
unfolding decimal decimal_from hex_of
the_lines = refl

-- `0`, `7`, `10`, 2^62 and 2^62 + 1, of which the last two are held as one; nothing, `00`, `07`, `1x`, ` 1`
pub the_numbers_read : map (λ s. held (number_of s)) ((48 ∷ []) ∷ (55 ∷ []) ∷ (49 ∷ 48 ∷ [])
    ∷ (52 ∷ 54 ∷ 49 ∷ 49 ∷ 54 ∷ 56 ∷ 54 ∷ 48 ∷ 49 ∷ 56 ∷ 52 ∷ 50 ∷ 55 ∷ 51 ∷ 56 ∷ 55 ∷ 57 ∷ 48 ∷ 52 ∷ [])
    ∷ (52 ∷ 54 ∷ 49 ∷ 49 ∷ 54 ∷ 56 ∷ 54 ∷ 48 ∷ 49 ∷ 56 ∷ 52 ∷ 50 ∷ 55 ∷ 51 ∷ 56 ∷ 55 ∷ 57 ∷ 48 ∷ 53 ∷ []) ∷ [])
    ≡ some 0 ∷ some 7 ∷ some 10 ∷ some 4611686018427387904 ∷ some 4611686018427387904 ∷ []
unfolding number_of says_after
the_numbers_read = refl

pub the_numbers_refused : map number_of ([] ∷ (48 ∷ 48 ∷ []) ∷ (48 ∷ 55 ∷ []) ∷ (49 ∷ 120 ∷ []) ∷ (32 ∷ 49 ∷ []) ∷ []) ≡ none ∷ none ∷ none ∷ none ∷ none ∷ []
unfolding number_of says_after
the_numbers_refused = refl
