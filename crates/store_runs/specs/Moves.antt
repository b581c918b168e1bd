-- What the moves of a lent slice leave: a part of a list, and a part put into or taken out of a gap-free list. Assumes nothing.
use Rattle.std.specs.Prelude.{ℕ, ◌+◌, List, ◌++◌, length, take, drop}

-- the `n` elements of `l` from `at` on
abbrev pub part : List ℕ → ℕ → ℕ → List ℕ
part l at n = take n (drop at l)

-- `l` with `src` put in before `at`
abbrev pub inserted : List ℕ → ℕ → List ℕ → List ℕ
inserted l at src = take at l ++ (src ++ drop at l)

-- `l` without the `n` elements from `at` on
abbrev pub removed : List ℕ → ℕ → ℕ → List ℕ
removed l at n = take at l ++ drop (at + n) l

-- `d` with its front replaced by `l`: what is past the end of `l` stays
abbrev pub over : List ℕ → List ℕ → List ℕ
over d l = l ++ drop (length l) d
