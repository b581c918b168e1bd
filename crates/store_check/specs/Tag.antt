-- A number below 4,096 for a path, made of all its bytes. Assumes nothing.
use Rattle.std.specs.Prelude.{ℕ, zero, suc, ◌+◌, ◌-◌, ◌*◌, ◌/◌, ◌%◌, ◌^◌, cond, ltb, leb, length, get_or, fold}
use Rattle.std.specs.Int.Bits.{bit_or, bit_xor}
use Rattle.model.specs.Bytes.{Bytes}

-- the word of the four bytes at a place, the lowest first
abbrev pub word_at : Bytes → ℕ → ℕ
word_at p i = get_or p i 0 + get_or p (i + 1) 0 * 256 + get_or p (i + 2) 0 * 65536 + get_or p (i + 3) 0 * 16777216

-- a word turned by five bits, and another added bit by bit
abbrev pub turned : ℕ → ℕ → ℕ
turned h w = bit_xor (bit_or (h * 2 ^ 5 % 2 ^ 32) (h / 2 ^ 27)) w

-- the word h and the first n of the words f 0, f 1, .. as one
unfoldable pub joined : ℕ → (ℕ → ℕ) → ℕ → ℕ
joined h f zero = h
joined h f (suc n) = turned (joined h f n) (f n)

-- the length and the bytes of a path as one word: one by one, by four words, or four by four and then the last four
abbrev pub by_bytes : Bytes → ℕ
by_bytes p = fold turned (length p % 65536) p

abbrev pub by_four : Bytes → ℕ
by_four p =
    let n = length p in
    let x = n / 8 * 4 in
    turned (turned (turned (turned (n % 65536) (word_at p 0)) (word_at p x)) (word_at p (n - 4 - x))) (word_at p (n - 4))

abbrev pub by_words : Bytes → ℕ
by_words p = turned (joined (length p % 65536) (λ i. word_at p (4 * i)) ((length p - 1) / 4)) (word_at p (length p - 4))

-- twelve bits of a word
abbrev pub spread_of : ℕ → ℕ
spread_of h = h * 3266489909 / 1048576 % 4096

-- the number of a path
unfoldable pub tag_of : Bytes → ℕ
tag_of p = spread_of (cond (ltb (length p) 4) (by_bytes p) (cond (leb (length p) 16) (by_four p) (by_words p)))
