-- Laws of the schedule and of the turns: a word more of the schedule, and a turn more over it. Assumes nothing.
use Rattle.std.proofs.Common.{◌≡◌, ℕ, ◌+◌, ◌-◌, ◌*◌, ◌/◌, ◌<◌, ◌≤◌, List, [], ◌∷◌, ◌++◌, length, get_or, take, set, sym, refl, ap, ◌∙◌, add-one, append_assoc, append-nil, arith, get_or-take, le-ltb, lt-ltb}
use Rattle.std.proofs.lemmas.List.{take_more_set}
use Rattle.std.proofs.lemmas.Slice.{take-put_mid}
use Rattle.std.specs.Int.{w32, w64, to_be_bytes}
use borrow.Rule.Slice.PartMut.{put_mid}
use lib.Seq.{take-suc}
use Rattle.hash.specs.Word.{word_at, Ch, Parity, Maj}
use Rattle.hash.specs.Blocks.{word_of, words, turns, big_endian, in_bytes}
use Rattle.hash.specs.Sha1 as sha1
use Rattle.hash.specs.Sha256 as sha256
use Rattle.hash.specs.declared.sha1.Words.{Words}

-- ---- the schedule

-- SHA-1: a word depends on words before it alone
pub next1_take : (w : List ℕ) (t : ℕ) → 16 ≤ t → sha1.next w t ≡ sha1.next (take t w) t
unfolding sha1.next
next1_take w t h =
    let h3 : t - 3 < t = omega arith in
    let h8 : t - 8 < t = omega arith in
    let h14 : t - 14 < t = omega arith in
    let h16 : t - 16 < t = omega arith in
    simp get_or-take

-- SHA-256: a word depends on words before it alone
pub next2_take : (w : List ℕ) (t : ℕ) → 16 ≤ t → sha256.next w t ≡ sha256.next (take t w) t
unfolding sha256.next
next2_take w t h =
    let h2 : t - 2 < t = omega arith in
    let h7 : t - 7 < t = omega arith in
    let h15 : t - 15 < t = omega arith in
    let h16 : t - 16 < t = omega arith in
    simp get_or-take

module _ (next : List ℕ → ℕ → ℕ) (block w : List ℕ) (t x : ℕ) (room : t < length w) (held : take t w ≡ words next block t) where
  words_more : x ≡ word_of next block t (words next block t) → take (t + 1) (set w t x) ≡ words next block (t + 1)
  unfolding words
  words_more e = take_more_set w t x room ∙ rw (held, e, add-one) refl

  -- a word of the block
  pub words_early : t < 16 → x ≡ word_at block (4 * t) → take (t + 1) (set w t x) ≡ words next block (t + 1)
  unfolding word_of
  words_early h e = words_more (rw (lt-ltb t 16 h) e)

  -- a word made from those before it
  pub words_late : 16 ≤ t → next w t ≡ next (take t w) t → x ≡ next w t → take (t + 1) (set w t x) ≡ words next block (t + 1)
  unfolding word_of
  words_late h p e = words_more (rw (le-ltb t 16 h) (e ∙ p ∙ ap (λ (l : List ℕ). next l t) held))

-- ---- the turns

pub turns_more : {S : Type 0} (f : ℕ → ℕ → S → S) (W : List ℕ) (h s r : S) (t : ℕ) → s ≡ turns f W h t → r ≡ f t (get_or W t 0) s → r ≡ turns f W h (t + 1)
unfolding turns
turns_more f W h s r t e er = er ∙ rw (e, add-one) refl

module _ (s : Words) (t w : ℕ) where
  pub turn_first : t < 20 → sha1.step (Ch s.b s.c s.d) 0x5a827999 w s ≡ sha1.turn t w s
  unfolding sha1.turn sha1.F sha1.K
  turn_first h = rw (lt-ltb t 20 h)

  pub turn_second : 20 ≤ t → t < 40 → sha1.step (Parity s.b s.c s.d) 0x6ed9eba1 w s ≡ sha1.turn t w s
  unfolding sha1.turn sha1.F sha1.K
  turn_second l h = rw (le-ltb t 20 l, lt-ltb t 40 h)

  pub turn_third : 40 ≤ t → t < 60 → sha1.step (Maj s.b s.c s.d) 0x8f1bbcdc w s ≡ sha1.turn t w s
  unfolding sha1.turn sha1.F sha1.K
  turn_third l h =
      let l20 : 20 ≤ t = omega arith in
      rw (le-ltb t 20 l20, le-ltb t 40 l, lt-ltb t 60 h)

  pub turn_last : 60 ≤ t → sha1.step (Parity s.b s.c s.d) 0xca62c1d6 w s ≡ sha1.turn t w s
  unfolding sha1.turn sha1.F sha1.K
  turn_last l =
      let l20 : 20 ≤ t = omega arith in
      let l40 : 40 ≤ t = omega arith in
      rw (le-ltb t 20 l20, le-ltb t 40 l40, le-ltb t 60 l)

-- ---- words in bytes

pub four_bytes : (x : ℕ) → big_endian 4 x ≡ to_be_bytes w32 x
unfolding big_endian
four_bytes x =
    let low : x / 1 ≡ x = omega arith in
    rw low

pub eight_bytes : (x : ℕ) → big_endian 8 x ≡ to_be_bytes w64 x
unfolding big_endian
eight_bytes x =
    let low : x / 1 ≡ x = omega arith in
    rw low

in_bytes_append : (ws vs : List ℕ) → in_bytes (ws ++ vs) ≡ in_bytes ws ++ in_bytes vs
unfolding in_bytes
in_bytes_append [] vs = refl
in_bytes_append (w ∷ ws) vs = rw (in_bytes_append ws vs) (sym (append_assoc (big_endian 4 w) (in_bytes ws) (in_bytes vs)))

in_bytes_one : (x : ℕ) → in_bytes (x ∷ []) ≡ to_be_bytes w32 x
unfolding in_bytes
in_bytes_one x = append-nil (big_endian 4 x) ∙ four_bytes x

-- one word more
pub bytes_more : (out ws ys : List ℕ) (i k : ℕ) → i < length ws → take (4 * i) out ≡ in_bytes (take i ws) → 4 * i ≤ length out
    → ys ≡ to_be_bytes w32 (get_or ws i 0) → take (4 * (i + 1)) (put_mid (4 * i) k out ys) ≡ in_bytes (take (i + 1) ws)
bytes_more out ws ys i k h held fits ey =
    let x = get_or ws i 0 in
    let ly : length ys ≡ 4 = ap length ey in
    let more : in_bytes (take (i + 1) ws) ≡ in_bytes (take i ws) ++ ys =
    rw (add-one, take-suc ws i 0 h, ey) (in_bytes_append (take i ws) (x ∷ []) ∙ ap (λ (l : List ℕ). in_bytes (take i ws) ++ l) (in_bytes_one x)) in
    take-put_mid (4 * i) k out ys (4 * (i + 1)) (omega arith) fits ∙ rw held (sym more)
