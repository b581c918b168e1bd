-- Laws of a message that comes a part at a time: whole blocks may be taken in as they come, and the padding goes behind what is left. Assumes nothing.
use Rattle.std.proofs.Common.{◌≡◌, ℕ, zero, suc, ◌+◌, ◌-◌, ◌*◌, ◌/◌, ◌%◌, ◌<◌, ◌≤◌, List, ◌∷◌, ◌++◌, length, get_or, take, drop, replicate, sym, refl, ap, ◌∙◌, ap₂, append_assoc, suc-add, zero-add, add-one, arith, length-append, length-drop, take_all, drop-drop}
use Rattle.std.proofs.lemmas.List.{take-replicate}
use Rattle.std.specs.Simd.{first_chunks}
use lib.Seq.{drop-append-le, take-append-le, take-append-add, drop-append-add}
use Rattle.hash.specs.Blocks.{run, padding, padded, zeros, big_endian, hashed}
use Rattle.hash.specs.Stream.{Holds, Grown}

-- ---- runs of blocks

-- the block i of a list
pub block_at : (k i : ℕ) (xs d : List ℕ) → i < k → get_or (first_chunks 64 k xs) i d ≡ take 64 (drop (64 * i) xs)
block_at zero i xs d h = absurd (omega arith)
block_at (suc k) zero xs d h = refl
block_at (suc k) (suc i) xs d h =
    let e : 64 + 64 * i ≡ 64 * suc i = omega arith in
    block_at k i (drop 64 xs) d (omega arith) ∙ ap (take 64) (drop-drop (64 * i) 64 xs ∙ ap (λ (j : ℕ). drop j xs) e)

module _ {H : Type 0} (f : H → List ℕ → H) where
  pub run_add : (h : H) (q n : ℕ) (m : List ℕ) → run f h (q + n) m ≡ run f (run f h q m) n (drop (64 * q) m)
  unfolding run
  run_add h zero n m = rw (zero-add n)
  run_add h (suc q) n m =
      let e : 64 * suc q ≡ 64 + 64 * q = omega arith in
      rw (suc-add q n, run_add (f h (take 64 m)) q n (drop 64 m), drop-drop (64 * q) 64 m, e)

  pub run_append : (h : H) (n : ℕ) (m s : List ℕ) → 64 * n ≤ length m → run f h n (m ++ s) ≡ run f h n m
  unfolding run
  run_append h zero m s l = refl
  run_append h (suc n) m s l =
      let e : 64 ≤ length m = omega arith in
      let d : 64 * n ≤ length (drop 64 m) = simp length-drop (omega arith) in
      rw (take-append-le 64 m s e, drop-append-le 64 m s e) (run_append (f h (take 64 m)) n (drop 64 m) s d)

  -- one block more
  pub run_more : (h r r' : H) (i : ℕ) (m : List ℕ) → r ≡ run f h i m → r' ≡ f r (take 64 (drop (64 * i) m)) → r' ≡ run f h (i + 1) m
  unfolding run
  run_more h r r' i m e e' = e' ∙ ap (λ (u : H). f u (take 64 (drop (64 * i) m))) e ∙ sym (run_add h i 1 m)

-- ---- the padding

-- the bit 1 and z bytes of zeros
pub marked : (z : ℕ) → z ≤ 63 → take {A = ℕ} (z + 1) (128 ∷ replicate 63 0) ≡ 128 ∷ replicate z 0
marked z h = rw (add-one, take-replicate {X = ℕ} z 63 0 h) refl

-- ---- taking in a part of the message, and the end

module _ {H : Type 0} (f : H → List ℕ → H) (h : H) where
  -- all of s goes behind the bytes that wait
  pub short : (w : H) (b b' s : List ℕ) (n : ℕ) → n % 64 + length s < 64 → take (n % 64 + length s) b' ≡ take (n % 64) b ++ s
      → Grown f h w b n s w b' (n + length s)
  short w b b' s n l e =
      record {
        count = refl;
        holds =
            λ m a.
            let ln : n ≡ length m = a.count in
            let q : (n + length s) / 64 ≡ n / 64 = omega arith in
            let k : (n + length s) % 64 ≡ n % 64 + length s = omega arith in
            record {
              count = rw (length-append m s) (omega arith);
              blocks = rw q (a.blocks ∙ sym (run_append f h (n / 64) m s (omega arith)));
              rest = rw (q, k, e, a.rest) (sym (drop-append-le (64 * (n / 64)) m s (omega arith)));
            };
      }

  -- s fills the block, is taken in block by block, and what is left of it goes to the front of the block
  pub long : (w w1 w2 : H) (b b1 b2 s rest : List ℕ) (n : ℕ) → 64 ≤ n % 64 + length s
      → length b1 ≡ 64 → take 64 b1 ≡ take (n % 64) b ++ take (64 - n % 64) s → rest ≡ drop (64 - n % 64) s
      → w1 ≡ f w b1 → w2 ≡ run f w1 (length rest / 64) rest → take (length rest % 64) b2 ≡ drop (length rest / 64 * 64) rest
      → Grown f h w b n s w2 b2 (n + length s)
  long w w1 w2 b b1 b2 s rest n l l1 e1 er ew ew2 e2 =
      let at = 64 - n % 64 in
      let N = length rest / 64 in
      let lr : length rest ≡ length s - at = ap length er ∙ length-drop at s in
      record {
        count = refl;
        holds =
            λ m a.
            let ln : n ≡ length m = a.count in
            let q = n / 64 in
            let x : List ℕ = m ++ s in
            let dl : length (drop (64 * q) m) ≡ n % 64 = length-drop (64 * q) m ∙ omega arith in
            let dx : drop (64 * q) x ≡ drop (64 * q) m ++ s = drop-append-le (64 * q) m s (omega arith) in
            let n64 : 64 ≡ length (drop (64 * q) m) + at = omega arith in
            let block : b1 ≡ take 64 (drop (64 * q) x) =
            sym (take_all 64 b1 (omega arith)) ∙ e1 ∙ ap (λ (u : List ℕ). u ++ take at s) a.rest
            ∙ sym (ap₂ (λ (i : ℕ) (u : List ℕ). take i u) n64 dx ∙ take-append-add (drop (64 * q) m) s at) in
            let one : w1 ≡ run f h (q + 1) x =
            run_more f h w w1 q x (a.blocks ∙ sym (run_append f h q m s (omega arith))) (ew ∙ ap (f w) block) in
            let i1 : length m + at ≡ 64 * (q + 1) = omega arith in
            let d1 : rest ≡ drop (64 * (q + 1)) x = er ∙ sym (drop-append-add m s at) ∙ ap (λ (i : ℕ). drop i x) i1 in
            let qs : (n + length s) / 64 ≡ q + 1 + N = omega arith in
            let ks : (n + length s) % 64 ≡ length rest % 64 = omega arith in
            let i2 : 64 * (q + 1) + N * 64 ≡ 64 * (q + 1 + N) = omega arith in
            record {
              count = rw (length-append m s) (omega arith);
              blocks = rw qs (ew2 ∙ ap₂ (λ (u : H) (v : List ℕ). run f u N v) one d1 ∙ sym (run_add f h (q + 1) N x));
              rest =
                  rw (qs, ks)
                  (e2 ∙ ap (λ (u : List ℕ). drop (N * 64) u) d1 ∙ drop-drop (N * 64) (64 * (q + 1)) x ∙ ap (λ (i : ℕ). drop i x) i2);
            };
      }

  -- the padding comes last
  pub last : (w : H) (b mark bits m : List ℕ) (n : ℕ) → Holds f h w b n ((m ++ mark) ++ bits)
      → mark ≡ 128 ∷ replicate (zeros (length m)) 0 → bits ≡ big_endian 8 (8 * length m) → w ≡ hashed f h m
  unfolding hashed padded padding
  last w b mark bits m n a em eb =
      let e : (m ++ mark) ++ bits ≡ m ++ (128 ∷ (replicate (zeros (length m)) 0 ++ big_endian 8 (8 * length m))) =
      rw (append_assoc, em, eb) refl in
      rw (← e) (a.blocks ∙ ap (λ (i : ℕ). run f h (i / 64) ((m ++ mark) ++ bits)) a.count)
