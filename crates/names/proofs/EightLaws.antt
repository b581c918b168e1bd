-- Bytes eight at a time: a name is plain where each eight of its bytes are, and of two numbers of as many bytes the first bytes that differ decide; such a number gives its bytes back. Assumes nothing.
use Rattle.std.specs.Cmp.{ranks}
use Rattle.std.specs.Ordering.{MatchOrdering, nat_cmp}
use Rattle.std.specs.declared.cmp.Ordering as std
use Rattle.std.specs.declared.cmp.Ordering.TheVariants.{Less, Equal, Greater}
use Rattle.std.proofs.lemmas.List.{get_or-take, length-take}
use Rattle.names.specs.Answers.{as_ordering}
use Prim.Native.Nat.{ℕ, zero, suc, ◌+◌, ◌-◌, ◌*◌, ◌≤◌, ◌<◌, ◌/◌, ◌%◌}
use mathlib.Core.Path.{◌≡◌, refl, sym, ap, ◌∙◌}
use mathlib.Core.List.{[], ◌∷◌, ◌++◌}
use mathlib.Core.Bool.{Bool, true, false, not, ◌&&◌, ◌||◌}
use native.Mathlib.Omega.{arith}
use lib.Dec.{eqb, ltb}
use lib.ListN.{length, take, drop, get_or, length-drop, take-append-drop, drop_of_length-le}
use lib.Seq.{drop-cons, drop-drop, take_all, take-add, take-take, get_or-drop, length-take-le}
use borrow.Author.Tests.{eqb-true, eqb-false, ltb-true, ltb-false}
use Rattle.model.specs.Bytes.{Bytes, cmp, has, same}
use Rattle.model.specs.Tree.{as_kind}
use Rattle.std.specs.Int.{w64, from_le_bytes, swap_bytes}
use Rattle.model.proofs.Basics.{and_false, no_way}
use Rattle.model.proofs.ByteLaws.{has_here, has_past, same_eq, same_of}
use Rattle.names.specs.Check.{Lower, plain}
use Rattle.names.specs.Eight.{number, low_number, bytes_of, LowAt, AlikeTo}
use Rattle.names.proofs.StandingLaws.{plain_append, plain_front, lower_less, lower_greater}

-- the eight bytes at a place
eight : (s : Bytes) (k : ℕ) → k + 8 ≤ length s →
    take 8 (drop k s) ≡ get_or s k 0 ∷ get_or s (k + 1) 0 ∷ get_or s (k + 2) 0 ∷ get_or s (k + 3) 0 ∷ get_or s (k + 4) 0 ∷ get_or s (k + 5) 0 ∷ get_or s (k + 6) 0 ∷ get_or s (k + 7) 0 ∷ []
eight s k h =
    next 7 k (k + 1) refl (omega arith) (next 6 (k + 1) (k + 2) (omega arith) (omega arith) (next 5 (k + 2) (k + 3) (omega arith) (omega arith) (next 4 (k + 3) (k + 4) (omega arith) (omega arith)
    (next 3 (k + 4) (k + 5) (omega arith) (omega arith) (next 2 (k + 5) (k + 6) (omega arith) (omega arith) (next 1 (k + 6) (k + 7) (omega arith) (omega arith)
    (next 0 (k + 7) (k + 8) (omega arith) (omega arith) refl)))))))
  where
    next : (n k m : ℕ) → k + 1 ≡ m → k < length s → {l : Bytes} → take n (drop m s) ≡ l → take (suc n) (drop k s) ≡ get_or s k 0 ∷ l
    next n k m e g q =
        let z : suc k ≡ m = omega arith in
        rw (drop-cons s k 0 g, z, q)

-- whether one of the bytes is a slash or NUL, or one before them was
abbrev pub odd : Bool → Bytes → Bool
odd t [] = t
odd t (x ∷ l) = odd (t || eqb x 0 || eqb x 47) l

plain_cons : (x : ℕ) (l : Bytes) → plain (x ∷ l) ≡ (not (eqb x 0 || eqb x 47) && plain l)
unfolding plain
plain_cons x l = go (eqb x 0) refl (eqb x 47) refl
  where
    go : (p : Bool) → eqb x 0 ≡ p → (q : Bool) → eqb x 47 ≡ q → (not (has 47 (x ∷ l)) && not (has 0 (x ∷ l))) ≡ (not (p || q) && (not (has 47 l) && not (has 0 l)))
    go true e q f = rw (has_here 0 x l (eqb-true x 0 e)) (and_false (not (has 47 (x ∷ l))))
    go false e true f = rw (has_here 47 x l (eqb-true x 47 f))
    go false e false f = rw (has_past 0 x l (eqb-false x 0 e), has_past 47 x l (eqb-false x 47 f))

plain_odd : (t : Bool) (l : Bytes) → not (odd t l) ≡ (not t && plain l)
unfolding plain
plain_odd true [] = refl
plain_odd false [] = refl
plain_odd t (x ∷ l) = plain_odd (t || eqb x 0 || eqb x 47) l ∙ go t (eqb x 0) (eqb x 47) ∙ ap (λ (b : Bool). not t && b) (sym (plain_cons x l))
  where
    go : (t p q : Bool) → (not (t || p || q) && plain l) ≡ (not t && (not (p || q) && plain l))
    go true p q = refl
    go false p q = refl

-- the first i bytes are plain
pub record Front (s : Bytes) (i : ℕ) : Type 0 where
  pub within : i ≤ length s
  pub good : plain (take i s) ≡ true

pub front_begin : (s : Bytes) → Front s 0
unfolding plain
front_begin s = record { within = omega arith; good = refl }

pub front_more : {s : Bytes} {i j : ℕ} (n : ℕ) → Front s i → i + n ≤ length s → plain (take n (drop i s)) ≡ true → j ≡ i + n → Front s j
front_more {s} {i} n at h e q = rw q (record { within = h; good = ap plain (take-add i n s) ∙ plain_append (take i s) (take n (drop i s)) at.good ∙ e })

pub plain_there : (s : Bytes) (k : ℕ) → k + 8 ≤ length s →
    not (odd false (get_or s k 0 ∷ get_or s (k + 1) 0 ∷ get_or s (k + 2) 0 ∷ get_or s (k + 3) 0 ∷ get_or s (k + 4) 0 ∷ get_or s (k + 5) 0 ∷ get_or s (k + 6) 0 ∷ get_or s (k + 7) 0 ∷ []))
    ≡ plain (take 8 (drop k s))
plain_there s k h = ap (λ (l : Bytes). not (odd false l)) (sym (eight s k h)) ∙ plain_odd false (take 8 (drop k s))

-- each part of a plain name is plain
plain_part : (s : Bytes) (k n : ℕ) → plain (take n (drop k s)) ≡ false → false ≡ plain s
plain_part s k n e = go (plain s) refl
  where
    go : (t : Bool) → plain s ≡ t → false ≡ t
    go true p =
        let whole : plain (take k s ++ drop k s) ≡ true = ap plain (take-append-drop k s) ∙ p in
        let rest : plain (drop k s) ≡ true = sym (plain_append (take k s) (drop k s) (plain_front (take k s) (drop k s) whole)) ∙ whole in
        no_way (sym (plain_front (take n (drop k s)) (drop n (drop k s)) (ap plain (take-append-drop n (drop k s)) ∙ rest)) ∙ e)
    go false p = refl

pub odd_either : (p q : Bool) (s : Bytes) (j k : ℕ) → p ≡ plain (take 8 (drop j s)) → q ≡ plain (take 8 (drop k s)) → (p && q) ≡ false → false ≡ plain s
odd_either true true s j k e f h = no_way h
odd_either true false s j k e f h = plain_part s k 8 (sym f)
odd_either false q s j k e f h = plain_part s j 8 (sym e)

-- i bytes from both ends of a name that are plain
pub record Seen (s : Bytes) (i : ℕ) : Type 0 where
  pub within : i ≤ length s
  pub room : i < length s - i → i + 8 ≤ length s
  pub front : plain (take i s) ≡ true
  pub back : plain (drop (length s - i) s) ≡ true

pub seen_begin : (s : Bytes) → 8 ≤ length s → Seen s 0
unfolding plain
seen_begin s h = record { within = omega arith; room = λ _. omega arith; front = refl; back = rw (drop_of_length-le s {i = length s - 0} (omega arith)) }

module _ {s : Bytes} {i : ℕ} (at : Seen s i) where
  pub seen_more : i < length s - i → plain (take 8 (drop i s)) ≡ true → plain (take 8 (drop (length s - 8 - i) s)) ≡ true → Seen s (i + 8)
  seen_more h e f =
      let r = at.room h in
      let k = length s - 8 - i in
      let p : length s - (i + 8) ≡ k = omega arith in
      let q : k + 8 ≡ length s - i = omega arith in
      let d : drop 8 (drop k s) ≡ drop (length s - i) s = drop-drop 8 k s ∙ ap (λ (n : ℕ). drop n s) q in
      record {
        within = r;
        room = λ g. omega arith;
        front = ap plain (take-add i 8 s) ∙ plain_append (take i s) (take 8 (drop i s)) at.front ∙ e;
        back = ap (λ (n : ℕ). plain (drop n s)) p ∙ ap plain (sym (take-append-drop 8 (drop k s))) ∙ plain_append (take 8 (drop k s)) (drop 8 (drop k s)) f ∙ ap plain d ∙ at.back;
      }

  pub seen_end : length s - i ≤ i → true ≡ plain s
  seen_end h =
      let m = length s - i in
      let front : plain (take m (take i s)) ≡ true = plain_front (take m (take i s)) (drop m (take i s)) (ap plain (take-append-drop m (take i s)) ∙ at.front) in
      let part : take m (take i s) ≡ take m s = take-take m i s h in
      sym (ap plain (sym (take-append-drop m s)) ∙ plain_append (take m s) (drop m s) (ap plain (sym part) ∙ front) ∙ at.back)

-- bytes stay bytes in a part
pub low_take : (n : ℕ) (l : Bytes) → ((i : ℕ) → get_or l i 0 < 256) → (i : ℕ) → get_or (take n l) i 0 < 256
low_take zero l h i = omega arith
low_take (suc n) [] h i = omega arith
low_take (suc n) (x ∷ l) h zero = h 0
low_take (suc n) (x ∷ l) h (suc i) = low_take n l (λ j. h (suc j)) i

-- and those of a number are bytes
low_of : (n w i : ℕ) → get_or (bytes_of n w) i 0 < 256
unfolding bytes_of
low_of zero w i = omega arith
low_of (suc n) w zero = omega arith
low_of (suc n) w (suc i) = low_of n (w / 256) i

-- the bytes of the number that bytes say are these bytes
bytes_back : (n : ℕ) (l : Bytes) → length l ≡ n → ((i : ℕ) → get_or l i 0 < 256) → bytes_of n (low_number l) ≡ l
unfolding bytes_of low_number
bytes_back zero [] e h = refl
bytes_back zero (x ∷ l) e h = absurd (omega arith)
bytes_back (suc n) [] e h = absurd (omega arith)
bytes_back (suc n) (x ∷ l) e h =
    let b = h 0 in
    let p : (x + 256 * low_number l) % 256 ≡ x = omega arith in
    let q : (x + 256 * low_number l) / 256 ≡ low_number l = omega arith in
    rw (p, q, bytes_back n l (omega arith) (λ i. h (suc i)))

-- what the eight bytes of a list say, the first the lowest
low_says : (l : Bytes) → length l ≡ 8 → from_le_bytes w64 l ≡ low_number l
unfolding low_number
low_says (a ∷ b ∷ c ∷ d ∷ e ∷ f ∷ g ∷ h ∷ []) n = omega arith
low_says [] n = absurd (omega arith)
low_says (a ∷ []) n = absurd (omega arith)
low_says (a ∷ b ∷ []) n = absurd (omega arith)
low_says (a ∷ b ∷ c ∷ []) n = absurd (omega arith)
low_says (a ∷ b ∷ c ∷ d ∷ []) n = absurd (omega arith)
low_says (a ∷ b ∷ c ∷ d ∷ e ∷ []) n = absurd (omega arith)
low_says (a ∷ b ∷ c ∷ d ∷ e ∷ f ∷ []) n = absurd (omega arith)
low_says (a ∷ b ∷ c ∷ d ∷ e ∷ f ∷ g ∷ []) n = absurd (omega arith)
low_says (a ∷ b ∷ c ∷ d ∷ e ∷ f ∷ g ∷ h ∷ i ∷ l) n = absurd (omega arith)

high_sum : (a b c d e f g h : ℕ) →
    a * 72057594037927936 + b * 281474976710656 + c * 1099511627776 + d * 4294967296 + e * 16777216 + f * 65536 + g * 256 + h ≡ number 0 (a ∷ b ∷ c ∷ d ∷ e ∷ f ∷ g ∷ h ∷ [])
unfolding number
high_sum a b c d e f g h = omega arith

-- the number of the eight bytes at a place, the first the lowest
pub low_there : (s : Bytes) (k : ℕ) → k + 8 ≤ length s → ((i : ℕ) → get_or s i 0 < 256) → {l : Bytes} → l ≡ take 8 (drop k s) → {w : ℕ} → w ≡ from_le_bytes w64 l → LowAt s k w
low_there s k h b {l} el ew =
    let n : length l ≡ 8 = ap length el ∙ length-take-le 8 (drop k s) (omega (arith, length-drop k s)) in
    let e = ew ∙ low_says l n ∙ ap low_number el in
    record { is = e; back = ap (bytes_of 8) e ∙ bytes_back 8 (take 8 (drop k s)) (length-take-le 8 (drop k s) (omega (arith, length-drop k s))) (low_take 8 (drop k s) (λ i. rw (get_or-drop k s i 0) (b (k + i)))) }

-- and turned around: the bytes of a number as one with the first the highest
pub turned : (w : ℕ) → w < 18446744073709551616 → swap_bytes w64 w ≡ number 0 (bytes_of 8 w)
unfolding bytes_of
turned w h =
    let c : w / 65536 ≡ w / 256 / 256 = omega arith in
    let d : w / 16777216 ≡ w / 65536 / 256 = omega arith in
    let e : w / 4294967296 ≡ w / 16777216 / 256 = omega arith in
    let f : w / 1099511627776 ≡ w / 4294967296 / 256 = omega arith in
    let g : w / 281474976710656 ≡ w / 1099511627776 / 256 = omega arith in
    let k : w / 72057594037927936 ≡ w / 281474976710656 / 256 = omega arith in
    high_sum (w % 256) (w / 256 % 256) (w / 65536 % 256) (w / 16777216 % 256) (w / 4294967296 % 256) (w / 1099511627776 % 256) (w / 281474976710656 % 256) (w / 72057594037927936 % 256)
    ∙ rw (k, g, f, e, d, c)

-- a number that is less after its first bytes stays so, whatever follows
number_less : (n x y : ℕ) (a b : Bytes) → n ≤ length a → n ≤ length b → ((i : ℕ) → get_or a i 0 < 256) → x < y → number x (take n a) < number y (take n b)
unfolding number
number_less zero x y a b h g l t = t
number_less (suc n) x y [] b h g l t = absurd (omega arith)
number_less (suc n) x y (v ∷ a) [] h g l t = absurd (omega arith)
number_less (suc n) x y (v ∷ a) (w ∷ b) h g l t =
    let p = l 0 in
    number_less n (x * 256 + v) (y * 256 + w) a b (omega arith) (omega arith) (λ i. l (suc i)) (omega arith)

lower_more : (x y : ℕ) (a b : Bytes) → x ≡ y → Lower a b → Lower (x ∷ a) (y ∷ b)
lower_more x y a b e l =
    let s = l.shares in
    record {
      at = suc l.at;
      shares = record { left = omega arith; right = omega arith; alike = rw (e, s.alike); stop = λ p q. s.stop (omega arith) (omega arith) };
      left = omega arith;
      right = omega arith;
      less = l.less;
    }

-- so where one of two numbers of as many bytes is less, it has the lower byte where they differ
pub lower_first : (n m : ℕ) (a b : Bytes) → n ≤ length a → n ≤ length b → ((i : ℕ) → get_or b i 0 < 256) → number m (take n a) < number m (take n b) → Lower a b
unfolding number
lower_first zero m a b h g l t = absurd (omega arith)
lower_first (suc n) m [] b h g l t = absurd (omega arith)
lower_first (suc n) m (x ∷ a) [] h g l t = absurd (omega arith)
lower_first (suc n) m (x ∷ a) (y ∷ b) h g l t = go (λ k. lower_first n k a b (omega arith) (omega arith) (λ i. l (suc i))) (ltb x y) refl (eqb x y) refl
  where
    go : ((k : ℕ) → number k (take n a) < number k (take n b) → Lower a b) → (p : Bool) → ltb x y ≡ p → (q : Bool) → eqb x y ≡ q → Lower (x ∷ a) (y ∷ b)
    go ih true e q f =
        let v = ltb-true x y e in
        record { at = 0; shares = record { left = omega arith; right = omega arith; alike = refl; stop = λ _ _ z. absurd (omega arith) }; left = omega arith; right = omega arith; less = v }
    go ih false e true f =
        let z = eqb-true x y f in
        lower_more x y a b z (ih (m * 256 + x) (rw (ap (λ (v : ℕ). number (m * 256 + v) (take n b)) z) t))
    go ih false e false f =
        let v = ltb-false x y e in
        let w = eqb-false x y f in
        let u = number_less n (m * 256 + y) (m * 256 + x) b a (omega arith) (omega arith) (λ i. l (suc i)) (omega arith) in
        absurd (omega arith)

-- and where they are the same, so are the bytes
pub number_same : (n m : ℕ) (a b : Bytes) → n ≤ length a → n ≤ length b → ((i : ℕ) → get_or a i 0 < 256) → ((i : ℕ) → get_or b i 0 < 256) → number m (take n a) ≡ number m (take n b) → take n a ≡ take n b
unfolding number
number_same zero m a b h g k l t = refl
number_same (suc n) m [] b h g k l t = absurd (omega arith)
number_same (suc n) m (x ∷ a) [] h g k l t = absurd (omega arith)
number_same (suc n) m (x ∷ a) (y ∷ b) h g k l t = go (λ q. number_same n q a b (omega arith) (omega arith) (λ i. k (suc i)) (λ i. l (suc i))) (ltb x y) refl (eqb x y) refl
  where
    go : ((q : ℕ) → number q (take n a) ≡ number q (take n b) → take n a ≡ take n b) → (p : Bool) → ltb x y ≡ p → (q : Bool) → eqb x y ≡ q → x ∷ take n a ≡ y ∷ take n b
    go ih true e q f =
        let v = ltb-true x y e in
        let u = number_less n (m * 256 + x) (m * 256 + y) a b (omega arith) (omega arith) (λ i. k (suc i)) (omega arith) in
        absurd (omega arith)
    go ih false e true f =
        let z = eqb-true x y f in
        let s : number (m * 256 + x) (take n a) ≡ number (m * 256 + x) (take n b) = t ∙ ap (λ (v : ℕ). number (m * 256 + v) (take n b)) (sym z) in
        rw (z, ih (m * 256 + x) s)
    go ih false e false f =
        let v = ltb-false x y e in
        let w = eqb-false x y f in
        let u = number_less n (m * 256 + y) (m * 256 + x) b a (omega arith) (omega arith) (λ i. l (suc i)) (omega arith) in
        absurd (omega arith)

-- a lower byte past bytes that are alike
lower_past : (k : ℕ) (a b : Bytes) → k ≤ length a → k ≤ length b → take k a ≡ take k b → Lower (drop k a) (drop k b) → Lower a b
lower_past zero a b h g e l = l
lower_past (suc k) [] b h g e l = absurd (omega arith)
lower_past (suc k) (x ∷ a) [] h g e l = absurd (omega arith)
lower_past (suc k) (x ∷ a) (y ∷ b) h g e l =
    let p : x ≡ y = cc in
    let q : take k a ≡ take k b = cc in
    lower_more x y a b p (lower_past k a b (omega arith) (omega arith) q l)

-- and in the first n bytes of each
lower_take : (n : ℕ) (a b : Bytes) → Lower (take n a) (take n b) → Lower a b
lower_take n a b l =
    let s = l.shares in
    let h = l.left in
    let g = l.right in
    let p : l.at < n = omega (arith, length-take n a) in
    let x : get_or (take n a) l.at 0 ≡ get_or a l.at 0 = get_or-take n a l.at 0 p in
    let y : get_or (take n b) l.at 0 ≡ get_or b l.at 0 = get_or-take n b l.at 0 p in
    let less : get_or a l.at 0 < get_or b l.at 0 = omega (arith, l.less) in
    record {
      at = l.at;
      shares = record {
        left = omega (arith, length-take n a);
        right = omega (arith, length-take n b);
        alike = sym (take-take l.at n a (omega arith)) ∙ s.alike ∙ take-take l.at n b (omega arith);
        stop = λ _ _ e. omega (arith, e, less);
      };
      left = omega (arith, length-take n a);
      right = omega (arith, length-take n b);
      less = less;
    }

-- the eight bytes that a number says are bytes
low_eight : {s : Bytes} {k w : ℕ} → LowAt s k w → (i : ℕ) → get_or (take 8 (drop k s)) i 0 < 256
low_eight {s} {k} {w} p i = rw (sym p.back) (low_of 8 w i)

-- so of two names with k bytes alike the number of the next eight decides
pub lower_at : (k : ℕ) (a b : Bytes) → k + 8 ≤ length a → k + 8 ≤ length b → ((i : ℕ) → get_or b i 0 < 256) → take k a ≡ take k b → number 0 (take 8 (drop k a)) < number 0 (take 8 (drop k b)) → Lower a b
lower_at k a b h g l q t =
    lower_past k a b (omega arith) (omega arith) q
    (lower_first 8 0 (drop k a) (drop k b) (omega (arith, length-drop k a)) (omega (arith, length-drop k b)) (λ i. rw (get_or-drop k b i 0) (l (k + i))) t)

-- a part of a part
pub tail_is : (k m n : ℕ) (l : Bytes) → k + m ≤ n → take m (drop k (take n l)) ≡ take m (drop k l)
tail_is zero m n l h = take-take m n l (omega arith)
tail_is (suc k) m zero l h = absurd (omega arith)
tail_is (suc k) m (suc n) [] h = refl
tail_is (suc k) m (suc n) (x ∷ l) h = tail_is k m n l (omega arith)

-- two names as long, of eight to sixteen bytes: they are the same where the first eight bytes and the last eight are
same_blocks : (k : ℕ) (a b : Bytes) → k ≤ 8 → length a ≡ k + 8 → length b ≡ k + 8 → take 8 a ≡ take 8 b → take 8 (drop k a) ≡ take 8 (drop k b) → a ≡ b
same_blocks k a b h m n e f =
    let q : take k a ≡ take k b = sym (take-take k 8 a h) ∙ ap (take k) e ∙ take-take k 8 b h in
    let p : drop k a ≡ drop k b = sym (take_all 8 (drop k a) (omega (arith, length-drop k a))) ∙ f ∙ take_all 8 (drop k b) (omega (arith, length-drop k b)) in
    sym (take-append-drop k a) ∙ ap (λ (l : Bytes). l ++ drop k a) q ∙ ap (λ (l : Bytes). take k b ++ l) p ∙ take-append-drop k b

-- so the numbers of these bytes tell
module _ {k x y : ℕ} {a b : Bytes} (p : LowAt a k x) (q : LowAt b k y) where
  alike_block : x ≡ y → take 8 (drop k a) ≡ take 8 (drop k b)
  alike_block e = sym p.back ∙ ap (bytes_of 8) e ∙ q.back

  pub other_block : (x ≡ y → ⊥) → false ≡ same a b
  other_block ne = go (same a b) refl
    where
      go : (t : Bool) → same a b ≡ t → false ≡ t
      go true e = absurd (ne (p.is ∙ ap (λ (l : Bytes). low_number (take 8 (drop k l))) (same_eq a b e) ∙ sym q.is))
      go false e = refl

pub blocks_tell : {k v w x y : ℕ} {a b : Bytes} → LowAt a 0 v → LowAt b 0 w → LowAt a k x → LowAt b k y → k ≤ 8 → length a ≡ k + 8 → length b ≡ k + 8 → v ≡ w → eqb x y ≡ same a b
blocks_tell {k} {v} {w} {x} {y} {a} {b} m n p q h i j e = go (eqb x y) refl
  where
    go : (t : Bool) → eqb x y ≡ t → t ≡ same a b
    go true f = sym (same_of a b (same_blocks k a b h i j (alike_block m n e) (alike_block p q (eqb-true x y f))))
    go false f = other_block p q (eqb-false x y f)

-- Names that begin alike, eight bytes at a time.
pub eight_more : (i : ℕ) (a b : Bytes) → take i a ≡ take i b → take 8 (drop i a) ≡ take 8 (drop i b) → take (i + 8) a ≡ take (i + 8) b
eight_more i a b p q = take-add i 8 a ∙ ap (λ (l : Bytes). l ++ take 8 (drop i a)) p ∙ ap (λ (l : Bytes). take i b ++ l) q ∙ sym (take-add i 8 b)

-- the first i of n bytes are alike
pub record Passed (a b : Bytes) (n i : ℕ) : Type 0 where
  pub within : i ≤ n
  pub same : take i a ≡ take i b

module _ {a b : Bytes} {n i : ℕ} (at : Passed a b n i) where
  module _ {x y : ℕ} where
    pub passed_more : {j : ℕ} → j ≡ i + 8 → i + 8 ≤ n → LowAt a i x → LowAt b i y → x ≡ y → Passed a b n j
    passed_more f h p q e = rw f (record { within = h; same = eight_more i a b at.same (alike_block p q e) })

-- The order of two names by their first eight bytes that differ.
module _ {a b : Bytes} {n i v w : ℕ} (s : AlikeTo a b n i) (h : i + 8 ≤ n) (left : n ≤ length a) (right : n ≤ length b) (p : LowAt a i v) (q : LowAt b i w) where
  lower_here : {a b : Bytes} {v w : ℕ} → i + 8 ≤ length a → i + 8 ≤ length b → take i a ≡ take i b → LowAt a i v → LowAt b i w → number 0 (bytes_of 8 v) < number 0 (bytes_of 8 w) → Lower a b
  lower_here {a} {b} {v} {w} f g e p q t =
      let x : take 8 (take 8 (drop i a)) ≡ bytes_of 8 v = take-take 8 8 (drop i a) (omega arith) ∙ sym p.back in
      let y : take 8 (take 8 (drop i b)) ≡ bytes_of 8 w = take-take 8 8 (drop i b) (omega arith) ∙ sym q.back in
      let l : length (take 8 (drop i a)) ≡ 8 = length-take-le 8 (drop i a) (omega (arith, length-drop i a)) in
      let m : length (take 8 (drop i b)) ≡ 8 = length-take-le 8 (drop i b) (omega (arith, length-drop i b)) in
      lower_past i a b (omega arith) (omega arith) e
      (lower_take 8 (drop i a) (drop i b) (lower_first 8 0 (take 8 (drop i a)) (take 8 (drop i b)) (omega arith) (omega arith) (low_eight q) (rw (x, y) t)))

  -- where the two numbers are the same, so are the bytes
  other_number : number 0 (bytes_of 8 v) ≡ number 0 (bytes_of 8 w) → ⊥
  other_number e =
      let l : length (take 8 (drop i a)) ≡ 8 = length-take-le 8 (drop i a) (omega (arith, length-drop i a)) in
      let m : length (take 8 (drop i b)) ≡ 8 = length-take-le 8 (drop i b) (omega (arith, length-drop i b)) in
      let x : take 8 (take 8 (drop i a)) ≡ bytes_of 8 v = take-take 8 8 (drop i a) (omega arith) ∙ sym p.back in
      let y : take 8 (take 8 (drop i b)) ≡ bytes_of 8 w = take-take 8 8 (drop i b) (omega arith) ∙ sym q.back in
      let z = number_same 8 0 (take 8 (drop i a)) (take 8 (drop i b)) (omega arith) (omega arith) (low_eight p) (low_eight q) (rw (x, y) e) in
      s.stop h (sym (take-take 8 8 (drop i a) (omega arith)) ∙ z ∙ take-take 8 8 (drop i b) (omega arith))

  pub eight_tells : {o : std.Ordering} → o ≡ nat_cmp (number 0 (bytes_of 8 v)) (number 0 (bytes_of 8 w)) → (x y : Bool) → as_ordering o ≡ cmp (as_kind x a) (as_kind y b)
  eight_tells e x y = ap as_ordering e ∙ go (nat_cmp (number 0 (bytes_of 8 v)) (number 0 (bytes_of 8 w))) (ranks (number 0 (bytes_of 8 v)) (number 0 (bytes_of 8 w)))
    where
      go : (o : std.Ordering) → MatchOrdering o (number 0 (bytes_of 8 v) < number 0 (bytes_of 8 w)) (number 0 (bytes_of 8 v) ≡ number 0 (bytes_of 8 w)) (number 0 (bytes_of 8 w) < number 0 (bytes_of 8 v)) → as_ordering o ≡ cmp (as_kind x a) (as_kind y b)
      go Less t = lower_less (lower_here (omega arith) (omega arith) s.same p q t) x y
      go Equal t = absurd (other_number t)
      go Greater t = lower_greater (lower_here (omega arith) (omega arith) (sym s.same) q p t) x y
