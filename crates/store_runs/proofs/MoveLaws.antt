-- Laws of `splice`, `part`, `inserted` and `removed`: each is a front, a middle and a rest put together, so that writes one behind the other join. Assumes nothing.
use mathlib.Core.Path.{◌≡◌, refl, sym, ap, ap₂, ◌∙◌}
use mathlib.Core.List.{List, [], ◌∷◌, ◌++◌, append_assoc}
use Prim.Native.Nat.{ℕ, suc, ◌+◌, ◌-◌, ◌≤◌, ◌<◌}
use native.Mathlib.Nat.{add-zero}
use native.Mathlib.Omega.{arith}
use lib.ListN.{length, take, drop, get_or, set, length-append, length-drop, take-append-drop}
use lib.Seq.{drop-cons, set_split, length-take-le, take_at, drop_at, take-append-le, drop-append-le, take-take, drop-drop, take-add}
use Rattle.names.specs.Splice.{splice}
use Rattle.names.proofs.WriteLaws.{length_splice, splice_splice}
use Rattle.store_runs.specs.Moves.{part, inserted, removed, over}

-- `splice` with its parts in the order in which they stand
pub splice_is : (d : List ℕ) (p : ℕ) (xs : List ℕ) → splice d p xs ≡ take p d ++ (xs ++ drop (p + length xs) d)
unfolding splice
splice_is d p xs = append_assoc (take p d) xs (drop (p + length xs) d)

pub splice_nil : (d : List ℕ) (p : ℕ) → d ≡ splice d p []
splice_nil d p = sym (splice_is d p [] ∙ rw (add-zero p) (take-append-drop p d))

-- one more write in front of the first
pub splice_before : (d : List ℕ) (p : ℕ) (xs ys : List ℕ) (q : ℕ) → q ≡ p + length xs → q ≤ length d → splice (splice d q ys) p xs ≡ splice d p (xs ++ ys)
splice_before d p xs ys q e h =
    let lq : length (take q d) ≡ q = length-take-le q d h in
    let a : take p (splice d q ys) ≡ take p d =
    ap (take p) (splice_is d q ys) ∙ take-append-le p (take q d) _ (omega (arith, lq)) ∙ take-take p q d (omega arith) in
    let b : drop (p + length xs) (splice d q ys) ≡ ys ++ drop (q + length ys) d =
    ap₂ drop (sym e) (splice_is d q ys) ∙ drop_at (take q d) _ q lq in
    let f : q + length ys ≡ p + length (xs ++ ys) = omega (arith, length-append xs ys) in
    splice_is (splice d q ys) p xs ∙ rw (a, b, f, splice_is d p (xs ++ ys)) (simp append_assoc)

-- a write of one byte
pub splice_one : (d : List ℕ) (p v : ℕ) → p < length d → set d p v ≡ splice d p (v ∷ [])
splice_one d p v h =
    let e : suc p ≡ p + length (v ∷ []) = omega arith in
    set_split d p v h ∙ ap (λ (m : ℕ). take p d ++ v ∷ drop m d) e ∙ sym (splice_is d p (v ∷ []))

pub part_none : (l : List ℕ) (k : ℕ) → part l k 0 ≡ []
part_none l k = refl

pub part_cons : (l : List ℕ) (k m : ℕ) → k < length l → part l k (suc m) ≡ get_or l k 0 ∷ part l (suc k) m
part_cons l k m h = rw (drop-cons l k 0 h)

part_one : (l : List ℕ) (k : ℕ) → k < length l → (get_or l k 0 ∷ []) ≡ part l k 1
part_one l k h = sym (part_cons l k 0 h)

-- a part in two
pub part_add : (l : List ℕ) (k m n : ℕ) → part l k (m + n) ≡ part l k m ++ part l (k + m) n
part_add l k m n = take-add m n (drop k l) ∙ ap (λ (x : List ℕ). part l k m ++ take n x) (drop-drop m k l)

pub length_part : (l : List ℕ) (k m : ℕ) → k + m ≤ length l → length (part l k m) ≡ m
length_part l k m h = length-take-le m (drop k l) (simp length-drop (omega arith))

pub drop_take : (m n : ℕ) (l : List ℕ) → m ≤ n → n ≤ length l → drop m (take n l) ≡ part l m (n - m)
drop_take m n l h k =
    let e : n ≡ m + (n - m) = omega arith in
    ap (λ (x : ℕ). drop m (take x l)) e ∙ ap (drop m) (take-add m (n - m) l) ∙ drop_at (take m l) (part l m (n - m)) m (length-take-le m l (omega arith))

-- what stands before a write, or behind it, stays
pub part_before : (d : List ℕ) (p : ℕ) (xs : List ℕ) (k m : ℕ) → k + m ≤ p → p ≤ length d → part (splice d p xs) k m ≡ part d k m
part_before d p xs k m h g =
    let l : length (take p d) ≡ p = length-take-le p d g in
    let r : length (drop k (take p d)) ≡ p - k = length-drop k (take p d) ∙ ap (λ (x : ℕ). x - k) l in
    ap (λ (x : List ℕ). part x k m) (splice_is d p xs)
    ∙ ap (take m) (drop-append-le k (take p d) _ (omega (arith, l)))
    ∙ take-append-le m (drop k (take p d)) _ (omega (arith, r))
    ∙ ap (take m) (drop_take k p d (omega arith) g)
    ∙ take-take m (p - k) (drop k d) (omega arith)

pub part_behind : (d : List ℕ) (p : ℕ) (xs : List ℕ) (k m : ℕ) → p + length xs ≤ k → p + length xs ≤ length d → part (splice d p xs) k m ≡ part d k m
unfolding splice
part_behind d p xs k m h g =
    let q = p + length xs in
    let l : length (take p d ++ xs) ≡ q = length-append (take p d) xs ∙ ap (λ (x : ℕ). x + length xs) (length-take-le p d (omega arith)) in
    let e : k ≡ q + (k - q) = omega arith in
    ap (take m)
    (ap (λ (x : ℕ). drop x (splice d p xs)) e ∙ sym (drop-drop (k - q) q (splice d p xs))
    ∙ ap (drop (k - q)) (drop_at (take p d ++ xs) (drop q d) q l)
    ∙ drop-drop (k - q) q d ∙ ap (λ (x : ℕ). drop x d) (sym e))

-- ---- a turn of each loop, which moves as many bytes as it likes

-- s is d with its bytes from k to `used` standing n higher
pub record Raised (d : List ℕ) (at used n : ℕ) (s : List ℕ) (k : ℕ) : Type 0 where
  pub low : at ≤ k
  pub high : k ≤ used
  pub long : length s ≡ length d
  pub moved : s ≡ splice d (k + n) (part d k (used - k))

module _ {d : List ℕ} {at used n : ℕ} {s : List ℕ} {k : ℕ} (w : Raised d at used n s k) (room : used + n ≤ length d) where
  pub raise : (j c : ℕ) → at ≤ j → j + c ≡ k → (xs t : List ℕ) → xs ≡ part s j c → t ≡ splice s (j + n) xs → Raised d at used n t j
  raise j c h e xs t r f =
      let x : xs ≡ part d j c = r ∙ ap (λ (l : List ℕ). part l j c) w.moved ∙ part_before d (k + n) (part d k (used - k)) j c (omega arith) (omega (arith, w.high)) in
      let l : length xs ≡ c = ap length x ∙ length_part d j c (omega (arith, w.high)) in
      let m : c + (used - k) ≡ used - j = omega (arith, w.high) in
      let y : xs ++ part d k (used - k) ≡ part d j (used - j) =
      ap₂ (λ (u : List ℕ) (v : ℕ). u ++ part d v (used - k)) x (sym e) ∙ sym (part_add d j c (used - k)) ∙ ap (part d j) m in
      record {
        low = h;
        high = omega (arith, w.high);
        long = ap length f ∙ length_splice s (j + n) xs (omega (arith, w.high, w.long)) ∙ w.long;
        moved = f ∙ ap (λ (l : List ℕ). splice l (j + n) xs) w.moved ∙ splice_before d (j + n) xs (part d k (used - k)) (k + n) (omega arith) (omega (arith, w.high)) ∙ ap (splice d (j + n)) y;
      }

  pub raise_one : at < k → Raised d at used n (set s (k - 1 + n) (get_or s (k - 1) 0)) (k - 1)
  raise_one h =
      raise (k - 1) 1 (omega arith) (omega arith) (get_or s (k - 1) 0 ∷ []) _ (part_one s (k - 1) (omega (arith, w.high, w.long)))
      (splice_one s (k - 1 + n) (get_or s (k - 1) 0) (omega (arith, w.high, w.long)))

  pub raised : k ≤ at → s ≡ splice d (at + n) (part d at (used - at))
  raised h =
      let e : k ≡ at = omega (arith, w.low) in
      w.moved ∙ ap (λ (x : ℕ). splice d (x + n) (part d x (used - x))) e

-- s is d with its bytes from q to k standing at p
pub record Lowered (d : List ℕ) (p q used : ℕ) (s : List ℕ) (k : ℕ) : Type 0 where
  pub down : p ≤ q
  pub low : q ≤ k
  pub high : k ≤ used
  pub long : length s ≡ length d
  pub moved : s ≡ splice d p (part d q (k - q))

module _ {d : List ℕ} {p q used : ℕ} {s : List ℕ} {k : ℕ} (w : Lowered d p q used s k) (room : used ≤ length d) where
  pub lower : (i c : ℕ) → i + q ≡ p + k → k + c ≤ used → (xs t : List ℕ) → xs ≡ part s k c → t ≡ splice s i xs → Lowered d p q used t (k + c)
  lower i c at h xs t r f =
      let b = part d q (k - q) in
      let g : length b ≡ k - q = length_part d q (k - q) (omega (arith, w.low)) in
      let z : i ≡ p + length b = omega (arith, w.low) in
      let x : xs ≡ part d k c = r ∙ ap (λ (l : List ℕ). part l k c) w.moved ∙ part_behind d p b k c (omega (arith, w.low, w.down)) (omega (arith, w.low, w.down)) in
      let l : length xs ≡ c = ap length x ∙ length_part d k c (omega arith) in
      let m : k - q + c ≡ k + c - q = omega (arith, w.low) in
      let o : q + (k - q) ≡ k = omega (arith, w.low) in
      let y : b ++ xs ≡ part d q (k + c - q) =
      ap (λ (u : List ℕ). b ++ u) x ∙ ap (λ (v : ℕ). b ++ part d v c) (sym o) ∙ sym (part_add d q (k - q) c) ∙ ap (part d q) m in
      record {
        down = w.down;
        low = omega (arith, w.low);
        high = h;
        long = ap length f ∙ length_splice s i xs (omega (arith, w.low, w.down, w.long)) ∙ w.long;
        moved = f ∙ ap₂ (λ (u : List ℕ) (v : ℕ). splice u v xs) w.moved z ∙ splice_splice d p b xs (omega (arith, w.low, w.down)) ∙ ap (splice d p) y;
      }

  pub lower_one : (i : ℕ) → i + q ≡ p + k → k < used → Lowered d p q used (set s i (get_or s k 0)) (k + 1)
  lower_one i at h =
      lower i 1 at (omega arith) (get_or s k 0 ∷ []) _ (part_one s k (omega (arith, w.long))) (splice_one s i (get_or s k 0) (omega (arith, w.down, w.low, w.long)))

  pub lowered : used ≤ k → s ≡ splice d p (part d q (used - q))
  lowered h =
      let e : k ≡ used = omega (arith, w.high) in
      w.moved ∙ ap (λ (x : ℕ). splice d p (part d q (x - q))) e

pub down_none : (d : List ℕ) (p k : ℕ) → d ≡ splice d p (part d k (k - k))
down_none d p k =
    let z : k - k ≡ 0 = omega arith in
    splice_nil d p ∙ ap (λ (m : ℕ). splice d p (part d k m)) (sym z)

pub raise_none : (d : List ℕ) (at used n : ℕ) → at ≤ used → Raised d at used n d used
raise_none d at used n h = record { low = h; high = omega arith; long = refl; moved = down_none d (used + n) used }

pub lower_none : (d : List ℕ) (p q used : ℕ) → p ≤ q → q ≤ used → Lowered d p q used d q
lower_none d p q used g h = record { down = g; low = omega arith; high = h; long = refl; moved = down_none d p q }

-- a part written where it stands changes nothing
pub stays : (d : List ℕ) (at k m : ℕ) → k ≡ at → at + m ≤ length d → d ≡ splice d at (part d k m)
stays d at k m e h =
    let l : length (part d at m) ≡ m = length_part d at m h in
    sym (ap (λ (x : ℕ). splice d at (part d x m)) e ∙ splice_is d at (part d at m)
    ∙ ap (λ (x : ℕ). take at d ++ (part d at m ++ drop (at + x) d)) l
    ∙ ap (λ (x : List ℕ). take at d ++ (part d at m ++ x)) (sym (drop-drop m at d))
    ∙ ap (λ (x : List ℕ). take at d ++ x) (take-append-drop m (drop at d)) ∙ take-append-drop at d)

-- ---- a run put in, and taken out

pub length_inserted : (l : List ℕ) (at : ℕ) (src : List ℕ) → at ≤ length l → length (inserted l at src) ≡ length l + length src
length_inserted l at src h = simp (length-append, length-drop, length-take-le at l h) (omega arith)

pub length_removed : (l : List ℕ) (at n : ℕ) → at + n ≤ length l → length (removed l at n) ≡ length l - n
length_removed l at n h = simp (length-append, length-drop, length-take-le at l (omega arith)) (omega arith)

pub insert_law : (d : List ℕ) (at used : ℕ) (src e f : List ℕ) → at ≤ used → used + length src ≤ length d → e ≡ splice d (at + length src) (part d at (used - at)) → f ≡ splice e at src
    → f ≡ over d (inserted (take used d) at src)
insert_law d at used src e f h room p q =
    let n = length src in
    let k : length (take used d) ≡ used = length-take-le used d (omega arith) in
    let l : length (inserted (take used d) at src) ≡ used + n = length_inserted (take used d) at src (omega arith) ∙ ap (λ (x : ℕ). x + n) k in
    let m : length (part d at (used - at)) ≡ used - at = length_part d at (used - at) (omega arith) in
    let b : at + n + length (part d at (used - at)) ≡ used + n = omega arith in
    let p' = p ∙ splice_is d (at + n) (part d at (used - at)) in
    let x : take at e ≡ take at (take used d) =
    ap (take at) p' ∙ take-append-le at (take (at + n) d) _ (simp (length-take-le (at + n) d (omega arith)) (omega arith)) ∙ take-take at (at + n) d (omega arith) ∙ sym (take-take at used d h) in
    let y : drop (at + n) e ≡ drop at (take used d) ++ drop (used + n) d =
    ap (drop (at + n)) p' ∙ drop_at (take (at + n) d) _ (at + n) (length-take-le (at + n) d (omega arith))
    ∙ ap (λ (z : ℕ). part d at (used - at) ++ drop z d) b ∙ ap (λ (z : List ℕ). z ++ drop (used + n) d) (sym (drop_take at used d h (omega arith))) in
    q ∙ splice_is e at src ∙ rw (x, y, l) (simp append_assoc)

pub remove_law : (d : List ℕ) (at used n : ℕ) (f : List ℕ) → at + n ≤ used → used ≤ length d → f ≡ splice d at (part d (at + n) (used - (at + n))) → f ≡ over d (removed (take used d) at n)
remove_law d at used n f h room p =
    let k : length (take used d) ≡ used = length-take-le used d room in
    let l : length (removed (take used d) at n) ≡ used - n = length_removed (take used d) at n (omega arith) ∙ ap (λ (x : ℕ). x - n) k in
    let m : length (part d (at + n) (used - (at + n))) ≡ used - (at + n) = length_part d (at + n) (used - (at + n)) (omega arith) in
    let b : at + length (part d (at + n) (used - (at + n))) ≡ used - n = omega arith in
    let x : take at (take used d) ≡ take at d = take-take at used d (omega arith) in
    let y : drop (at + n) (take used d) ≡ part d (at + n) (used - (at + n)) = drop_take (at + n) used d h room in
    p ∙ splice_is d at (part d (at + n) (used - (at + n))) ∙ rw (l, x, y, b) (simp append_assoc)

-- ---- a splice within a part

pub splice_inner : (x h y : List ℕ) (m at : ℕ) (src : List ℕ) → length x ≡ m → at + length src ≤ length h → splice (x ++ (h ++ y)) (m + at) src ≡ x ++ (splice h at src ++ y)
splice_inner x h y m at src l fit =
    let p = take at h in
    let q = take (length src) (drop at h) in
    let s = drop (at + length src) h in
    let lp : length (x ++ p) ≡ m + at = omega (arith, length-append x p, length-take-le at h (omega arith)) in
    let lq : length ((x ++ p) ++ q) ≡ m + at + length src = omega (arith, length-append (x ++ p) q, lp, length-take-le (length src) (drop at h) (omega (arith, length-drop at h))) in
    let split : h ≡ p ++ (q ++ s) =
    sym (take-append-drop at h) ∙ ap (λ (z : List ℕ). p ++ z) (sym (take-append-drop (length src) (drop at h)) ∙ ap (λ (z : List ℕ). q ++ z) (drop-drop (length src) at h)) in
    let all : x ++ (h ++ y) ≡ (x ++ p) ++ (q ++ (s ++ y)) = ap (λ (z : List ℕ). x ++ (z ++ y)) split ∙ simp append_assoc in
    let a : take (m + at) (x ++ (h ++ y)) ≡ x ++ p = ap (take (m + at)) all ∙ take_at (x ++ p) (q ++ (s ++ y)) (m + at) lp in
    let b : drop (m + at + length src) (x ++ (h ++ y)) ≡ s ++ y =
    ap (drop (m + at + length src)) (all ∙ sym (append_assoc (x ++ p) q (s ++ y))) ∙ drop_at ((x ++ p) ++ q) (s ++ y) (m + at + length src) lq in
    splice_is (x ++ (h ++ y)) (m + at) src ∙ rw (a, b, splice_is h at src) (simp append_assoc)
