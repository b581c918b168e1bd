-- Laws of the parts of a tree in compact form: a run that is cut between two entries is two runs, and the raw form of the whole is that of the first and then that of the second. Assumes nothing.
use Prim.Native.Nat.{ℕ, zero, suc, ◌+◌, ◌≤◌, ◌<◌}
use mathlib.Core.Path.{◌≡◌, refl, sym, ap, ap₂, ◌∙◌, subst}
use mathlib.Core.Bool.{true, ◌&&◌}
use mathlib.Core.List.{[], ◌∷◌, ◌++◌, append_assoc}
use native.Mathlib.Numerals.{add-one}
use native.Mathlib.Omega.{arith}
use lib.Dec.{eqb}
use lib.ListN.{length, take, drop, get_or, length-append, take-append-drop}
use lib.Seq.{take_at, drop_at, take-suc}
use Rattle.model.specs.Bytes.{Bytes}
use Rattle.model.specs.Raw.{raw_entry, raw_tree}
use Rattle.model.specs.Tree.{Tree, good_name, good_entries}
use Rattle.model.proofs.Basics.{and_left, and_right}
use Rattle.model.proofs.ValidLaws.{octal_length}
use Rattle.names.proofs.WriteLaws.{entry_long, raw_snoc}
use Rattle.names_compact.specs.Compact.{packed_all, unpack, Run, blank, entry_at}
use Rattle.names_compact.proofs.CompactLaws.{here, Walked, walk_begin, walk_in, walk_at, walk_more, wide_good, unpacked, packed_append}
use Rattle.tree_id.specs.Parts.{Part}

-- a tree cut in two
good_take : (w : ℕ) (t : Tree) (i : ℕ) → good_entries w t ≡ true → good_entries w (take i t) ≡ true
good_take w t zero g = refl
good_take w [] (suc i) g = refl
good_take w (e ∷ es) (suc i) g =
    let one = good_name e.name && eqb (length e.id) w in
    ap₂ (λ b c. b && c) (and_left one (good_entries w es) g) (good_take w es i (and_right one (good_entries w es) g))

good_drop : (w : ℕ) (t : Tree) (i : ℕ) → good_entries w t ≡ true → good_entries w (drop i t) ≡ true
good_drop w t zero g = g
good_drop w [] (suc i) g = refl
good_drop w (e ∷ es) (suc i) g = good_drop w es i (and_right (good_name e.name && eqb (length e.id) w) (good_entries w es) g)

pub raw_append : (s t : Tree) → raw_tree (s ++ t) ≡ raw_tree s ++ raw_tree t
raw_append [] t = refl
raw_append (e ∷ es) t = ap (λ (l : Bytes). raw_entry e ++ l) (raw_append es t) ∙ sym (append_assoc (raw_entry e) (raw_tree es) (raw_tree t))

-- what is the packed form of good entries is a run
packs : (w : ℕ) (t : Tree) (b : Bytes) → b ≡ packed_all t → good_entries w t ≡ true → (unpack w b ≡ t) × Run w b
packs w t b e g =
    let u : unpack w b ≡ t = ap (unpack w) e ∙ unpacked w t (wide_good w t g) in
    (u, record { bytes = e ∙ ap packed_all (sym u); good = ap (good_entries w) u ∙ g })

-- the first i entries take k bytes, and their raw form at most n
pub record Cut (w : ℕ) (b : Bytes) (k n : ℕ) : Type 0 where
  pub i : ℕ
  pub walked : Walked w b i k
  pub long : length (raw_tree (take i (unpack w b))) ≤ n

pub cut_begin : (w : ℕ) (b : Bytes) → Cut w b 0 0
cut_begin w b = record { i = 0; walked = walk_begin w b; long = omega arith }

module _ {w : ℕ} {b : Bytes} {k n : ℕ} (c : Cut w b k n) (r : Run w b) where
  -- the next entry is there
  pub cut_room : k < length b → k + 2 + w + get_or b (k + 1) 0 ≤ length b
  cut_room h = (walk_at c.walked r h).room

  pub cut_more : k < length b → Cut w b (k + 2 + w + get_or b (k + 1) 0) (n + (8 + get_or b (k + 1) 0 + w))
  cut_more h =
      let t = unpack w b in
      let m = walk_at c.walked r h in
      let u = walk_in c.walked r h in
      let e = entry_at w b c.i in
      let next : raw_tree (take (c.i + 1) t) ≡ raw_tree (take c.i t) ++ raw_entry e =
      ap (λ (j : ℕ). raw_tree (take j t)) (add-one c.i) ∙ ap raw_tree (take-suc t c.i blank u) ∙ sym (raw_snoc (take c.i t) e) in
      record {
        i = c.i + 1;
        walked = walk_more c.walked r h m.next;
        long = omega (arith, ap length next, length-append (raw_tree (take c.i t)) (raw_entry e), entry_long e, (here w b c.i r u).wide, octal_length e.mode, m.word, c.long);
      }

  pub cut_part : k ≤ length b → Part w b (take k b) (drop k b) n
  cut_part h =
      let t = unpack w b in
      let xs = take c.i t in
      let ys = drop c.i t in
      let s : t ≡ xs ++ ys = sym (take-append-drop c.i t) in
      let whole : b ≡ packed_all xs ++ packed_all ys = r.bytes ∙ ap packed_all s ∙ packed_append xs ys in
      let f = packs w xs (take k b) (ap (take k) whole ∙ take_at (packed_all xs) (packed_all ys) k (sym c.walked.is)) (good_take w t c.i r.good) in
      let o = packs w ys (drop k b) (ap (drop k) whole ∙ drop_at (packed_all xs) (packed_all ys) k (sym c.walked.is)) (good_drop w t c.i r.good) in
      record {
        whole = sym (take-append-drop k b);
        first = f.1;
        others = o.1;
        raw = ap raw_tree s ∙ raw_append xs ys ∙ ap₂ (λ (x y : Bytes). x ++ y) (ap raw_tree (sym f.0)) (ap raw_tree (sym o.0));
        long = omega (arith, ap (λ (x : Tree). length (raw_tree x)) f.0, c.long);
      }

-- a first part grows: `first_part` has come to the byte k, and the raw form takes at most n
pub record Parting (w : ℕ) (b : Bytes) (k n : ℕ) : Type 0 where
  pub cut : Cut w b k n
  pub within : k ≤ length b
  pub few : n ≤ 512
  pub first : k ≡ 0 → n ≡ 0

pub part_begin : (w : ℕ) (b : Bytes) → Parting w b 0 0
part_begin w b = record { cut = cut_begin w b; within = omega arith; few = omega arith; first = λ e. refl }

module _ {w : ℕ} {b : Bytes} {k n : ℕ} (p : Parting w b k n) (r : Run w b) where
  pub part_more : k < length b → n + 8 + get_or b (k + 1) 0 + w ≤ 512 → Parting w b (k + 2 + w + get_or b (k + 1) 0) (n + 8 + get_or b (k + 1) 0 + w)
  part_more h l =
      let e : n + (8 + get_or b (k + 1) 0 + w) ≡ n + 8 + get_or b (k + 1) 0 + w = omega arith in
      record {
        cut = subst (λ (m : ℕ). Cut w b (k + 2 + w + get_or b (k + 1) 0) m) e (cut_more p.cut r h);
        within = cut_room p.cut r h;
        few = l;
        first = λ z. absurd (omega (arith, z));
      }

  pub part_end : 0 < k → (0 < k) × (k ≤ length b) × Part w b (take k b) (drop k b) 512
  part_end h =
      let q = cut_part p.cut r p.within in
      (h, p.within, record { whole = q.whole; first = q.first; others = q.others; raw = q.raw; long = omega (arith, q.long, p.few) })

-- where the next entry does not fit, it is not the first
pub some_taken : {w : ℕ} {b : Bytes} {k n m : ℕ} → Parting w b k n → w ≤ 64 → m < 256 → 512 < n + 8 + m + w → 0 < k
some_taken {w} {b} {k} {n} {m} p a c l = go k refl
  where
    go : (i : ℕ) → k ≡ i → 0 < k
    go zero e = absurd (omega (arith, p.first e))
    go (suc i) e = omega (arith, e)
