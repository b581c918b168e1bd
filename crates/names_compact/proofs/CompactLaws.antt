-- Laws of trees in compact form: an entry and its place are read off what the run is the packed form of. Assumes nothing.
use mathlib.Core.Path.{◌≡◌, refl, sym, ap, ◌∙◌}
use mathlib.Core.Bool.{Bool, true, false, not, ◌&&◌}
use mathlib.Core.List.{[], ◌∷◌, ◌++◌, append_assoc, append-nil}
use Prim.Native.Nat.{ℕ, zero, suc, ◌+◌, ◌*◌, ◌≤◌, ◌<◌}
use native.Mathlib.Omega.{arith}
use native.Mathlib.Nat.{suc-mul}
use lib.Dec.{eqb, leb, ltb}
use borrow.Author.Tests.{eqb-true, ltb-true, ltb-false, leb-true}
use native.Mathlib.Numerals.{add-one}
use lib.ListN.{length, take, drop, get_or, length-append}
use lib.Seq.{take_at, drop_at, get_or_at, split_at, drop-cons, take-suc, take-length}
use Rattle.model.proofs.Basics.{and_left, and_right}
use Rattle.model.specs.Bytes.{Bytes, has, is_nil}
use Rattle.model.specs.Tree.{Mode, TREE, BLOB, EXEC, LINK, COMMIT, is_tree, Entry, Tree, good_name, good_entries, name_bytes}
use Rattle.names.specs.Check.{Wide}
use Rattle.names_compact.specs.Compact.{kind_of, mode_at, packed, packed_all, unpack_in, unpack, Run, offset, blank, entry_at}

pub mode_kind : (m : Mode) → mode_at (kind_of m) ≡ m
unfolding mode_at kind_of
mode_kind TREE = refl
mode_kind BLOB = refl
mode_kind EXEC = refl
mode_kind LINK = refl
mode_kind COMMIT = refl

pub mode_high : (k : ℕ) → 4 ≤ k → COMMIT ≡ mode_at k
unfolding mode_at
mode_high zero h = absurd (omega arith)
mode_high (suc zero) h = absurd (omega arith)
mode_high (suc (suc zero)) h = absurd (omega arith)
mode_high (suc (suc (suc zero))) h = absurd (omega arith)
mode_high (suc (suc (suc (suc k)))) h = refl

pub name_short : (n : Bytes) → good_name n ≡ true → length n ≤ 255
unfolding good_name
name_short n e =
    let a : (not (is_nil n) && leb (length n) 255 && not (has 47 n)) ≡ true = and_left (not (is_nil n) && leb (length n) 255 && not (has 47 n)) (not (has 0 n)) e in
    let b : (not (is_nil n) && leb (length n) 255) ≡ true = and_left (not (is_nil n) && leb (length n) 255) (not (has 47 n)) a in
    leb-true (length n) 255 (and_right (not (is_nil n)) (leb (length n) 255) b)

pub wide_good : (w : ℕ) (t : Tree) → good_entries w t ≡ true → Wide w t
wide_good w [] g = tt
wide_good w (e ∷ es) g = (
  eqb-true (length e.id) w (and_right (good_name e.name) (eqb (length e.id) w) (and_left (good_name e.name && eqb (length e.id) w) (good_entries w es) g)),
  wide_good w es (and_right (good_name e.name && eqb (length e.id) w) (good_entries w es) g),
)

pub packed_length : (w : ℕ) (e : Entry) → length e.id ≡ w → length (packed e) ≡ 2 + w + length e.name
packed_length w e h = omega (arith, length-append e.id e.name)

pub packed_append : (s t : Tree) → packed_all (s ++ t) ≡ packed_all s ++ packed_all t
unfolding packed_all
packed_append [] t = refl
packed_append (e ∷ es) t = ap (λ (l : Bytes). packed e ++ l) (packed_append es t) ∙ sym (append_assoc (packed e) (packed_all es) (packed_all t))

-- the room that a tree takes
pub packed_room : (w : ℕ) (t : Tree) → Wide w t → length (packed_all t) ≡ length t * (2 + w) + name_bytes t
unfolding packed_all
packed_room w [] n = omega arith
packed_room w (e ∷ es) (h, u) =
    let ih : length (packed_all es) ≡ length es * (2 + w) + name_bytes es = packed_room w es u in
    let q : suc (length es) * (2 + w) ≡ length es * (2 + w) + (2 + w) = suc-mul (length es) (2 + w) in
    omega (arith, length-append (packed e) (packed_all es), packed_length w e h)

unpacked_in : (n w : ℕ) (t : Tree) → Wide w t → length (packed_all t) ≤ n → unpack_in n w (packed_all t) ≡ t
unfolding unpack_in packed_all
unpacked_in zero w [] u h = refl
unpacked_in (suc n) w [] u h = refl
unpacked_in zero w (e ∷ es) (i, u) h = absurd (omega arith)
unpacked_in (suc n) w (e ∷ es) (i, u) h =
    let split : (e.id ++ e.name) ++ packed_all es ≡ e.id ++ (e.name ++ packed_all es) = append_assoc e.id e.name (packed_all es) in
    let a : take w ((e.id ++ e.name) ++ packed_all es) ≡ e.id = ap (take w) split ∙ take_at e.id (e.name ++ packed_all es) w i in
    let b : drop w ((e.id ++ e.name) ++ packed_all es) ≡ e.name ++ packed_all es = ap (drop w) split ∙ drop_at e.id (e.name ++ packed_all es) w i in
    let c : take (length e.name) (drop w ((e.id ++ e.name) ++ packed_all es)) ≡ e.name = ap (take (length e.name)) b ∙ take_at e.name (packed_all es) (length e.name) refl in
    let d : drop (w + length e.name) ((e.id ++ e.name) ++ packed_all es) ≡ packed_all es = drop_at (e.id ++ e.name) (packed_all es) (w + length e.name) (omega (arith, length-append e.id e.name)) in
    let k : length (packed_all es) ≤ n = omega (arith, length-append (e.id ++ e.name) (packed_all es)) in
    rw (mode_kind e.mode, a, c, d) (ap (λ (l : Tree). e ∷ l) (unpacked_in n w es u k))

-- a run that is the packed form of a tree holds this tree
pub unpacked : (w : ℕ) (t : Tree) → Wide w t → unpack w (packed_all t) ≡ t
unfolding unpack
unpacked w t u = unpacked_in (length (packed_all t)) w t u (omega arith)

-- ---- an entry where it lies

pub record Here (w : ℕ) (b : Bytes) (i : ℕ) : Type 0 where
  pub kind : get_or b (offset w b i) 0 ≡ kind_of (entry_at w b i).mode
  pub word : get_or b (offset w b i + 1) 0 ≡ length (entry_at w b i).name
  pub id : take w (drop (offset w b i + 2) b) ≡ (entry_at w b i).id
  pub text : take (length (entry_at w b i).name) (drop (offset w b i + 2 + w) b) ≡ (entry_at w b i).name
  pub room : offset w b i + 2 + w + length (entry_at w b i).name ≤ length b
  pub next : offset w b (i + 1) ≡ offset w b i + 2 + w + length (entry_at w b i).name
  pub wide : length (entry_at w b i).id ≡ w

wide_at : (w : ℕ) (t : Tree) (i : ℕ) → Wide w t → i < length t → length (get_or t i blank).id ≡ w
wide_at w [] i u h = absurd (omega arith)
wide_at w (e ∷ es) zero (q, u) h = q
wide_at w (e ∷ es) (suc i) (q, u) h = wide_at w es i u (omega arith)

pub packed_one : (e : Entry) → packed_all (e ∷ []) ≡ packed e
unfolding packed_all
packed_one e = append-nil (packed e)

pub packed_cons : (e : Entry) (t : Tree) → packed_all (e ∷ t) ≡ packed e ++ packed_all t
unfolding packed_all
packed_cons e t = refl

pub split_run : (w : ℕ) (b : Bytes) (i : ℕ) → Run w b → i < length (unpack w b) → b ≡ packed_all (take i (unpack w b)) ++ (packed (entry_at w b i) ++ packed_all (drop (suc i) (unpack w b)))
split_run w b i r h =
    r.bytes ∙ ap packed_all (split_at (unpack w b) i blank h) ∙ packed_append (take i (unpack w b)) (entry_at w b i ∷ drop (suc i) (unpack w b))
    ∙ ap (λ (l : Bytes). packed_all (take i (unpack w b)) ++ l) (packed_cons (entry_at w b i) (drop (suc i) (unpack w b)))

pub offset_next : (w : ℕ) (b : Bytes) (i : ℕ) → Run w b → i < length (unpack w b) → offset w b (i + 1) ≡ offset w b i + 2 + w + length (entry_at w b i).name
offset_next w b i r h =
    let t = unpack w b in
    let e = entry_at w b i in
    let q : offset w b (i + 1) ≡ length (packed_all (take i t) ++ packed e) =
    ap (λ (n : ℕ). length (packed_all (take n t))) (add-one i) ∙ ap (λ (l : Tree). length (packed_all l)) (take-suc t i blank h)
    ∙ ap length (packed_append (take i t) (e ∷ []) ∙ ap (λ (l : Bytes). packed_all (take i t) ++ l) (packed_one e)) in
    omega (arith, q, length-append (packed_all (take i t)) (packed e), packed_length w e (wide_at w t i (wide_good w t r.good) h))

pub here : (w : ℕ) (b : Bytes) (i : ℕ) → Run w b → i < length (unpack w b) → Here w b i
here w b i r h =
    let t = unpack w b in
    let e = entry_at w b i in
    let p = packed_all (take i t) in
    let z = packed_all (drop (suc i) t) in
    let k = kind_of e.mode in
    let n = length e.name in
    let wide : length e.id ≡ w = wide_at w t i (wide_good w t r.good) h in
    let now : b ≡ p ++ (packed e ++ z) = split_run w b i r h in
    let one : b ≡ (p ++ (k ∷ [])) ++ (n ∷ (e.id ++ e.name ++ z)) = now ∙ simp append_assoc in
    let two : b ≡ (p ++ (k ∷ n ∷ [])) ++ (e.id ++ (e.name ++ z)) = now ∙ simp append_assoc in
    let three : b ≡ (p ++ (k ∷ n ∷ []) ++ e.id) ++ (e.name ++ z) = now ∙ simp append_assoc in
    let l1 : length (p ++ (k ∷ [])) ≡ length p + 1 = length-append p (k ∷ []) in
    let l2 : length (p ++ (k ∷ n ∷ [])) ≡ length p + 2 = length-append p (k ∷ n ∷ []) in
    let l3 : length (p ++ (k ∷ n ∷ []) ++ e.id) ≡ length p + 2 + w = omega (arith, length-append (p ++ (k ∷ n ∷ [])) e.id) in
    record {
      kind = ap (λ (y : Bytes). get_or y (length p) 0) now ∙ get_or_at p k _ 0 (length p) refl;
      word = ap (λ (y : Bytes). get_or y (length p + 1) 0) one ∙ get_or_at (p ++ (k ∷ [])) n _ 0 (length p + 1) l1;
      id = ap (λ (y : Bytes). take w (drop (length p + 2) y)) two ∙ ap (take w) (drop_at (p ++ (k ∷ n ∷ [])) (e.id ++ (e.name ++ z)) (length p + 2) l2) ∙ take_at e.id (e.name ++ z) w wide;
      text = ap (λ (y : Bytes). take n (drop (length p + 2 + w) y)) three ∙ ap (take n) (drop_at (p ++ (k ∷ n ∷ []) ++ e.id) (e.name ++ z) (length p + 2 + w) l3) ∙ take_at e.name z n refl;
      room = omega (arith, ap length now, length-append p (packed e ++ z), length-append (packed e) z, packed_length w e wide);
      next = offset_next w b i r h;
      wide = wide;
    }

-- at the end of the bytes all entries are counted
pub offset_end : (w : ℕ) (b : Bytes) (n : ℕ) → Run w b → n ≤ length (unpack w b) → length b ≤ offset w b n → n ≡ length (unpack w b)
offset_end w b n r h g = go (ltb n (length (unpack w b))) refl
  where
    go : (t : Bool) → ltb n (length (unpack w b)) ≡ t → n ≡ length (unpack w b)
    go true e = let x = here w b n r (ltb-true n (length (unpack w b)) e) in absurd (omega (arith, x.room))
    go false e = omega (arith, ltb-false n (length (unpack w b)) e)

pub offset_before : (w : ℕ) (b : Bytes) (n : ℕ) → Run w b → n ≤ length (unpack w b) → offset w b n < length b → n < length (unpack w b)
offset_before w b n r h g = go (ltb n (length (unpack w b))) refl
  where
    go : (t : Bool) → ltb n (length (unpack w b)) ≡ t → n < length (unpack w b)
    go true e = ltb-true n (length (unpack w b)) e
    go false e =
        let q : length (unpack w b) ≡ n = omega (arith, ltb-false n (length (unpack w b)) e) in
        absurd (omega (arith, ap (λ (x : ℕ). offset w b x) (sym q), ap (λ (l : Tree). length (packed_all l)) (take-length (unpack w b)), ap length r.bytes))

pub offset_zero : (w : ℕ) (b : Bytes) → offset w b 0 ≡ 0
unfolding packed_all
offset_zero w b = refl

-- the same at a place that is known to be the entry's
pub record Mark (w : ℕ) (b : Bytes) (i a : ℕ) : Type 0 where
  pub kind : get_or b a 0 ≡ kind_of (entry_at w b i).mode
  pub word : get_or b (a + 1) 0 ≡ length (entry_at w b i).name
  pub room : a + 2 + w + get_or b (a + 1) 0 ≤ length b
  pub next : a + 2 + w + get_or b (a + 1) 0 ≡ offset w b (i + 1)
  pub text : take (get_or b (a + 1) 0) (drop (a + 2 + w) b) ≡ (entry_at w b i).name
  pub id : take w (drop (a + 2) b) ≡ (entry_at w b i).id

pub mark : (w : ℕ) (b : Bytes) (i a : ℕ) → Run w b → a ≡ offset w b i → i < length (unpack w b) → Mark w b i a
mark w b i a r e h =
    let x = here w b i r h in
    let n : get_or b (a + 1) 0 ≡ length (entry_at w b i).name = ap (λ (z : ℕ). get_or b (z + 1) 0) e ∙ x.word in
    record {
      kind = ap (λ (z : ℕ). get_or b z 0) e ∙ x.kind;
      word = n;
      room = omega (arith, x.room, n, e);
      next = omega (arith, x.next, n, e);
      text = ap (λ (z : ℕ). take z (drop (a + 2 + w) b)) n ∙ ap (λ (z : ℕ). take (length (entry_at w b i).name) (drop (z + 2 + w) b)) e ∙ x.text;
      id = ap (λ (z : ℕ). take w (drop (z + 2) b)) e ∙ x.id;
    }

-- a walk over the entries has come to the entry n, at a
pub record Walked (w : ℕ) (b : Bytes) (n a : ℕ) : Type 0 where
  pub is : a ≡ offset w b n
  pub within : n ≤ length (unpack w b)
  pub small : n ≤ a

pub walk_begin : (w : ℕ) (b : Bytes) → Walked w b 0 0
walk_begin w b = record { is = sym (offset_zero w b); within = omega arith; small = omega arith }

module _ {w : ℕ} {b : Bytes} {n a : ℕ} (k : Walked w b n a) (r : Run w b) where
  module _ (h : a < length b) where
    pub walk_in : n < length (unpack w b)
    walk_in = offset_before w b n r k.within (omega (arith, k.is))

    -- the entry at hand
    pub walk_at : Mark w b n a
    walk_at = mark w b n a r k.is walk_in

    pub walk_more : {c : ℕ} → c ≡ offset w b (n + 1) → Walked w b (n + 1) c
    walk_more e = record { is = e; within = omega (arith, walk_in); small = omega (arith, k.small, walk_at.next) }

pub zero_tree : (m : Mode) → eqb (kind_of m) 0 ≡ is_tree m
unfolding kind_of is_tree
zero_tree TREE = refl
zero_tree BLOB = refl
zero_tree EXEC = refl
zero_tree LINK = refl
zero_tree COMMIT = refl

-- a run without bytes holds nothing
pub run_empty : (w : ℕ) (b : Bytes) → length b ≡ 0 → unpack w b ≡ []
unfolding unpack unpack_in
run_empty w [] e = refl
run_empty w (x ∷ b) e = absurd (omega arith)

-- the first entry of a run, and the run of the others
module _ (w : ℕ) (b : Bytes) (r : Run w b) (h : 0 < length b) where
  run_some : 0 < length (unpack w b)
  run_some = offset_before w b 0 r (omega arith) (omega (arith, offset_zero w b))

  pub run_begins : (0 ≡ offset w b 0) × (0 < length (unpack w b))
  run_begins = (sym (offset_zero w b), run_some)

  abbrev others : Tree
  others = drop 1 (unpack w b)

  first_others : unpack w b ≡ entry_at w b 0 ∷ others
  first_others = drop-cons (unpack w b) 0 blank run_some

  others_good : good_entries w others ≡ true
  others_good =
      let g : good_entries w (entry_at w b 0 ∷ others) ≡ true = ap (good_entries w) (sym first_others) ∙ r.good in
      and_right (good_name (entry_at w b 0).name && eqb (length (entry_at w b 0).id) w) (good_entries w others) g

  module _ {next : ℕ} (en : next ≡ offset w b (0 + 1)) where
    others_packed : drop next b ≡ packed_all others
    others_packed =
        let x = here w b 0 r run_some in
        let e = entry_at w b 0 in
        let now : b ≡ packed e ++ packed_all others = r.bytes ∙ ap packed_all first_others ∙ packed_cons e others in
        ap (drop next) now ∙ drop_at (packed e) (packed_all others) next (omega (arith, en, x.next, offset_zero w b, packed_length w e x.wide))

    module _ {d : Bytes} (ed : d ≡ drop next b) where
      others_held : unpack w d ≡ others
      others_held = ap (unpack w) (ed ∙ others_packed) ∙ unpacked w others (wide_good w others others_good)

      pub run_others : Run w d
      run_others = record { bytes = ed ∙ others_packed ∙ ap packed_all (sym others_held); good = ap (good_entries w) others_held ∙ others_good }

      pub run_first : unpack w b ≡ entry_at w b 0 ∷ unpack w d
      run_first = first_others ∙ ap (λ (t : Tree). entry_at w b 0 ∷ t) (sym others_held)
