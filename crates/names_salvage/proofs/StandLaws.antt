-- Laws of an entry of the table: the bytes from its name's place on are the name, a NUL and the rest, so what a good name shares with them it shares with the name. Assumes nothing.
use Prim.Native.Nat.{Ordering}
use Prim.Native.Nat.{ℕ, zero, suc, ◌+◌, ◌/◌, ◌%◌, ◌≤◌, ◌<◌}
use mathlib.Core.Path.{◌≡◌, refl, sym, ap, ap₂, ◌∙◌, subst}
use mathlib.Core.Bool.{Bool, true, false, cond, true≢false}
use mathlib.Core.List.{List, [], ◌∷◌, ◌++◌, append_assoc}
use native.Mathlib.Omega.{arith}
use lib.Dec.{leb, ltb, eqb}
use borrow.Author.Tests.{eq-eqb, ne_eqb, leb-true, leb-false, ltb-true, ltb-false, eqb-true, eqb-false}
use lib.ListN.{drop_of_length-le, length, take, drop, get_or, length-append, length-drop, length-take, take-append-drop, get_or-eq_default, get_or-append}
use lib.Seq.{drop-drop, drop_at, take-length, take-append-le, take_all, append_snoc, get_or-append_seam, get_or-take}
use Rattle.model.specs.Bytes.{Bytes, cmp, same}
use Rattle.model.specs.Raw.{octal, raw_entry}
use Rattle.model.specs.Tree.{Mode, TREE, BLOB, EXEC, LINK, COMMIT, is_tree, Entry, Tree, as_kind, key, good_name}
use Rattle.model.proofs.ByteLaws.{same_of, same_eq}
use Rattle.model.proofs.MapLaws.{turned_round, cmp_refl, cmp_turn}
use Rattle.names.specs.Check.{Shares, plain}
use Rattle.names.proofs.OrderLaws.{in_name_lem, ends_left, ends_right, byte_less, byte_more}
use Rattle.names.proofs.StandingLaws.{plain_append, plain_front, plain_begin, plain_slash, plain_nul, good_plain, shares_compare}
use Rattle.names.specs.Answers.{as_ordering}
use Rattle.std.specs.Ordering.{nat_cmp}
use Rattle.std.specs.declared.cmp.Ordering.TheVariants.{Less, Equal, Greater}
use Rattle.names_compact.specs.Compact.{blank, begun}
use Rattle.names_compact.proofs.TwinLaws.{begun_at_lem}
use Rattle.names_salvage.specs.Answers.{Stands, empty, Lists}
use Rattle.names_salvage.specs.declared.table.Slot.{Slot}
use Rattle.names_salvage.specs.Slots.{shared_of, order_byte, slot_order}

-- no byte of a plain name is a slash or NUL
plain_rest : (n : Bytes) (i : ℕ) → plain n ≡ true → plain (drop i n) ≡ true
plain_rest n i h =
    let q : plain (take i n ++ drop i n) ≡ true = ap plain (take-append-drop i n) ∙ h in
    sym (plain_append (take i n) (drop i n) (plain_front (take i n) (drop i n) q)) ∙ q

pub not_nul : (n : Bytes) (i : ℕ) → plain n ≡ true → i < length n → get_or n i 0 ≡ 0 → ⊥
not_nul n i p h e = true≢false (sym (plain_rest n i p) ∙ sym (plain_nul (plain_begin n i) h e))

not_slash : (n : Bytes) (i : ℕ) → plain n ≡ true → i < length n → get_or n i 0 ≡ 47 → ⊥
not_slash n i p h e = true≢false (sym (plain_rest n i p) ∙ sym (plain_slash (plain_begin n i) h e))

-- a plain name shares nothing with a NUL and what is behind it
past_nul : (n m r : Bytes) (i : ℕ) → plain n ≡ true → Shares n (m ++ (0 ∷ r)) i → length m < i → ⊥
past_nul n m r i p s h =
    not_nul n (length m) p (omega (arith, s.left))
    (sym (get_or-take i n (length m) 0 h) ∙ ap (λ (l : Bytes). get_or l (length m) 0) s.alike ∙ get_or-take i (m ++ (0 ∷ r)) (length m) 0 h ∙ get_or-append_seam m 0 r 0)

few : (n m r : Bytes) (i : ℕ) → plain n ≡ true → Shares n (m ++ (0 ∷ r)) i → i ≤ length m
few n m r i p s = go (leb i (length m)) refl
  where
    go : (t : Bool) → leb i (length m) ≡ t → i ≤ length m
    go true e = leb-true i (length m) e
    go false e = absurd (past_nul n m r i p s (leb-false i (length m) e))

pub shared_name : (n m r : Bytes) (i : ℕ) → plain n ≡ true → Shares n (m ++ (0 ∷ r)) i → Shares n m i
shared_name n m r i p s =
    let h : i ≤ length m = few n m r i p s in
    record {
      left = s.left;
      right = h;
      alike = s.alike ∙ take-append-le i m (0 ∷ r) h;
      stop = λ g f e. s.stop g (omega (arith, length-append m (0 ∷ r))) (e ∙ sym (get_or-append m (0 ∷ r) 0 i f));
    }

-- the byte at the end of a name where its order is taken
pub key_in : (n : Bytes) (b : Bool) (i : ℕ) → i < length n → get_or n i 0 ≡ get_or (as_kind b n) i 0
key_in n b i h = in_name_lem n b i h

pub key_end : (n : Bytes) (b : Bool) (i : ℕ) → i ≤ length n → length n ≤ i → get_or (as_kind b n) i 0 ≡ cond b 47 0
key_end n true i h g =
    let q : i ≡ length n = omega arith in
    rw q (get_or-append_seam n 47 [] 0)
key_end n false i h g = get_or-eq_default n 0 g

-- the first bytes that differ where the order is taken decide, with 0 at the end of a name; where none do the names are the same
module _ {n m : Bytes} {i : ℕ} (s : Shares n m i) (p : plain n ≡ true) (q : plain m ≡ true) (a b : Bool) {x y : ℕ} (ex : x ≡ get_or (as_kind a n) i 0) (ey : y ≡ get_or (as_kind b m) i 0) where
  abbrev k : Bytes
  k = as_kind a n

  abbrev l : Bytes
  l = as_kind b m

  reaches : (z : Bytes) (v : ℕ) → v ≡ get_or z i 0 → 0 < v → i < length z
  reaches z v e h = go (ltb i (length z)) refl
    where
      go : (t : Bool) → ltb i (length z) ≡ t → i < length z
      go true f = ltb-true i (length z) f
      go false f = absurd (omega (arith, e, get_or-eq_default z 0 (ltb-false i (length z) f)))

  pub lower_is : x < y → Ordering.lt ≡ cmp k l
  lower_is h = go (ltb i (length k)) refl
    where
      go : (t : Bool) → ltb i (length k) ≡ t → Ordering.lt ≡ cmp k l
      go true f = byte_less (shares_compare s a b) ex ey (ltb-true i (length k) f) (reaches l y ey (omega arith)) h
      go false f = ends_right (shares_compare s a b) (ltb-false i (length k) f) (reaches l y ey (omega arith))

  pub higher_is : y < x → Ordering.gt ≡ cmp k l
  higher_is h = go (ltb i (length l)) refl
    where
      go : (t : Bool) → ltb i (length l) ≡ t → Ordering.gt ≡ cmp k l
      go true f = byte_more (shares_compare s a b) ex ey (reaches k x ex (omega arith)) (ltb-true i (length l) f) h
      go false f = ends_left (shares_compare s a b) (reaches k x ex (omega arith)) (ltb-false i (length l) f)

-- the byte of a name is none that stands at an end
inner : (n : Bytes) (i : ℕ) (c : Bool) → plain n ≡ true → i < length n → get_or n i 0 ≡ cond c 47 0 → ⊥
inner n i true p h e = not_slash n i p h e
inner n i false p h e = not_nul n i p h e

slash_or_end : (a b : Bool) → ◌≡◌ {A = ℕ} (cond a 47 0) (cond b 47 0) → a ≡ b
slash_or_end true true e = refl
slash_or_end true false e = absurd (let z : ◌≡◌ {A = ℕ} 47 0 = e in omega arith)
slash_or_end false true e = absurd (let z : ◌≡◌ {A = ℕ} 0 47 = e in omega arith)
slash_or_end false false e = refl

pub same_is : {n m : Bytes} {i : ℕ} → Shares n m i → plain n ≡ true → plain m ≡ true → (a b : Bool) → get_or (as_kind a n) i 0 ≡ get_or (as_kind b m) i 0 → Ordering.eq ≡ cmp (as_kind a n) (as_kind b m)
same_is {n} {m} {i} s p q a b e = go (ltb i (length n)) refl (ltb i (length m)) refl
  where
    go : (t : Bool) → ltb i (length n) ≡ t → (u : Bool) → ltb i (length m) ≡ u → Ordering.eq ≡ cmp (as_kind a n) (as_kind b m)
    go true f true g =
        let h = ltb-true i (length n) f in
        let j = ltb-true i (length m) g in
        absurd (s.stop h j (key_in n a i h ∙ e ∙ sym (key_in m b i j)))
    go true f false g =
        let h = ltb-true i (length n) f in
        absurd (inner n i b p h (key_in n a i h ∙ e ∙ key_end m b i s.right (ltb-false i (length m) g)))
    go false f true g =
        let j = ltb-true i (length m) g in
        absurd (inner m i a q j (key_in m b i j ∙ sym e ∙ key_end n a i s.left (ltb-false i (length n) f)))
    go false f false g =
        let h = ltb-false i (length n) f in
        let j = ltb-false i (length m) g in
        let same_kind : a ≡ b = slash_or_end a b (sym (key_end n a i s.left h) ∙ e ∙ key_end m b i s.right j) in
        let same_name : n ≡ m = sym (take_all i n h) ∙ s.alike ∙ take_all i m j in
        sym (rw (same_kind, same_name) (cmp_refl (as_kind b m)))

-- a tree's text alone has five bytes
tree_text : (m : Mode) → eqb (length (octal m)) 5 ≡ is_tree m
unfolding octal is_tree
tree_text TREE = refl
tree_text BLOB = refl
tree_text EXEC = refl
tree_text LINK = refl
tree_text COMMIT = refl

-- the byte at a place where there is one, and where there is none or a NUL
byte_of_name : (n : Bytes) (b : Bool) (i : ℕ) {x : ℕ} → get_or n i 0 ≡ x → (x ≡ 0 → ⊥) → order_byte n b i ≡ x
byte_of_name n b i {x} q ne = rw (q, ne_eqb x 0 ne)

byte_behind : (n : Bytes) (b : Bool) (i : ℕ) → get_or n i 0 ≡ 0 → order_byte n b i ≡ cond b 47 0
byte_behind n b i q = rw q

byte_key : (n : Bytes) (b : Bool) (i : ℕ) → plain n ≡ true → i ≤ length n → order_byte n b i ≡ get_or (as_kind b n) i 0
byte_key n b i p h = go (ltb i (length n)) refl
  where
    go : (t : Bool) → ltb i (length n) ≡ t → order_byte n b i ≡ get_or (as_kind b n) i 0
    go true f = let g = ltb-true i (length n) f in byte_of_name n b i refl (not_nul n i p g) ∙ key_in n b i g
    go false f = let g = ltb-false i (length n) f in byte_behind n b i (get_or-eq_default n 0 g) ∙ sym (key_end n b i h g)

-- how many bytes two names begin with alike is one number
pub shares_of : (n m : Bytes) → Shares n m (shared_of n m)
unfolding shared_of
shares_of [] m = record { left = omega arith; right = omega arith; alike = refl; stop = λ g f e. absurd (omega arith) }
shares_of (x ∷ n) [] = record { left = omega arith; right = omega arith; alike = refl; stop = λ g f e. absurd (omega arith) }
shares_of (x ∷ n) (y ∷ m) = go (eqb x y) refl (shares_of n m)
  where
    go : (t : Bool) → eqb x y ≡ t → Shares n m (shared_of n m) → Shares (x ∷ n) (y ∷ m) (cond t (suc (shared_of n m)) 0)
    go true e s =
        record {
          left = omega (arith, s.left);
          right = omega (arith, s.right);
          alike = ap₂ (λ (z : ℕ) (l : Bytes). z ∷ l) (eqb-true x y e) s.alike;
          stop = λ g f q. s.stop (omega arith) (omega arith) q;
        }
    go false e s = record { left = omega arith; right = omega arith; alike = refl; stop = λ g f q. eqb-false x y e q }

pub shares_is : (n m : Bytes) (i : ℕ) → Shares n m i → i ≡ shared_of n m
unfolding shared_of
shares_is [] m i s = omega (arith, s.left)
shares_is (x ∷ n) [] i s = omega (arith, s.right)
shares_is (x ∷ n) (y ∷ m) zero s = sym (rw (ne_eqb x y (s.stop (omega arith) (omega arith))))
shares_is (x ∷ n) (y ∷ m) (suc i) s =
    let q : x ≡ y = cc (s.alike) in
    let r : take i n ≡ take i m = cc (s.alike) in
    let l = s.left in
    let k = s.right in
    rw (eq-eqb x y q) (ap suc (shares_is n m i (record { left = omega arith; right = omega arith; alike = r; stop = λ g f e. s.stop (omega arith) (omega arith) e })))

-- the order of a slot, from what is read of it
pub slot_order_is : (raw n : Bytes) (a : Bool) (v : ℕ) {there : Bytes} {i x y : ℕ} → there ≡ drop (v / 8) raw → Shares n there i → y ≡ order_byte there (eqb (v % 8) 5) i → x ≡ order_byte n a i → nat_cmp y x ≡ slot_order raw n a v
unfolding slot_order
slot_order_is raw n a v {there} {i} et s ey ex = rw (ex, ey, shares_is n there i s, et)

-- where an entry's parts stand
module _ {raw : Bytes} {v : ℕ} {e : Entry} (st : Stands raw v e) where
  pub entry_bytes : drop st.at raw ≡ octal e.mode ++ (32 ∷ (e.name ++ (0 ∷ (e.id ++ st.rest))))
  unfolding raw_entry
  entry_bytes =
      st.bytes ∙ append_assoc (octal e.mode) (32 ∷ e.name ++ (0 ∷ e.id)) st.rest
      ∙ ap (λ (l : Bytes). octal e.mode ++ (32 ∷ l)) (append_assoc e.name (0 ∷ e.id) st.rest)

  pub name_there : drop (v / 8) raw ≡ e.name ++ (0 ∷ (e.id ++ st.rest))
  name_there =
      let o = octal e.mode in
      let q : v / 8 ≡ st.at + (length o + 1) = omega (arith, st.start, st.text) in
      let r : length (o ++ (32 ∷ [])) ≡ length o + 1 = length-append o (32 ∷ []) in
      ap (λ (j : ℕ). drop j raw) q ∙ sym (drop-drop (length o + 1) st.at raw) ∙ ap (drop (length o + 1)) (entry_bytes ∙ sym (append_snoc o 32 (e.name ++ (0 ∷ (e.id ++ st.rest)))))
      ∙ drop_at (o ++ (32 ∷ [])) (e.name ++ (0 ∷ (e.id ++ st.rest))) (length o + 1) r

  -- the last byte of the entry lies within the bytes
  pub name_within : v / 8 + length e.name < length raw
  name_within =
      omega (arith, sym (length-drop (v / 8) raw) ∙ ap length name_there, length-append e.name (0 ∷ (e.id ++ st.rest)))

  name_plain : plain e.name ≡ true
  name_plain = good_plain e.name st.good

  -- the byte at i, and behind the name what its mode says
  byte_there : (i : ℕ) → i ≤ length e.name → order_byte (drop (v / 8) raw) (eqb (v % 8) 5) i ≡ get_or (key e) i 0
  byte_there i h = go (ltb i (length e.name)) refl
    where
      kind : eqb (v % 8) 5 ≡ is_tree e.mode
      kind = ap (λ (k : ℕ). eqb k 5) st.text ∙ tree_text e.mode

      go : (t : Bool) → ltb i (length e.name) ≡ t → order_byte (drop (v / 8) raw) (eqb (v % 8) 5) i ≡ get_or (key e) i 0
      go true f =
          let g = ltb-true i (length e.name) f in
          let q : get_or (drop (v / 8) raw) i 0 ≡ get_or e.name i 0 = ap (λ (l : Bytes). get_or l i 0) name_there ∙ get_or-append e.name (0 ∷ (e.id ++ st.rest)) 0 i g in
          byte_of_name (drop (v / 8) raw) (eqb (v % 8) 5) i q (not_nul e.name i name_plain g) ∙ key_in e.name (is_tree e.mode) i g
      go false f =
          let q : i ≡ length e.name = omega (arith, ltb-false i (length e.name) f) in
          byte_behind (drop (v / 8) raw) (eqb (v % 8) 5) i (ap (λ (l : Bytes). get_or l i 0) name_there ∙ rw q (get_or-append_seam e.name 0 (e.id ++ st.rest) 0)) ∙ ap (λ (b : Bool). cond b 47 0) kind
          ∙ sym (key_end e.name (is_tree e.mode) i h (ltb-false i (length e.name) f))

  -- what a good name shares with the bytes there
  module _ {n : Bytes} {i : ℕ} (g : good_name n ≡ true) {r : Bytes} (s : Shares n r i) (er : r ≡ drop (v / 8) raw) where
    pub shares_it : Shares n e.name i
    shares_it = shared_name n e.name (e.id ++ st.rest) i (good_plain n g) (subst (λ (l : Bytes). Shares n l i) (er ∙ name_there) s)

    pub within_it : i ≤ length e.name
    within_it = shares_it.right

    pub lower : (a : Bool) {x y : ℕ} → x ≡ get_or (as_kind a n) i 0 → y ≡ get_or (key e) i 0 → x < y → Ordering.lt ≡ cmp (as_kind a n) (key e)
    lower a ex ey h = lower_is shares_it (good_plain n g) name_plain a (is_tree e.mode) ex ey h

    pub higher : (a : Bool) {x y : ℕ} → x ≡ get_or (as_kind a n) i 0 → y ≡ get_or (key e) i 0 → y < x → Ordering.gt ≡ cmp (as_kind a n) (key e)
    higher a ex ey h = higher_is shares_it (good_plain n g) name_plain a (is_tree e.mode) ex ey h

    pub level : (a : Bool) {x y : ℕ} → x ≡ get_or (as_kind a n) i 0 → y ≡ get_or (key e) i 0 → y ≤ x → x ≤ y → Ordering.eq ≡ cmp (as_kind a n) (key e)
    level a {x} {y} ex ey h f =
        let q : x ≡ y = omega arith in
        same_is shares_it (good_plain n g) name_plain a (is_tree e.mode) (sym ex ∙ q ∙ ey)

    -- whether the name begins with n
    pub begins : (b : Bool) → b ≡ eqb i (length n) → b ≡ same (take (length n) e.name) n
    begins true q =
        let f : i ≡ length n = eqb-true i (length n) (sym q) in
        sym (same_of (take (length n) e.name) n (subst (λ (j : ℕ). take j e.name ≡ n) f (sym shares_it.alike ∙ ap (λ (j : ℕ). take j n) f ∙ take-length n)))
    begins false q = go (same (take (length n) e.name) n) refl
      where
        go : (t : Bool) → same (take (length n) e.name) n ≡ t → false ≡ t
        go false f = refl
        go true f =
            let w : take (length n) e.name ≡ n = same_eq (take (length n) e.name) n f in
            let long : length n ≤ length e.name = omega (arith, ap length w, length-take (length n) e.name) in
            let less : i < length n = omega (arith, shares_it.left, eqb-false i (length n) (sym q)) in
            absurd (shares_it.stop less (omega arith) (ap (λ (l : Bytes). get_or l i 0) (sym w) ∙ get_or-take (length n) e.name i 0 less))

  -- what the order of its slot says
  pub slot_says : (n : Bytes) → good_name n ≡ true → (a : Bool) → as_ordering (slot_order raw n a v) ≡ cmp (key e) (as_kind a n)
  unfolding slot_order
  slot_says n g a = go (ltb y x) refl (eqb y x) refl
    where
      there : Bytes
      there = drop (v / 8) raw

      i : ℕ
      i = shared_of n there

      s : Shares n there i
      s = shares_of n there

      x : ℕ
      x = order_byte n a i

      y : ℕ
      y = order_byte there (eqb (v % 8) 5) i

      ex : x ≡ get_or (as_kind a n) i 0
      ex = byte_key n a i (good_plain n g) s.left

      ey : y ≡ get_or (key e) i 0
      ey = byte_there i (within_it g s refl)

      turned : {o : Ordering} → o ≡ cmp (as_kind a n) (key e) → turned_round o ≡ cmp (key e) (as_kind a n)
      turned q = ap turned_round q ∙ sym (cmp_turn (as_kind a n) (key e))

      go : (p : Bool) → ltb y x ≡ p → (q : Bool) → eqb y x ≡ q → as_ordering (cond p Less (cond q Equal Greater)) ≡ cmp (key e) (as_kind a n)
      go true p q r = turned (higher g s refl a ex ey (ltb-true y x p))
      go false p true r =
          let z = eqb-true y x r in
          turned (level g s refl a ex ey (omega arith) (omega arith))
      go false p false r =
          let z = ltb-false y x p in
          let w = eqb-false y x r in
          turned (lower g s refl a ex ey (omega (arith, z, w)))

-- whether the entry at a place begins with a name, by its slot
module _ {raw : Bytes} {vs : List Slot} {t : Tree} (l : Lists raw vs t) (n : Bytes) (i : ℕ) where
  pub begun_by : good_name n ≡ true → i < length vs → (s : Slot) → s ≡ get_or vs i empty → {r : Bytes} {k : ℕ} → Shares n r k → r ≡ drop (s.word / 8) raw → eqb k (length n) ≡ begun n (drop i t)
  begun_by g h s q {r} {k} a e =
      let st : Stands raw s.word (get_or t i blank) = subst (λ (z : Slot). Stands raw z.word (get_or t i blank)) (sym q) (l.each i (omega (arith, l.many))) in
      begins st g a e (eqb k (length n)) refl ∙ begun_at_lem n t i (omega (arith, l.many))

  pub begun_past : length vs ≤ i → false ≡ begun n (drop i t)
  begun_past h = sym (ap (begun n) (drop_of_length-le t (let z : length t ≤ i = omega (arith, l.many) in z)))
