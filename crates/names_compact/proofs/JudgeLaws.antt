-- The entries found in bytes by their kinds and lengths are the tree that the bytes are the compact form of. Assumes nothing.
use Prim.Native.Nat.{ℕ, zero, suc, ◌+◌, ◌-◌, ◌≤◌, ◌<◌}
use mathlib.Core.Path.{◌≡◌, refl, sym, ap, ◌∙◌, subst}
use mathlib.Core.List.{[], ◌∷◌, ◌++◌, append_assoc}
use mathlib.Core.Option.{Option, none, some}
use mathlib.Core.Bool.{Bool, true, false, cond, ◌&&◌}
use native.Mathlib.Nat.{add-zero}
use native.Mathlib.Numerals.{add-one}
use native.Mathlib.Omega.{arith}
use lib.Dec.{eqb, leb, ltb}
use lib.ListN.{length, take, drop, get_or, length-append, length-drop, take-append-drop, drop_of_length-le}
use lib.Seq.{drop-drop, drop-cons, get_or-drop, take_at, drop_at, length-take-le}
use borrow.Author.Tests.{le-leb, lt-leb, leb-true, leb-false, lt-ltb, le-ltb, ltb-true, ne_eqb}
use Rattle.model.specs.Bytes.{Bytes, same}
use Rattle.model.specs.Tree.{Mode, TREE, BLOB, EXEC, LINK, COMMIT, is_tree, Entry, Tree, well_formed, name_bytes}
use Rattle.model.specs.Raw.{more, if_good}
use Rattle.model.proofs.Basics.{none_some, some_inj, and_false}
use Rattle.model.proofs.ByteLaws.{same_eq, same_refl}
use Rattle.model.proofs.RawLaws.{more_inv, well_entries}
use Rattle.names.specs.Check.{Wide, TreeSize, size_of}
use Rattle.names_compact.specs.Compact.{kind_of, mode_at, packed, packed_all, unpack, Run}
use Rattle.names_compact.specs.Judge.{end_at, end_as, entry_held, held_next, held_from, held_at, compact_tree}
use Rattle.names_compact.proofs.CompactLaws.{mode_kind, wide_good, unpacked}
use Rattle.std.specs.Prelude as code
use Rattle.std.specs.Prelude.{Some, None}
use Rattle.names.proofs.FitLaws.{Begins}

-- Where an entry ends.
module _ (b : Bytes) (w at : ℕ) where
  pub end_kind : 4 < get_or b at 0 → none ≡ end_at b w at
  unfolding end_at
  end_kind h = rw (le-ltb (get_or b at 0) 5 h)

  pub end_short : length b < at + 2 → none ≡ end_at b w at
  unfolding end_at
  end_short h = rw (lt-leb (at + 2) (length b) h, and_false (ltb (get_or b at 0) 5))

  pub end_far : length b < at + 2 + w + get_or b (at + 1) 0 → none ≡ end_at b w at
  unfolding end_at
  end_far h = rw (lt-leb (at + 2 + w + get_or b (at + 1) 0) (length b) h, and_false (ltb (get_or b at 0) 5 && leb (at + 2) (length b)))

  pub end_there : get_or b at 0 < 5 → at + 2 + w + get_or b (at + 1) 0 ≤ length b → some (at + 2 + w + get_or b (at + 1) 0) ≡ end_at b w at
  unfolding end_at
  end_there k h = rw (lt-ltb (get_or b at 0) 5 k, le-leb (at + 2) (length b) (omega arith), le-leb (at + 2 + w + get_or b (at + 1) 0) (length b) h)

  -- what is known of an entry that ends at next
  pub record Ends (next : ℕ) : Type 0 where
    pub kind : get_or b at 0 < 5
    pub is : next ≡ at + 2 + w + get_or b (at + 1) 0
    pub inside : next ≤ length b

  pub ends : {next : ℕ} → end_at b w at ≡ some next → Ends next
  unfolding end_at
  ends {next} e = go (ltb (get_or b at 0) 5) refl (leb (at + 2) (length b)) refl (leb (at + 2 + w + get_or b (at + 1) 0) (length b)) refl e
    where
      go : (x : Bool) → ltb (get_or b at 0) 5 ≡ x → (y : Bool) → leb (at + 2) (length b) ≡ y → (z : Bool) → leb (at + 2 + w + get_or b (at + 1) 0) (length b) ≡ z →
          cond (x && y && z) (some (at + 2 + w + get_or b (at + 1) 0)) none ≡ some next → Ends next
      go true p true q true r f =
          let i : next ≡ at + 2 + w + get_or b (at + 1) 0 = sym (some_inj _ next f) in
          record { kind = ltb-true (get_or b at 0) 5 p; is = i; inside = omega (arith, leb-true (at + 2 + w + get_or b (at + 1) 0) (length b) r) }
      go true p true q false r f = none_some next f
      go true p false q z r f = none_some next f
      go false p y q z r f = none_some next f

-- The entries from a place on.
module _ (b : Bytes) (w : ℕ) where
  -- enough is enough
  enough : (m n at : ℕ) → length b - at < m → length b - at < n → held_from m b w at ≡ held_from n b w at
  unfolding held_from
  enough zero n at h k = absurd (omega arith)
  enough (suc m) zero at h k = absurd (omega arith)
  enough (suc m) (suc n) at h k = ap (cond (leb (length b) at) (some [])) (go (λ next p q. enough m n next p q) (end_at b w at) refl)
    where
      go : ((next : ℕ) → length b - next < m → length b - next < n → held_from m b w next ≡ held_from n b w next) → (r : Option ℕ) → end_at b w at ≡ r →
          held_next b w at (end_at b w at) (held_from m b w) ≡ held_next b w at (end_at b w at) (held_from n b w)
      go ih none e = rw e
      go ih (some next) e =
          let x = ends b w at e in
          rw e (ap (more (entry_held b w at)) (ih next (omega arith) (omega arith)))

  module _ (at : ℕ) where
    pub held_end : length b ≤ at → held_at b w at ≡ some []
    unfolding held_at held_from
    held_end h = rw (le-leb (length b) at h)

    module _ (h : at < length b) where
      pub held_damaged : end_at b w at ≡ none → held_at b w at ≡ none
      unfolding held_at held_from
      held_damaged e = rw (lt-leb (length b) at h, e)

      pub held_entry : {next : ℕ} → end_at b w at ≡ some next → held_at b w at ≡ more (entry_held b w at) (held_at b w next)
      unfolding held_at held_from
      held_entry {next} e =
          let x = ends b w at e in
          rw (lt-leb (length b) at h, e) (ap (more (entry_held b w at)) (enough (length b - at) (suc (length b - next)) next (omega arith) (omega arith)))

-- From the bytes to their entries: what is found is what stands there.
pub kind_mode : (k : ℕ) → k < 5 → kind_of (mode_at k) ≡ k
unfolding kind_of mode_at
kind_mode zero h = refl
kind_mode (suc zero) h = refl
kind_mode (suc (suc zero)) h = refl
kind_mode (suc (suc (suc zero))) h = refl
kind_mode (suc (suc (suc (suc zero)))) h = refl
kind_mode (suc (suc (suc (suc (suc k))))) h = absurd (omega arith)

kind_few : (m : Mode) → kind_of m < 5
unfolding kind_of
kind_few TREE = omega arith
kind_few BLOB = omega arith
kind_few EXEC = omega arith
kind_few LINK = omega arith
kind_few COMMIT = omega arith

module _ (b : Bytes) (w at next : ℕ) (e : Ends b w at next) where
  name_whole : length (entry_held b w at).name ≡ get_or b (at + 1) 0
  name_whole =
      let x = e.is in
      length-take-le (get_or b (at + 1) 0) (drop (at + 2 + w) b) (rw (length-drop (at + 2 + w) b) (omega (arith, e.inside)))

  pub entry_wide : length (entry_held b w at).id ≡ w
  entry_wide =
      let x = e.is in
      length-take-le w (drop (at + 2) b) (rw (length-drop (at + 2) b) (omega (arith, e.inside)))

  split_drop : (n i : ℕ) → take n (drop i b) ++ drop (i + n) b ≡ drop i b
  split_drop n i = ap (λ (l : Bytes). take n (drop i b) ++ l) (sym (drop-drop n i b)) ∙ take-append-drop n (drop i b)

  pub entry_packed : packed (entry_held b w at) ++ drop next b ≡ drop at b
  entry_packed =
      let x = e.is in
      let i = e.inside in
      let p : drop at b ≡ get_or b at 0 ∷ drop (at + 1) b = drop-cons b at 0 (omega arith) ∙ rw (add-one at) in
      let two : suc (at + 1) ≡ at + 2 = omega arith in
      let q : drop (at + 1) b ≡ get_or b (at + 1) 0 ∷ drop (at + 2) b = drop-cons b (at + 1) 0 (omega arith) ∙ ap (λ (m : ℕ). get_or b (at + 1) 0 ∷ drop m b) two in
      let n = take (get_or b (at + 1) 0) (drop (at + 2 + w) b) in
      let r : (take w (drop (at + 2) b) ++ n) ++ drop next b ≡ drop (at + 2) b =
      append_assoc (take w (drop (at + 2) b)) n (drop next b)
      ∙ ap (λ (l : Bytes). take w (drop (at + 2) b) ++ l) (ap (λ (m : ℕ). n ++ drop m b) x ∙ split_drop (get_or b (at + 1) 0) (at + 2 + w)) ∙ split_drop w (at + 2) in
      rw (kind_mode (get_or b at 0) e.kind, name_whole, r) (sym (p ∙ ap (λ (l : Bytes). get_or b at 0 ∷ l) q))

-- a kind of 0 is a tree's
pub zero_is_tree : (k : ℕ) → eqb k 0 ≡ is_tree (mode_at k)
unfolding mode_at is_tree
zero_is_tree zero = refl
zero_is_tree (suc zero) = refl
zero_is_tree (suc (suc zero)) = refl
zero_is_tree (suc (suc (suc zero))) = refl
zero_is_tree (suc (suc (suc (suc k)))) = ne_eqb (suc (suc (suc (suc k)))) 0 (λ q. omega arith)

-- what a reading of an entry tells
module _ (b : Bytes) (w at : ℕ) {r : code.Option ℕ} (er : end_as r ≡ end_at b w at) where
  pub read_damaged : at < length b → r ≡ None → held_at b w at ≡ none
  read_damaged h e = held_damaged b w at h (sym er ∙ ap end_as e)

  pub read_whole : {next : ℕ} → r ≡ Some next → end_at b w at ≡ some next
  read_whole e = sym er ∙ ap end_as e

  -- nothing more is read: there is no more, or it is no entry
  pub read_none : r ≡ None → (t : Tree) → held_at b w at ≡ some t → (t ≡ []) × (length b ≤ at)
  read_none e t h = go (leb (length b) at) refl
    where
      go : (q : Bool) → leb (length b) at ≡ q → (t ≡ []) × (length b ≤ at)
      go true q = (some_inj t [] (sym h ∙ held_end b w at (leb-true _ _ q)), leb-true _ _ q)
      go false q = none_some t (sym (read_damaged (leb-false _ _ q) e) ∙ h)

module _ (b : Bytes) (w at : ℕ) {next : ℕ} (e : end_at b w at ≡ some next) where
  pub whole_begins : Begins (held_at b w at) (entry_held b w at) (held_at b w next)
  whole_begins =
      let x = ends b w at e in
      record { is = held_entry b w at (omega (arith, x.is, x.inside)) e }

  pub whole_name : take (next - (at + 2 + w)) (drop (at + 2 + w) b) ≡ (entry_held b w at).name
  whole_name =
      let x = ends b w at e in
      let l : next - (at + 2 + w) ≡ get_or b (at + 1) 0 = omega (arith, x.is) in
      rw l

  module _ {name : Bytes} (en : name ≡ (entry_held b w at).name) where
    pub whole_reach : at + length name < next
    whole_reach =
        let x = ends b w at e in
        omega (arith, ap length en, name_whole b w at next x, x.is)

    pub whole_short : ((i : ℕ) → get_or b i 0 < 256) → length name ≤ 255
    whole_short low =
        let x = ends b w at e in
        omega (arith, ap length en, name_whole b w at next x, low (at + 1))

from_bytes : (most : ℕ) (b : Bytes) (w at : ℕ) (t : Tree) → held_from most b w at ≡ some t → (packed_all t ≡ drop at b) × Wide w t
unfolding held_from packed_all
from_bytes zero b w at t q = none_some t q
from_bytes (suc most) b w at t q = go (from_bytes most b w) (leb (length b) at) refl (end_at b w at) refl q
  where
    go : ((next : ℕ) (s : Tree) → held_from most b w next ≡ some s → (packed_all s ≡ drop next b) × Wide w s) → (x : Bool) → leb (length b) at ≡ x →
        (r : Option ℕ) → end_at b w at ≡ r → cond x (some []) (held_next b w at r (held_from most b w)) ≡ some t → (packed_all t ≡ drop at b) × Wide w t
    go ih true h r e p =
        let z : [] ≡ t = some_inj [] t p in
        subst (λ (s : Tree). (packed_all s ≡ drop at b) × Wide w s) z (sym (drop_of_length-le b (leb-true _ _ h)), tt)
    go ih false h none e p = none_some t p
    go ih false h (some next) e p =
        let (s, k, z) = more_inv (entry_held b w at) (held_from most b w next) t p in
        let (x, y) = ih next s k in
        subst (λ (s : Tree). (packed_all s ≡ drop at b) × Wide w s) z
        (ap (λ (l : Bytes). packed (entry_held b w at) ++ l) x ∙ entry_packed b w at next (ends b w at e), (entry_wide b w at next (ends b w at e), y))

pub held_packs : (b : Bytes) (w : ℕ) (t : Tree) → held_at b w 0 ≡ some t → (b ≡ packed_all t) × Wide w t
unfolding held_at
held_packs b w t q = let x = from_bytes (suc (length b - 0)) b w 0 t q in (sym x.0, x.1)

-- From the entries to their bytes: what stands there is found.
module _ (b : Bytes) (w at : ℕ) (e : Entry) (rest : Bytes) (here : drop at b ≡ packed e ++ rest) (wide : length e.id ≡ w) where
  at_kind_lem : get_or b at 0 ≡ kind_of e.mode
  at_kind_lem = ap (λ (k : ℕ). get_or b k 0) (sym (add-zero at)) ∙ sym (get_or-drop at b 0 0) ∙ ap (λ (l : Bytes). get_or l 0 0) here

  at_len : get_or b (at + 1) 0 ≡ length e.name
  at_len = sym (get_or-drop at b 1 0) ∙ ap (λ (l : Bytes). get_or l 1 0) here

  from_id : drop (at + 2) b ≡ e.id ++ (e.name ++ rest)
  from_id = sym (drop-drop 2 at b) ∙ ap (drop 2) here ∙ append_assoc e.id e.name rest

  from_name : drop (at + 2 + w) b ≡ e.name ++ rest
  from_name = sym (drop-drop w (at + 2) b) ∙ ap (drop w) from_id ∙ drop_at e.id (e.name ++ rest) w wide

  from_next : drop (at + 2 + w + get_or b (at + 1) 0) b ≡ rest
  from_next = sym (drop-drop (get_or b (at + 1) 0) (at + 2 + w) b) ∙ ap (drop (get_or b (at + 1) 0)) from_name ∙ drop_at e.name rest (get_or b (at + 1) 0) (sym at_len)

  inside : at + 2 + w + get_or b (at + 1) 0 ≤ length b
  inside =
      let l = simp (length-append, length-drop) at (ap length here) in
      omega (arith, l, at_len, wide)

  at_few : get_or b at 0 < 5
  at_few = rw at_kind_lem (kind_few e.mode)

  same_entry : entry_held b w at ≡ e
  same_entry =
      let m : mode_at (get_or b at 0) ≡ e.mode = ap mode_at at_kind_lem ∙ mode_kind e.mode in
      let n : take (get_or b (at + 1) 0) (drop (at + 2 + w) b) ≡ e.name = ap (take (get_or b (at + 1) 0)) from_name ∙ take_at e.name rest (get_or b (at + 1) 0) (sym at_len) in
      let i : take w (drop (at + 2) b) ≡ e.id = ap (take w) from_id ∙ take_at e.id (e.name ++ rest) w wide in
      λ j. record { mode = m j; name = n j; id = i j }

back_from : (b : Bytes) (w at : ℕ) (t : Tree) → drop at b ≡ packed_all t → Wide w t → held_at b w at ≡ some t
unfolding packed_all
back_from b w at [] here g =
    let l = simp length-drop at (ap length here) in
    held_end b w at (omega (arith, l))
back_from b w at (e ∷ es) here (g, gs) =
    let i = inside b w at e (packed_all es) here g in
    held_entry b w at (omega arith) (sym (end_there b w at (at_few b w at e (packed_all es) here g) i))
    ∙ rw (same_entry b w at e (packed_all es) here g, back_from b w (at + 2 + w + get_or b (at + 1) 0) es (from_next b w at e (packed_all es) here g) gs)

pub held_back : (w : ℕ) (t : Tree) → Wide w t → held_at (packed_all t) w 0 ≡ some t
held_back w t g = back_from (packed_all t) w 0 t refl g

-- The tree that the bytes are the compact form of is what is found, if that is well formed.
pub compact_is : (w : ℕ) (b : Bytes) → compact_tree w b ≡ if_good w (held_at b w 0)
unfolding compact_tree
compact_is w b = go (held_at b w 0) refl
  where
    well : same b (packed_all (unpack w b)) ≡ true → held_at b w 0 ≡ none → (x : Bool) → well_formed w (unpack w b) ≡ x → cond x (some (unpack w b)) none ≡ none
    well h e true g = none_some (unpack w b) (sym e ∙ ap (λ (l : Bytes). held_at l w 0) (same_eq b (packed_all (unpack w b)) h) ∙ held_back w (unpack w b) (wide_good w (unpack w b) (well_entries w (unpack w b) g)))
    well h e false g = refl

    damaged : held_at b w 0 ≡ none → (x : Bool) → same b (packed_all (unpack w b)) ≡ x → cond x (if_good w (some (unpack w b))) none ≡ none
    damaged e true h = well h e (well_formed w (unpack w b)) refl
    damaged e false h = refl

    go : (o : Option Tree) → held_at b w 0 ≡ o → cond (same b (packed_all (unpack w b))) (if_good w (some (unpack w b))) none ≡ if_good w o
    go none e = damaged e (same b (packed_all (unpack w b))) refl
    go (some t) e =
        let p = held_packs b w t e in
        let u : unpack w b ≡ t = ap (unpack w) p.0 ∙ unpacked w t p.1 in
        let q : same b (packed_all (unpack w b)) ≡ true = ap (λ (s : Tree). same b (packed_all s)) u ∙ ap (same b) (sym p.0) ∙ same_refl b in
        ap (λ (x : Bool). cond x (if_good w (some (unpack w b))) none) q ∙ ap (λ (s : Tree). if_good w (some s)) u

-- For a caller: what it means that the bytes are the compact form of a tree.
pub record CompactAs (w : ℕ) (b : Bytes) (t : Tree) : Type 0 where
  pub bytes : b ≡ packed_all t
  pub holds : unpack w b ≡ t
  pub well : well_formed w t ≡ true
  pub run : Run w b

pub compact_only : (w : ℕ) (b : Bytes) (t : Tree) → compact_tree w b ≡ some t → CompactAs w b t
unfolding compact_tree
compact_only w b t q = go (same b (packed_all (unpack w b))) refl (well_formed w (unpack w b)) refl q
  where
    go : (x : Bool) → same b (packed_all (unpack w b)) ≡ x → (y : Bool) → well_formed w (unpack w b) ≡ y → cond x (cond y (some (unpack w b)) none) none ≡ some t → CompactAs w b t
    go true h true g p =
        let z : unpack w b ≡ t = some_inj (unpack w b) t p in
        let e : b ≡ packed_all (unpack w b) = same_eq b (packed_all (unpack w b)) h in
        record {
          bytes = e ∙ ap packed_all z;
          holds = z;
          well = ap (well_formed w) (sym z) ∙ g;
          run = record { bytes = e; good = well_entries w (unpack w b) g };
        }
    go true h false g p = none_some t p
    go false h y g p = none_some t p

pub compact_back : (w : ℕ) (t : Tree) → well_formed w t ≡ true → compact_tree w (packed_all t) ≡ some t
compact_back w t g =
    compact_is w (packed_all t) ∙ ap (if_good w) (held_back w t (wide_good w t (well_entries w t g))) ∙ ap (λ (x : Bool). cond x (some t) none) g

-- what is counted is counted of that tree
pub compact_sized : (w : ℕ) (b : Bytes) (s : TreeSize) → size_of (compact_tree w b) ≡ some s →
    (compact_tree w b ≡ some (unpack w b)) × (length (unpack w b) ≡ s.entries) × (name_bytes (unpack w b) ≡ s.bytes)
compact_sized w b s q = go (compact_tree w b) refl q
  where
    go : (o : Option Tree) → compact_tree w b ≡ o → size_of o ≡ some s → (o ≡ some (unpack w b)) × (length (unpack w b) ≡ s.entries) × (name_bytes (unpack w b) ≡ s.bytes)
    go none e p = none_some s p
    go (some t) e p =
        let z : unpack w b ≡ t = (compact_only w b t e).holds in
        let y = some_inj _ s p in
        (ap some (sym z), ap length z ∙ ap (λ (x : TreeSize). x.entries) y, ap name_bytes z ∙ ap (λ (x : TreeSize). x.bytes) y)
