-- Laws of the walk over the entries of one tree: what an entry at hand says of a path below. Assumes nothing.
use mathlib.Core.Path.{◌≡◌, refl, sym, ap, ap₂, ◌∙◌, subst}
use mathlib.Core.Bool.{Bool, true, false, ◌&&◌}
use mathlib.Core.Option.{some}
use mathlib.Core.List.{List, [], ◌∷◌, ◌++◌}
use Prim.Native.Nat.{ℕ, suc, ◌+◌, ◌-◌, ◌≤◌, ◌<◌}
use native.Mathlib.Numerals.{add-one}
use native.Mathlib.Omega.{arith}
use borrow.Author.Tests.{eqb-true, eqb-false, ltb-true, ltb-false}
use lib.Dec.{eqb, ltb}
use lib.ListN.{length, take, drop, get_or, set, length-set}
use lib.Seq.{split_at, get_or-set_same, get_or-set_other}
use borrow.Author.Rules.{part_to_end}
use Rattle.std.specs.Prelude.{Option, Some, None, MatchOption}
use Rattle.std.specs.Bool.{⊤}
use Rattle.model.specs.Bytes.{Bytes, has, same}
use Rattle.model.specs.Tree.{Entry, Tree, is_tree, key, entry_of, well_formed}
use Rattle.model.specs.Paths.{join, base, dir}
use Rattle.model.specs.Map.{find}
use Rattle.model.specs.Valid.{is_tree_entry, has_parent}
use Rattle.model.proofs.Basics.{and_left, and_right, no_way}
use Rattle.model.proofs.ByteLaws.{same_eq}
use Rattle.model.proofs.DirBaseLaws.{base_join, dir_join}
use Rattle.model.proofs.SoundTrees.{Sound, sound_well}
use Rattle.model.proofs.WriteKeepsTrees.{all_found, tree_entry}
use Rattle.names_compact.specs.Compact.{unpack, Run, blank, entry_at}
use Rattle.names_compact.proofs.CompactLaws.{Mark, mark, offset_before, offset_zero, zero_tree}
use Rattle.store_runs.specs.Runs.{total, cut, run_of}
use Rattle.store_runs.proofs.FindLaws.{cut_at}
use Rattle.store_runs.proofs.RunLaws.{total_more, total_within}
use Rattle.store_slots.specs.View.{Used, path_of, tree_of}
use Rattle.store_slots.specs.declared.Record.{Record}
use Rattle.store_slots.proofs.Changes.{searched_run}
use Rattle.store_check.specs.Parents.{Begins, Begun, Read, Starts, Named, Child, Table, Children, Parented, Hanging}
use Rattle.store_check.specs.Written.{Taking, aside_by}
use Rattle.store_check.specs.declared.parents.Known.{Known}
use Rattle.store_check.proofs.ParentLaws.{below_known, all_at, aside_used, aside_at, stacked_low}

-- ---- where the runs start

-- the first i starts are written, and the next is `sum`
pub record Beginning (lens : List ℕ) (i sum : ℕ) (begins : List ℕ) : Type 0 where
  pub within : i ≤ length lens
  pub start : sum ≡ total (take i lens)
  pub written : Begins lens i begins

pub begin_none : (lens begins : List ℕ) → length begins ≡ length lens → Beginning lens 0 0 begins
unfolding total
begin_none lens begins e = record { within = omega arith; start = refl; written = record { length = e; at = λ k h. absurd (omega (arith, h)) } }

module _ {lens : List ℕ} {i sum : ℕ} {begins : List ℕ} (g : Beginning lens i sum begins) where
  pub begin_more : i < length lens → Beginning lens (i + 1) (sum + get_or lens i 0) (set begins i sum)
  begin_more h =
      record {
        within = omega arith;
        start = omega (arith, g.start, total_more lens i h);
        written = record { length = length-set begins i sum ∙ g.written.length; at = λ k l. go k l (eqb k i) refl };
      }
    where
      go : (k : ℕ) → k < i + 1 → (b : Bool) → eqb k i ≡ b → get_or (set begins i sum) k 0 ≡ total (take k lens)
      go k l true t =
          ap (λ (x : ℕ). get_or (set begins i sum) x 0) (eqb-true k i t) ∙ get_or-set_same begins i sum 0 (omega (arith, h, g.written.length)) ∙ g.start ∙ ap (λ (x : ℕ). total (take x lens)) (sym (eqb-true k i t))
      go k l false t = get_or-set_other begins i k sum 0 (eqb-false k i t) ∙ g.written.at k (omega (arith, l, eqb-false k i t))

module _ {plens paths begins : List ℕ} (B : Begun plens paths begins) {k : ℕ} (h : k < 64) where
  pub begun_end : get_or begins k 0 + get_or plens k 0 ≤ length paths
  begun_end = omega (arith, B.starts.at k h, total_within plens k (omega (arith, h, B.plens_64)), B.fits)

  pub begun_path : take (get_or begins k 0 + get_or plens k 0 - get_or begins k 0) (drop (get_or begins k 0) paths) ≡ path_of plens paths k
  begun_path =
      let n : get_or begins k 0 + get_or plens k 0 - get_or begins k 0 ≡ get_or plens k 0 = omega arith in
      ap₂ (λ (x y : ℕ). take x (drop y paths)) n (B.starts.at k h) ∙ sym (cut_at plens paths k (omega (arith, h, B.plens_64)))

-- ---- a walk over the entries

pub starts_first : (w : ℕ) (b : Bytes) → Starts w b 0
starts_first w b = record { index = 0; within = omega arith; is = sym (offset_zero w b) }

named_at : (w : ℕ) (b : Bytes) → Read w b → (i : ℕ) → i < length (unpack w b) → is_tree (entry_at w b i).mode ≡ true → Named (entry_at w b i).name (unpack w b)
named_at w b q i h t =
    let T : Tree = unpack w b in
    let s : Sound T = sound_well w T q.well in
    let e : Entry = entry_at w b i in
    let f : find key (key e) T ≡ some e = all_at (λ (x : Entry). find key (key x) T ≡ some x) T i blank h (all_found T s.in_order) in
    record { plain = s.plain (key e) e f; entry = tree_entry T s e f t }

module _ {w : ℕ} {b : Bytes} {a : ℕ} (s : Starts w b a) (q : Read w b) (h : a < length b) where
  starts_in : s.index < length (unpack w b)
  starts_in = offset_before w b s.index q.run s.within (omega (arith, s.is))

  -- the entry at hand
  pub starts_at : Mark w b s.index a
  starts_at = mark w b s.index a q.run s.is starts_in

  pub starts_next : Starts w b (a + 2 + w + get_or b (a + 1) 0)
  starts_next = record { index = s.index + 1; within = omega (arith, starts_in); is = starts_at.next }

  -- it is a tree of this name
  pub starts_named : (n : Bytes) (t : Bool) → t ≡ (eqb (get_or b a 0) 0 && same (take (a + 2 + w + get_or b (a + 1) 0 - (a + 2 + w)) (drop (a + 2 + w) b)) n) → t ≡ true → Named n (unpack w b)
  starts_named n t e y =
      let k : ℕ = get_or b (a + 1) 0 in
      let o : a + 2 + w + k - (a + 2 + w) ≡ k = omega arith in
      let both = sym e ∙ y in
      let z : is_tree (entry_at w b s.index).mode ≡ true =
      sym (zero_tree (entry_at w b s.index).mode) ∙ ap (λ (x : ℕ). eqb x 0) (sym starts_at.kind) ∙ and_left (eqb (get_or b a 0) 0) (same (take (a + 2 + w + k - (a + 2 + w)) (drop (a + 2 + w) b)) n) both in
      let m : (entry_at w b s.index).name ≡ n =
      sym starts_at.text ∙ ap (λ (x : ℕ). take x (drop (a + 2 + w) b)) (sym o)
      ∙ same_eq (take (a + 2 + w + k - (a + 2 + w)) (drop (a + 2 + w) b)) n (and_right (eqb (get_or b a 0) 0) (same (take (a + 2 + w + k - (a + 2 + w)) (drop (a + 2 + w) b)) n) both) in
      subst (λ (x : Bytes). Named x (unpack w b)) m (named_at w b q s.index starts_in z)

-- ---- a path below another

joined : (q x : Bytes) → (length q ≡ 0 → ⊥) → q ++ (47 ∷ x) ≡ join q x
joined [] x n = absurd (n refl)
joined (y ∷ q) x n = refl

pub below_path : (q p : Bytes) → (length q ≡ 0 → ⊥) → length q < length p → get_or p (length q) 0 ≡ 47 → same q (take (length q) p) ≡ true →
    p ≡ join q (take (length p - (length q + 1)) (drop (length q + 1) p))
below_path q p n h s e =
    let m : ℕ = length q in
    let x : Bytes = drop (suc m) p in
    let r : take (length p - (m + 1)) (drop (m + 1) p) ≡ x = part_to_end p (m + 1) ∙ ap (λ (k : ℕ). drop k p) (add-one m) in
    split_at p m 0 h ∙ ap₂ (λ (y : Bytes) (z : ℕ). y ++ (z ∷ x)) (sym (same_eq q (take m p) e)) s ∙ joined q x n ∙ ap (join q) (sym r)

-- a name of a tree entry makes it a child
pub child_of : {q n p : Bytes} {t : Tree} → Named n t → p ≡ join q n → Child q t p
child_of {q} {n} {p} {t} m e =
    record {
      above = ap dir e ∙ dir_join q n m.plain;
      entry = ap (λ (x : Bytes). is_tree_entry (entry_of x t)) (ap base e ∙ base_join q n m.plain) ∙ m.entry;
    }

pub some_byte : (n : Bytes) → (length n ≡ 0 → ⊥) → n ≡ [] → ⊥
some_byte n h e = h (ap length e)

pub where_some : {P Q : ℕ → Type 0} (o : Option ℕ) → MatchOption o ⊤ P → ((x : ℕ) → P x → Q x) → MatchOption o ⊤ Q
where_some None m f = tt
where_some (Some x) m f = f x m

-- ---- the children in the table

-- those from i on are children, and the walk has come to `at`
pub record Going (q : Bytes) (w : ℕ) (b : Bytes) (plens paths order : List ℕ) (lo hi i at : ℕ) : Type 0 where
  pub kids : Children q (unpack w b) plens paths order lo hi i
  pub place : Starts w b at

pub going_all : (q : Bytes) (w : ℕ) (b : Bytes) (plens paths order : List ℕ) (lo hi : ℕ) → lo ≤ hi → Going q w b plens paths order lo hi hi 0
going_all q w b plens paths order lo hi h = record { kids = record { low = h; high = omega arith; each = λ j g l. absurd (omega (arith, g, l)) }; place = starts_first w b }

-- ---- all stacked trees

module _ {w : ℕ} {r : Record} {plens paths tlens trees order : List ℕ} (T : Taking w r plens paths tlens trees order) where
  pub all_begun : {begins : List ℕ} → Begins plens 64 begins → Begun plens paths begins
  all_begun {begins} B =
      let L = T.lays.laid in
      record { fits = omega (arith, L.paths_sound.sum, L.paths_sound.fits); plens_64 = L.plens_64; starts = B }

  pub hanging_none : Hanging w r plens paths tlens trees order (record { low = 64; asked = false })
  hanging_none = record { stacked = record { low = omega arith; high = omega arith; each = λ j g l. absurd (omega (arith, g, l)) }; asked = λ y. no_way (sym y) }

  -- the tree of a slot
  pub slot_read : (k : ℕ) (b : Bytes) → k < 64 → b ≡ get_or (cut tlens trees) k [] → Read w b
  slot_read k b h e =
      let L = T.lays.laid in
      let q : b ≡ run_of tlens trees k = e ∙ cut_at tlens trees k (omega (arith, h, L.tlens_64)) in
      record {
        run = subst (Run w) (sym q) (searched_run w r plens paths tlens trees L k h);
        narrow = T.narrow;
        well = ap (λ (x : Bytes). well_formed w (unpack w x)) e ∙ L.well k h;
      }

  module _ {i : ℕ} (P : Parented w r plens paths tlens trees order i) where
    pub stacked_table : {begins : List ℕ} → Begun plens paths begins → Table plens paths begins order (64 - r.stacked) i
    stacked_table B =
        record {
          begun = B;
          order_64 = T.order_64;
          up = P.low;
          high = P.high;
          slot = λ j g l. stacked_low T.opened j g (omega (arith, l, P.high)) T.order_64;
        }

    -- the one before the last one seen
    pub parented_one : 64 - r.stacked < i → (b : Bool) → b ≡ has_parent (path_of plens paths (get_or order (i - 1) 0)) (aside_by w plens paths tlens trees order r.aside) → b ≡ true → Parented w r plens paths tlens trees order (i - 1)
    parented_one h b t y = record { low = omega arith; high = omega (arith, P.high); each = λ j g l. go j g l (eqb j (i - 1)) refl }
      where
        go : (j : ℕ) → i - 1 ≤ j → j < 64 → (x : Bool) → eqb j (i - 1) ≡ x → has_parent (path_of plens paths (get_or order j 0)) (aside_by w plens paths tlens trees order r.aside) ≡ true
        go j g l true f = ap (λ (m : ℕ). has_parent (path_of plens paths (get_or order m 0)) (aside_by w plens paths tlens trees order r.aside)) (eqb-true j (i - 1) f) ∙ sym t ∙ y
        go j g l false f = P.each j (omega (arith, g, eqb-false j (i - 1) f)) l

    -- the children of one that was set aside
    module _ (n : ℕ) (m : n < r.aside) where
      aside_slot : Used r (get_or order n 0) × (has (get_or order n 0) (take r.aside order) ≡ true)
      aside_slot = aside_at T.opened n m T.order_64

      module _ (q b : Bytes) (v : ℕ) (e : q ≡ path_of plens paths (get_or order n 0)) (u : v ≡ w) (f : b ≡ get_or (cut tlens trees) (get_or order n 0) []) where
        child_below : (p : Bytes) → Child q (unpack v b) p → has_parent p (aside_by w plens paths tlens trees order r.aside) ≡ true
        child_below p d =
            let k : ℕ = get_or order n 0 in
            let z : Used r k = aside_slot.0 in
            let home : path_of plens paths k ≡ dir p = sym e ∙ sym d.above in
            let tree : tree_of w tlens trees k ≡ unpack v b = sym (ap₂ unpack u f) in
            below_known w r plens paths tlens trees T.lays p k z home (take r.aside order) (aside_used T.opened r.aside (omega arith)) aside_slot.1 (ap (λ (x : Tree). is_tree_entry (entry_of (base p) x)) tree ∙ d.entry)

        pub hanging_more : (g : Known) (p : Bytes) → p ≡ path_of plens paths r.asked → Children q (unpack v b) plens paths order (64 - r.stacked) i g.low → (g.asked ≡ true → Child q (unpack v b) p) →
            Hanging w r plens paths tlens trees order g
        hanging_more g p l c d =
            record {
              stacked = record { low = c.low; high = omega (arith, c.high, P.high); each = λ j x y. go j x y (ltb j i) refl };
              asked = λ y. ap (λ (x : Bytes). has_parent x (aside_by w plens paths tlens trees order r.aside)) (sym l) ∙ child_below p (d y);
            }
          where
            go : (j : ℕ) → g.low ≤ j → j < 64 → (x : Bool) → ltb j i ≡ x → has_parent (path_of plens paths (get_or order j 0)) (aside_by w plens paths tlens trees order r.aside) ≡ true
            go j x y true t = child_below (path_of plens paths (get_or order j 0)) (c.each j x (ltb-true j i t))
            go j x y false t = P.each j (ltb-false j i t) y
