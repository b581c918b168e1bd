-- The parent of a tree in hand is set aside, and it alone is at its path, so an edit of it changes just one of the trees set aside. Assumes nothing.
use mathlib.Core.Path.{◌≡◌, refl, sym, ap, ap₂, ◌∙◌, subst}
use Rattle.std.specs.Prelude.{Option, Some, None, unwrap_or}
use mathlib.Core.Bool.{Bool, true, false, not, ◌&&◌, ◌||◌, cond}
use mathlib.Core.List.{List, [], ◌∷◌, ◌++◌, map, reverse, reverse-cons}
use Prim.Native.Nat.{ℕ, zero, suc, ◌-◌, ◌<◌, compare, Ordering}
use native.Mathlib.Omega.{arith}
use lib.Dec.{eqb}
use borrow.Author.Tests.{eqb-true, eqb-false}
use lib.ListN.{length, take, drop, get_or}
use Rattle.model.specs.Bytes.{Bytes, by, same, has}
use Rattle.model.specs.Tree.{TREE, Tree, entry_of, without, with_entry, among, distinct}
use Rattle.model.specs.Paths.{base, dir}
use Rattle.model.specs.Editor.{Held, at, Cache}
use Rattle.model.specs.Order.{All}
use Rattle.model.specs.Valid.{is_tree_entry, has_parent}
use Rattle.model.specs.Write.{change_at, unlinked, linked}
use Rattle.model.proofs.Basics.{no_way, and_left, and_right, or_true, not_true, all_map}
use Rattle.model.proofs.ByteLaws.{same_eq, same_refl, same_of, has_here, has_past}
use Rattle.store_runs.specs.Digits.{digits}
use Rattle.store_runs.specs.Runs.{cut}
use Rattle.store_runs.specs.Find.{find_from}
use Rattle.store_runs.proofs.DigitLaws.{length_digits}
use Rattle.store_runs.proofs.RunLaws.{length_cut}
use Rattle.store_slots.specs.View.{if_used, held_in, slots_of, SlotIs, Laid, Used, path_of, tree_of, held_at, cached_of, aside_of, stacked_of, all_different}
use Rattle.store_slots.proofs.Where.{slot_is}
use Rattle.store_slots.specs.declared.Record.{Record}
use Rattle.store_slots.specs.declared.Store.{Store}
use Rattle.store_slots.specs.Stores.{LaidIn, cached_in, path_in_slot, tree_in_slot}
use Rattle.store_entries.specs.Entries.{Kept, Edited, EditedIn}
use Rattle.store_taken.specs.Taken.{going_in, going_of, Between, SameTree, all_taken}
use Rattle.store_taken.proofs.Marking.{all_both, all_left, all_right, all_other, map_same, marked_here}
use Rattle.store_taken.proofs.Steps.{marks_same}
use Rattle.store_taken.proofs.Ends.{cached_same, trees_same, held_same}
use Rattle.editor_write_steps.specs.Writes.{unlinked_on, linked_on, ChildIn}

-- ---- slots at one path

used_among : (w : ℕ) (ds : List ℕ) (ps bs : List Bytes) (j : ℕ) → length ps ≡ length ds → length bs ≡ length ds → j < length ds → get_or ds j 0 ≡ 0 → among (get_or ps j []) (map at (slots_of w ds ps bs)) ≡ true
unfolding slots_of
used_among w [] ps bs j l r h z = absurd (omega arith)
used_among w (d ∷ ds) [] bs j l r h z = absurd (omega arith)
used_among w (d ∷ ds) (p ∷ ps) [] j l r h z = absurd (omega arith)
used_among w (d ∷ ds) (p ∷ ps) (b ∷ bs) zero l r h z =
    ap (λ (x : ℕ). among p (map at (if_used x (held_in w p b) (slots_of w ds ps bs)))) z ∙ ap (λ (x : Bool). x || among p (map at (slots_of w ds ps bs))) (same_refl p)
used_among w (d ∷ ds) (p ∷ ps) (b ∷ bs) (suc j) l r h z = go d (used_among w ds ps bs j (omega arith) (omega arith) (omega arith) z)
  where
    go : (d : ℕ) → among (get_or ps j []) (map at (slots_of w ds ps bs)) ≡ true → among (get_or ps j []) (map at (if_used d (held_in w p b) (slots_of w ds ps bs))) ≡ true
    go zero e = ap (λ (x : Bool). same (get_or ps j []) p || x) e ∙ or_true (same (get_or ps j []) p)
    go (suc d) e = e

used_once : (w : ℕ) (ds : List ℕ) (ps bs : List Bytes) (j k : ℕ) → length ps ≡ length ds → length bs ≡ length ds → j < length ds → k < length ds → get_or ds j 0 ≡ 0 → get_or ds k 0 ≡ 0 →
    get_or ps j [] ≡ get_or ps k [] → distinct (map at (slots_of w ds ps bs)) ≡ true → j ≡ k
unfolding slots_of
used_once w [] ps bs j k l r h g y z e a = absurd (omega arith)
used_once w (d ∷ ds) [] bs j k l r h g y z e a = absurd (omega arith)
used_once w (d ∷ ds) (p ∷ ps) [] j k l r h g y z e a = absurd (omega arith)
used_once w (d ∷ ds) (p ∷ ps) (b ∷ bs) zero zero l r h g y z e a = refl
used_once w (d ∷ ds) (p ∷ ps) (b ∷ bs) zero (suc k) l r h g y z e a =
    let q : distinct (map at (held_in w p b ∷ slots_of w ds ps bs)) ≡ true = ap (λ (x : ℕ). distinct (map at (if_used x (held_in w p b) (slots_of w ds ps bs)))) (sym y) ∙ a in
    no_way (sym (ap (λ (x : Bytes). among x (map at (slots_of w ds ps bs))) e ∙ used_among w ds ps bs k (omega arith) (omega arith) (omega arith) z)
    ∙ not_true (among p (map at (slots_of w ds ps bs))) (and_left (not (among p (map at (slots_of w ds ps bs)))) (distinct (map at (slots_of w ds ps bs))) q))
used_once w (d ∷ ds) (p ∷ ps) (b ∷ bs) (suc j) zero l r h g y z e a =
    let q : distinct (map at (held_in w p b ∷ slots_of w ds ps bs)) ≡ true = ap (λ (x : ℕ). distinct (map at (if_used x (held_in w p b) (slots_of w ds ps bs)))) (sym z) ∙ a in
    no_way (sym (ap (λ (x : Bytes). among x (map at (slots_of w ds ps bs))) (sym e) ∙ used_among w ds ps bs j (omega arith) (omega arith) (omega arith) y)
    ∙ not_true (among p (map at (slots_of w ds ps bs))) (and_left (not (among p (map at (slots_of w ds ps bs)))) (distinct (map at (slots_of w ds ps bs))) q))
used_once w (d ∷ ds) (p ∷ ps) (b ∷ bs) (suc j) (suc k) l r h g y z e a = ap suc (used_once w ds ps bs j k (omega arith) (omega arith) (omega arith) (omega arith) y z e (go d a))
  where
    go : (d : ℕ) → distinct (map at (if_used d (held_in w p b) (slots_of w ds ps bs))) ≡ true → distinct (map at (slots_of w ds ps bs)) ≡ true
    go zero x = and_right (not (among p (map at (slots_of w ds ps bs)))) (distinct (map at (slots_of w ds ps bs))) x
    go (suc d) x = x

module _ (w : ℕ) (r : Record) (plens paths tlens trees : List ℕ) (L : Laid w r plens paths tlens trees) where
  -- no two slots are at one path
  pub one_slot : (j k : ℕ) → Used r j → Used r k → path_of plens paths j ≡ path_of plens paths k → j ≡ k
  one_slot j k u v e =
      let d = length_digits 64 r.free in
      used_once w (digits 64 r.free) (cut plens paths) (cut tlens trees) j k (length_cut plens paths ∙ L.plens_64 ∙ sym d) (length_cut tlens trees ∙ L.tlens_64 ∙ sym d) (omega (arith, d, u.low)) (omega (arith, d, v.low)) u.used v.used e L.apart

pub path_among : (w : ℕ) (r : Record) (plens paths : List ℕ) (bs : List Bytes) (j : ℕ) → length plens ≡ 64 → length bs ≡ 64 → Used r j → among (path_of plens paths j) (map at (slots_of w (digits 64 r.free) (cut plens paths) bs)) ≡ true
path_among w r plens paths bs j l b u =
    let d = length_digits 64 r.free in
    used_among w (digits 64 r.free) (cut plens paths) bs j (length_cut plens paths ∙ l ∙ sym d) (b ∙ sym d) (omega (arith, d, u.low)) u.used

-- ---- a number of a list

has_later : (j x : ℕ) (l : List ℕ) → has j l ≡ true → has j (x ∷ l) ≡ true
has_later j x l e = go (compare j x)
  where
    go : (o : Ordering) → by o (has j l) true (has j l) ≡ true
    go Ordering.lt = e
    go Ordering.eq = refl
    go Ordering.gt = e

has_all : (l : List ℕ) → All (λ j. has j l ≡ true) l
has_all [] = tt
has_all (x ∷ l) = (has_here x x l refl, all_map (λ j. has j l ≡ true) (λ j. has j (x ∷ l) ≡ true) (λ j e. has_later j x l e) l (has_all l))

has_front : (k : ℕ) (a b : List ℕ) → has k a ≡ true → has k (a ++ b) ≡ true
has_front k [] b e = no_way (sym e)
has_front k (x ∷ a) b e = go (eqb x k) refl (has_front k a b)
  where
    go : (t : Bool) → eqb x k ≡ t → (has k a ≡ true → has k (a ++ b) ≡ true) → has k (x ∷ (a ++ b)) ≡ true
    go true q ih = has_here k x (a ++ b) (eqb-true x k q)
    go false q ih = has_later k x (a ++ b) (ih (sym (has_past k x a (eqb-false x k q)) ∙ e))

has_behind : (k : ℕ) (a b : List ℕ) → has k b ≡ true → has k (a ++ b) ≡ true
has_behind k [] b e = e
has_behind k (x ∷ a) b e = has_later k x (a ++ b) (has_behind k a b e)

has_back : (k : ℕ) (a b : List ℕ) → has k (a ++ b) ≡ false → has k b ≡ false
has_back k a b e = go (has k b) refl
  where
    go : (t : Bool) → has k b ≡ t → t ≡ false
    go false q = refl
    go true q = no_way (sym (has_behind k a b q) ∙ e)

different_back : (a b : List ℕ) → all_different (a ++ b) ≡ true → all_different b ≡ true
different_back [] b e = e
different_back (x ∷ a) b e = different_back a b (and_right (not (has x (a ++ b))) (all_different (a ++ b)) e)

not_behind : (k : ℕ) (a b : List ℕ) → all_different (a ++ b) ≡ true → has k a ≡ true → has k b ≡ false
not_behind k [] b e h = no_way (sym h)
not_behind k (x ∷ a) b e h = go (eqb x k) refl (not_behind k a b (and_right (not (has x (a ++ b))) (all_different (a ++ b)) e))
  where
    go : (t : Bool) → eqb x k ≡ t → (has k a ≡ true → has k b ≡ false) → has k b ≡ false
    go true q ih = ap (λ (z : ℕ). has z b) (sym (eqb-true x k q)) ∙ has_back x a b (not_true (has x (a ++ b)) (and_left (not (has x (a ++ b))) (all_different (a ++ b)) e))
    go false q ih = ih (sym (has_past k x a (eqb-false x k q)) ∙ h)

-- ---- the parent among those set aside

all_snoc : (P : Held → Type 0) (l : List Held) (x : Held) → All P l → P x → All P (l ++ (x ∷ []))
all_snoc P [] x a p = (p, tt)
all_snoc P (y ∷ l) x a p = (a.0, all_snoc P l x a.1 p)

all_reverse : (P : Held → Type 0) (l : List Held) → All P l → All P (reverse l)
all_reverse P [] a = tt
all_reverse P (x ∷ l) a = subst (All P) (sym (reverse-cons x l)) (all_snoc P (reverse l) x (all_reverse P l a.1) a.0)

all_mapped : (P : Held → Type 0) (f : ℕ → Held) (l : List ℕ) → All (λ j. P (f j)) l → All P (map f l)
all_mapped P f [] a = tt
all_mapped P f (x ∷ l) a = (a.0, all_mapped P f l a.1)

-- h has a tree entry for the path p
pub record Above (p : Bytes) (h : Held) : Type 0 where
  pub path : h.path ≡ dir p
  pub entry : is_tree_entry (entry_of (base p) h.held) ≡ true

above : (P : Held → Type 0) (p : Bytes) (hs : List Held) → All P hs → has_parent p hs ≡ true → (h : Held) × P h × Above p h
above P p [] a e = no_way (sym e)
above P p (h ∷ hs) a e = go (same h.path (dir p)) refl (is_tree_entry (entry_of (base p) h.held)) refl (above P p hs a.1) e
  where
    go : (s : Bool) → same h.path (dir p) ≡ s → (t : Bool) → is_tree_entry (entry_of (base p) h.held) ≡ t → (has_parent p hs ≡ true → (x : Held) × P x × Above p x) → (s && t || has_parent p hs) ≡ true → (x : Held) × P x × Above p x
    go true q true z ih y = (h, a.0, record { path = same_eq h.path (dir p) q; entry = z })
    go true q false z ih y = ih y
    go false q t z ih y = ih y

-- the slot j is set aside and has a tree entry for the path p
pub record Parent (w : ℕ) (r : Record) (plens paths tlens trees order : List ℕ) (p : Bytes) (j : ℕ) : Type 0 where
  pub used : Used r j
  pub aside : has j (take r.aside order) ≡ true
  pub is : Above p (held_at w plens paths tlens trees j)

pub parent_there : (w : ℕ) (r : Record) (plens paths tlens trees order hand : List ℕ) (p : Bytes) → Between r order hand → has_parent p (aside_of w r plens paths tlens trees order) ≡ true → (j : ℕ) × Parent w r plens paths tlens trees order p j
parent_there w r plens paths tlens trees order hand p b e =
    let A = take r.aside order in
    let f = held_at w plens paths tlens trees in
    let P : Held → Type 0 = λ h. (j : ℕ) × Used r j × (has j A ≡ true) × (f j ≡ h) in
    let u : All (Used r) A = all_left (Used r) A (drop (64 - r.stacked) order) (all_right (Used r) hand (A ++ drop (64 - r.stacked) order) b.marks.used) in
    let a : All P (map f A) = all_mapped P f A (all_map (λ j. Used r j × (has j A ≡ true)) (λ j. P (f j)) (λ j x. (j, x.0, x.1, refl)) A (all_both (Used r) (λ j. has j A ≡ true) A u (has_all A))) in
    let x = above P p (reverse (map f A)) (all_reverse P (map f A) a) e in
    (x.1.0, record { used = x.1.1; aside = x.1.2; is = subst (Above p) (sym x.1.3) x.2 })

-- ---- an edit of one that is set aside

change_append : (q : Bytes) (f : Tree → Tree) (a b : List Held) → change_at q f (a ++ b) ≡ change_at q f a ++ change_at q f b
change_append q f [] b = refl
change_append q f (h ∷ a) b = ap (λ (l : List Held). cond (same h.path q) (record { path = h.path; held = f h.held }) h ∷ l) (change_append q f a b)

change_reverse : (q : Bytes) (f : Tree → Tree) (l : List Held) → change_at q f (reverse l) ≡ reverse (change_at q f l)
change_reverse q f [] = refl
change_reverse q f (h ∷ l) =
    let k = cond (same h.path q) (record { path = h.path; held = f h.held }) h in
    ap (change_at q f) (reverse-cons h l) ∙ change_append q f (reverse l) (h ∷ []) ∙ ap (λ (m : List Held). m ++ (k ∷ [])) (change_reverse q f l) ∙ sym (reverse-cons k (change_at q f l))

change_map : (q : Bytes) (f : Tree → Tree) (g : ℕ → Held) (l : List ℕ) → change_at q f (map g l) ≡ map (λ j. cond (same (g j).path q) (record { path = (g j).path; held = f (g j).held }) (g j)) l
change_map q f g [] = refl
change_map q f g (x ∷ l) = ap (λ (m : List Held). cond (same (g x).path q) (record { path = (g x).path; held = f (g x).held }) (g x) ∷ m) (change_map q f g l)

pub between_kept : (r q : Record) (order hand : List ℕ) → Kept r q → Between r order hand → Between q order hand
between_kept r q order hand k b = record {
  order_64 = b.order_64;
  under_way = λ z. b.under_way (sym k.write.«open» ∙ z);
  from = omega (arith, k.write.«open», b.from);
  room = omega (arith, k.write.aside, k.write.stacked, b.room);
  marks = marks_same r q (all_taken r order hand) (all_taken q order hand) k.free k.hidden (ap₂ (λ (x y : ℕ). hand ++ (take x order ++ drop (64 - y) order)) k.write.aside k.write.stacked) b.marks;
}

module _ (w : ℕ) (r : Record) (plens paths tlens trees : List ℕ) (L : Laid w r plens paths tlens trees) (order hand : List ℕ) (b : Between r order hand) (k : ℕ) (u : Used r k) (s : has k (take r.aside order) ≡ true) (f : Tree → Tree)
    (q : Record) (tlens' trees' : List ℕ) (E : Edited w r plens paths tlens trees k (f (tree_of w tlens trees k)) q tlens' trees') where
  abbrev A : List ℕ
  A = take r.aside order

  abbrev S : List ℕ
  S = drop (64 - r.stacked) order

  tree_same : (j : ℕ) → (j ≡ k → ⊥) → SameTree plens paths tlens trees plens paths tlens' trees' j
  tree_same j n = record { path = refl; run = E.others.run j n }

  hidden_there : get_or (digits 64 r.hidden) k 0 ≡ 1
  hidden_there =
      ap (λ (x : List ℕ). get_or x k 0) b.marks.hidden
      ∙ marked_here (all_taken r order hand) (digits 64 r.free) k (omega (arith, u.low, length_digits 64 r.free)) (has_behind k hand (A ++ S) (has_front k A S s))

  stack_same : map (held_at w plens paths tlens' trees') S ≡ map (held_at w plens paths tlens trees) S
  stack_same =
      trees_same w plens paths tlens trees plens paths tlens' trees' S
      (all_map (λ j. j ≡ k → ⊥) (SameTree plens paths tlens trees plens paths tlens' trees') tree_same S (all_other S k (not_behind k A S (different_back hand (A ++ S) b.marks.apart) s)))

  -- each of those set aside, as it is then
  changed_one : (j : ℕ) → Used r j →
      held_at w plens paths tlens' trees' j ≡ cond (same (path_of plens paths j) (path_of plens paths k)) (record { path = path_of plens paths j; held = f (tree_of w tlens trees j) }) (held_at w plens paths tlens trees j)
  changed_one j v = go (eqb j k) refl
    where
      to : Bool → Held
      to x = cond x (record { path = path_of plens paths j; held = f (tree_of w tlens trees j) }) (held_at w plens paths tlens trees j)

      not_same : (t : Bool) → same (path_of plens paths j) (path_of plens paths k) ≡ t → (j ≡ k → ⊥) → t ≡ false
      not_same false e n = refl
      not_same true e n = absurd (n (one_slot w r plens paths tlens trees L j k v u (same_eq (path_of plens paths j) (path_of plens paths k) e)))

      go : (t : Bool) → eqb j k ≡ t → held_at w plens paths tlens' trees' j ≡ to (same (path_of plens paths j) (path_of plens paths k))
      go true e =
          let z = eqb-true j k e in
          ap (λ (x : ℕ). held_at w plens paths tlens' trees' x) z ∙ ap (λ (t : Tree). record { path = path_of plens paths k; held = t }) E.tree
          ∙ ap (λ (x : ℕ). record { path = path_of plens paths x; held = f (tree_of w tlens trees x) }) (sym z) ∙ ap to (sym (same_of (path_of plens paths j) (path_of plens paths k) (ap (path_of plens paths) z)))
      go false e =
          held_same w plens paths tlens trees plens paths tlens' trees' j (tree_same j (eqb-false j k e))
          ∙ ap to (sym (not_same (same (path_of plens paths j) (path_of plens paths k)) refl (eqb-false j k e)))

  kept_changed : reverse (map (held_at w plens paths tlens' trees') A) ≡ change_at (path_of plens paths k) f (reverse (map (held_at w plens paths tlens trees) A))
  kept_changed =
      let v : All (Used r) A = all_left (Used r) A S (all_right (Used r) hand (A ++ S) b.marks.used) in
      let g = held_at w plens paths tlens trees in
      let c : ℕ → Held = λ j. cond (same (g j).path (path_of plens paths k)) (record { path = (g j).path; held = f (g j).held }) (g j) in
      ap reverse (map_same (held_at w plens paths tlens' trees') c A (all_map (Used r) (λ j. held_at w plens paths tlens' trees' j ≡ c j) changed_one A v) ∙ sym (change_map (path_of plens paths k) f g A))
      ∙ sym (change_reverse (path_of plens paths k) f (map g A))

  pub edit_going : going_of w q plens paths tlens' trees' order ≡ record { cache = cached_of w r plens paths tlens trees; stack = stacked_of w r plens paths tlens trees order; kept = change_at (path_of plens paths k) f (aside_of w r plens paths tlens trees order) }
  edit_going =
      let m = E.kept.write in
      let c = cached_same w plens paths tlens trees plens paths tlens' trees' r q (record { p = L.plens_64; t = L.tlens_64; p' = L.plens_64; t' = E.laid.tlens_64 }) (ap (digits 64) E.kept.hidden)
      (λ j h z. tree_same j (λ e. omega (arith, hidden_there, ap (λ (x : ℕ). get_or (digits 64 r.hidden) x 0) e, z))) in
      ap₂ (λ (x : Cache) (y : ℕ). record { cache = x; stack = map (held_at w plens paths tlens' trees') (drop (64 - y) order); kept = aside_of w q plens paths tlens' trees' order }) c m.stacked
      ∙ ap₂ (λ (x : List Held) (y : ℕ). record { cache = cached_of w r plens paths tlens trees; stack = x; kept = reverse (map (held_at w plens paths tlens' trees') (take y order)) }) stack_same m.aside
      ∙ ap (λ (x : List Held). record { cache = cached_of w r plens paths tlens trees; stack = stacked_of w r plens paths tlens trees order; kept = x }) kept_changed

-- ---- an edit of the parent of the tree in hand

-- the slot k is at the parent's path
abbrev pub AtParent : Store → ℕ → ℕ → Type 0
AtParent s slot k = Used s.ed k × (path_in_slot s k ≡ dir (path_in_slot s slot))

module _ {w : ℕ} (s : Store) {slot k : ℕ} (L : LaidIn w s) (u : AtParent s slot k) where
  -- so it is the parent's
  pub is_parent : (order : List ℕ) → ChildIn w s order slot → Parent w s.ed s.plens.now s.paths.now s.tlens.now s.trees.now order (path_in_slot s slot) k
  is_parent order c =
      let (j, p) = parent_there w s.ed s.plens.now s.paths.now s.tlens.now s.trees.now order (slot ∷ []) (path_in_slot s slot) c.between c.parent in
      subst (Parent w s.ed s.plens.now s.paths.now s.tlens.now s.trees.now order (path_in_slot s slot)) (one_slot w s.ed s.plens.now s.paths.now s.tlens.now s.trees.now L j k p.used u.0 (p.is.path ∙ sym u.1)) p

  module _ (f : Tree → Tree) {q : Store} (e : EditedIn w s k (f (tree_in_slot w s k)) q) where
    parent_going : (order : List ℕ) → ChildIn w s order slot →
        going_in w q order ≡ record { cache = cached_in w s; stack = (going_in w s order).stack; kept = change_at (dir (path_in_slot s slot)) f (going_in w s order).kept }
    parent_going order c =
        rw (e.keys.plens, e.keys.paths)
        (edit_going w s.ed s.plens.now s.paths.now s.tlens.now s.trees.now L order (slot ∷ []) c.between k u.0 (is_parent order c).aside f q.ed q.tlens.now q.trees.now e.edit
        ∙ ap (λ (x : Bytes). record { cache = cached_in w s; stack = (going_in w s order).stack; kept = change_at x f (going_in w s order).kept }) u.1)

  pub unlink_going : {q : Store} → EditedIn w s k (without (base (path_in_slot s slot)) (tree_in_slot w s k)) q →
      (order : List ℕ) → ChildIn w s order slot → going_in w q order ≡ unlinked_on (path_in_slot s slot) (going_in w s order)
  unfolding unlinked
  unlink_going e = parent_going (λ t. without (base (path_in_slot s slot)) t) e

  pub link_going : {q : Store} (i : Bytes) → EditedIn w s k (with_entry (record { mode = TREE; name = base (path_in_slot s slot); id = i }) (tree_in_slot w s k)) q →
      (order : List ℕ) → ChildIn w s order slot → going_in w q order ≡ linked_on i (path_in_slot s slot) (going_in w s order)
  unfolding linked
  link_going i e = parent_going (λ t. with_entry (record { mode = TREE; name = base (path_in_slot s slot); id = i }) t) e

-- the slot at a path where some used one is
pub slot_at : (r : Record) (plens paths : List ℕ) (p : Bytes) (f : Option ℕ) (d : ℕ) → length plens ≡ 64 → f ≡ find_from 0 (digits 64 r.free) (cut plens paths) p →
    (j : ℕ) × Used r j × (path_of plens paths j ≡ p) → Used r (unwrap_or f d) × (path_of plens paths (unwrap_or f d) ≡ p)
slot_at r plens paths p f d l e x = go f (subst (SlotIs 0 (digits 64 r.free) (cut plens paths) (cut plens paths) p) (sym e) (slot_is 0 r.free (cut plens paths) (cut plens paths) p n n))
  where
    n : length (cut plens paths) ≡ length (digits 64 r.free)
    n = length_cut plens paths ∙ l ∙ sym (length_digits 64 r.free)

    go : (f : Option ℕ) → SlotIs 0 (digits 64 r.free) (cut plens paths) (cut plens paths) p f → Used r (unwrap_or f d) × (path_of plens paths (unwrap_or f d) ≡ p)
    go (Some k) y = (record { low = omega (arith, length_digits 64 r.free, y.0); used = y.1 }, y.2)
    go None y =
        no_way (sym (path_among 0 r plens paths (cut plens paths) x.0 l (length_cut plens paths ∙ l) x.1) ∙ ap (λ (q : Bytes). among q (map at (slots_of 0 (digits 64 r.free) (cut plens paths) (cut plens paths)))) x.2 ∙ y.1)
