-- What a scan has done after some of the entries: what is left of them decides the rest. Assumes nothing.
use mathlib.Core.Path.{◌≡◌, refl, sym, ap, ap₂, ◌∙◌, subst}
use mathlib.Core.Bool.{Bool, true, ◌&&◌, cond}
use mathlib.Core.Option.{none, some}
use mathlib.Core.Option.{Option as Maybe}
use Rattle.std.specs.Prelude.{Option, Some, None}
use mathlib.Core.List.{List, [], ◌∷◌, ◌++◌, reverse, append_assoc, reverse-cons}
use Prim.Native.Nat.{ℕ, ◌≤◌}
use native.Mathlib.Omega.{arith}
use lib.Dec.{eqb}
use lib.ListN.{length, get_or}
use Rattle.model.specs.Bytes.{Bytes}
use Rattle.model.specs.Map.{find}
use Rattle.model.specs.Tree.{is_tree, Entry, Tree, good_name, good_entries}
use Rattle.model.specs.Paths.{join}
use Rattle.model.specs.Editor.{Held, at}
use Rattle.model.specs.Write.{Going, scanned, one_kid}
use Rattle.model.proofs.Basics.{and_left, and_right}
use Rattle.model.specs.Order.{All}
use Rattle.names_compact.proofs.CompactLaws.{name_short}
use Rattle.store_runs.specs.Digits.{digits}
use Rattle.store_runs.specs.Runs.{cut}
use Rattle.store_runs.proofs.DigitLaws.{length_digits}
use Rattle.store_runs.proofs.RunLaws.{length_cut}
use Rattle.store_slots.specs.View.{held_in, Laid, SlotIs, held_at, cached_of}
use Rattle.store_slots.specs.declared.Record.{Record}
use Rattle.store_taken.specs.Taken.{going_of, Between, Cached, SameSlots}
use Rattle.store_taken.proofs.Steps.{laid_same}
use Rattle.editor_write_steps.specs.Writes.{kid_on, scanned_on, Stacks}

-- ---- the slot of a path

-- what the search of the cached slots ensures
abbrev pub Shows : Record → List ℕ → List ℕ → Bytes → Option ℕ → Type 0
Shows r plens paths path f = (w : ℕ) (runs : List Bytes) → length runs ≡ 64 → SlotIs w (digits 64 r.hidden) (cut plens paths) runs path f

module _ (r : Record) (plens paths : List ℕ) (path : Bytes) (f : Option ℕ) (s : Shows r plens paths path f) where
  at_slot : (k w : ℕ) (runs : List Bytes) → f ≡ Some k → length runs ≡ 64 → SlotIs w (digits 64 r.hidden) (cut plens paths) runs path (Some k)
  at_slot k w runs e l = subst (SlotIs w (digits 64 r.hidden) (cut plens paths) runs path) e (s w runs l)

  pub slot_cached : (k : ℕ) → f ≡ Some k → length plens ≡ 64 → Cached r k
  slot_cached k e l =
      let x = at_slot k 0 (cut plens paths) e (length_cut plens paths ∙ l) in
      record { low = omega (arith, x.0, length_digits 64 r.hidden); shown = x.1 }

  module _ (w : ℕ) (tlens trees : List ℕ) (L : Laid w r plens paths tlens trees) where
    pub slot_some : (k : ℕ) → f ≡ Some k → find at path (cached_of w r plens paths tlens trees) ≡ some (held_at w plens paths tlens trees k)
    slot_some k e =
        let x = at_slot k w (cut tlens trees) e (length_cut tlens trees ∙ L.tlens_64) in
        x.3 ∙ ap (λ (p : Bytes). some (held_in w p (get_or (cut tlens trees) k []))) (sym x.2)

    pub slot_none : f ≡ None → find at path (cached_of w r plens paths tlens trees) ≡ none
    slot_none e = (subst (SlotIs w (digits 64 r.hidden) (cut plens paths) (cut tlens trees) path) e (s w (cut tlens trees) (length_cut tlens trees ∙ L.tlens_64))).0

-- ---- one entry of a scan

scan_kid : (p : Bytes) (t : Tree) (o : Maybe Held) (g : Going) →
    record { cache = (one_kid o (λ d. scanned p t d) g.cache).left; stack = reverse (one_kid o (λ d. scanned p t d) g.cache).kids ++ g.stack; kept = g.kept } ≡ scanned_on p t (kid_on o g)
scan_kid p t none g = refl
scan_kid p t (some h) g =
    let d = (kid_on (some h) g).cache in
    ap (λ (l : List Held). record { cache = (scanned p t d).left; stack = l; kept = g.kept })
    (ap (λ (l : List Held). l ++ g.stack) (reverse-cons h (scanned p t d).kids) ∙ append_assoc (reverse (scanned p t d).kids) (h ∷ []) g.stack)

pub scan_entry : (p : Bytes) (e : Entry) (t : Tree) (g : Going) → scanned_on p (e ∷ t) g ≡ scanned_on p t (kid_on (cond (is_tree e.mode) (find at (join p e.name) g.cache) none) g)
scan_entry p e t g = scan_kid p t (cond (is_tree e.mode) (find at (join p e.name) g.cache) none) g

-- ---- what stays of the record

pub stacks_none : (r : Record) → Stacks r r
stacks_none r = record { slots = record { free = refl; paths = refl; trees = refl; entries = refl; names = refl }; «open» = refl; aside = refl; asked = refl }

pub slots_more : {r q s : Record} → SameSlots r q → SameSlots q s → SameSlots r s
slots_more a b =
    record {
      free = b.free ∙ a.free;
      paths = b.paths ∙ a.paths;
      trees = b.trees ∙ a.trees;
      entries = b.entries ∙ a.entries;
      names = b.names ∙ a.names;
    }

pub stacks_more : {r q s : Record} → Stacks r q → Stacks q s → Stacks r s
stacks_more a b = record { slots = slots_more a.slots b.slots; «open» = b.«open» ∙ a.«open»; aside = b.aside ∙ a.aside; asked = b.asked ∙ a.asked }

-- ---- the loop

-- the names of a tree's entries are short
abbrev pub Short : Entry → Type 0
Short e = length e.name ≤ 255

good_short : (w : ℕ) (t : Tree) → good_entries w t ≡ true → All Short t
good_short w [] g = tt
good_short w (e ∷ es) g = (
  name_short e.name (and_left (good_name e.name) (eqb (length e.id) w) (and_left (good_name e.name && eqb (length e.id) w) (good_entries w es) g)),
  good_short w es (and_right (good_name e.name && eqb (length e.id) w) (good_entries w es) g),
)

-- the entries `left` of the tree t at p are not scanned yet
pub record Scanning (plens paths : List ℕ) (p : Bytes) (t : Tree) (r : Record) (order : List ℕ) (q : Record) (order' : List ℕ) (left : Tree) : Type 0 where
  pub short : All Short left
  pub same : Stacks r q
  pub between : (hand : List ℕ) → Between r order hand → Between q order' hand
  pub rest : (w : ℕ) (tlens trees : List ℕ) → Laid w r plens paths tlens trees →
      scanned_on p left (going_of w q plens paths tlens trees order') ≡ scanned_on p t (going_of w r plens paths tlens trees order)

pub scan_begin : {plens paths : List ℕ} {p : Bytes} {t : Tree} {r : Record} {order : List ℕ} {left : Tree} (w : ℕ) → good_entries w t ≡ true → left ≡ t → Scanning plens paths p t r order r order left
scan_begin {plens} {paths} {p} {t} {r} {order} {left} w g e =
    record {
      short = subst (All Short) (sym e) (good_short w t g);
      same = stacks_none r;
      between = λ hand x. x;
      rest = λ v tlens trees L. ap (λ (x : Tree). scanned_on p x (going_of v r plens paths tlens trees order)) e;
    }

module _ {plens paths : List ℕ} {p : Bytes} {t : Tree} {r : Record} {order : List ℕ} {q : Record} {order' : List ℕ} {left : Tree} (s : Scanning plens paths p t r order q order' left) {e : Entry} {es : Tree} (h : left ≡ e ∷ es) where
  pub scan_more : {q₂ : Record} {order₂ : List ℕ} (path : Bytes) (b : Bool) → path ≡ join p e.name → b ≡ is_tree e.mode →
      Stacks q q₂ → ((hand : List ℕ) → Between q order' hand → Between q₂ order₂ hand) →
      ((w : ℕ) (tlens trees : List ℕ) → Laid w q plens paths tlens trees →
      going_of w q₂ plens paths tlens trees order₂ ≡ kid_on (cond b (find at path (cached_of w q plens paths tlens trees)) none) (going_of w q plens paths tlens trees order')) →
      Scanning plens paths p t r order q₂ order₂ es
  scan_more {q₂} {order₂} path b ep eb st bt go = record {
    short = (subst (All Short) h s.short).1;
    same = stacks_more s.same st;
    between = λ hand x. bt hand (s.between hand x);
    rest = λ w tlens trees L.
        let g = going_of w q plens paths tlens trees order' in
        let kid : cond b (find at path g.cache) none ≡ cond (is_tree e.mode) (find at (join p e.name) g.cache) none =
        ap₂ (λ (x : Bool) (y : Bytes). cond x (find at y g.cache) none) eb ep in
        ap (scanned_on p es) (go w tlens trees (laid_same w r q plens paths tlens trees s.same.slots L) ∙ ap (λ (o : Maybe Held). kid_on o g) kid)
        ∙ sym (scan_entry p e es g) ∙ ap (λ (l : Tree). scanned_on p l g) (sym h) ∙ s.rest w tlens trees L;
  }
