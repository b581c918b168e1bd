-- Laws of beginning a write: the start tree is stacked in an otherwise empty write, which is fair since the editor was valid; so turns lead to the first request. Assumes nothing.
use Prim.Native.Nat.{ℕ, ◌-◌, ◌≤◌}
use mathlib.Core.Path.{◌≡◌, refl, sym, ap, ap₂, ◌∙◌, subst}
use mathlib.Core.Bool.{Bool, true, false}
use mathlib.Core.List.{List, [], ◌∷◌, ◌++◌, map, reverse}
use mathlib.Core.Option.{Option, none, some}
use native.Mathlib.Omega.{arith}
use denote.Ref.{Bor}
use lib.ListN.{length, take, drop, get_or, drop_of_length-le}
use Rattle.std.specs.Prelude.{Option as Found, Some, None}
use Rattle.model.specs.Bytes.{Bytes, same}
use Rattle.model.specs.Map.{find, del, is_some}
use Rattle.model.specs.Tree.{null}
use Rattle.model.specs.Calls.{refuse_if}
use Rattle.model.specs.Editor.{Held, at, Cache, Start, from_cursor, start_path}
use Rattle.model.specs.Editor.{Editor as Model}
use Rattle.model.specs.Formats.{sha1}
use Rattle.model.specs.Valid.{taken_good, valid}
use Rattle.model.specs.Write.{Going, Asking, asking, bottom, write_of, begun_at, begun}
use Rattle.model.proofs.Basics.{and_left}
use Rattle.model.proofs.ByteLaws.{same_eq}
use Rattle.model.proofs.Theorems.{begin_valid}
use Rattle.model.proofs.WriteKeeps.{Fair, FairAsk, asking_fair, valid_shut, begin_fair}
use Rattle.store_runs.specs.Digits.{digits}
use Rattle.store_runs.specs.Runs.{cut}
use Rattle.store_runs.proofs.DigitLaws.{length_digits}
use Rattle.store_runs.proofs.RunLaws.{length_cut}
use Rattle.store_slots.specs.View.{slots_of, gather, held_at, path_of, cached_of, aside_of, stacked_of, start_of, marked, SlotIs, Laid, Closed, Ordered}
use Rattle.store_slots.specs.View.{write_of as writingAt}
use Rattle.store_slots.specs.Stores.{Shows}
use Rattle.store_slots.specs.declared.Record.{Record}
use Rattle.store_slots.specs.declared.Store.{Store}
use Rattle.store_slots.specs.declared.View.{View}
use Rattle.store_slots.proofs.Relaid.{find_slot}
use Rattle.store_taken.specs.Taken.{going_of, stacked_on, taken_off, writing_of, Marks, Between, Cached}
use Rattle.store_taken.proofs.Steps.{laid_same}
use Rattle.editor_write_steps.specs.Writes.{Steady, asks_on}
use Rattle.editor_write_steps.proofs.FairLaws.{steady_fair}
use Rattle.store_check.proofs.ChainLaws.{taken_start}
use Rattle.store_check.proofs.StoredLaws.{sha1_width}
use Rattle.editor.specs.Lent.{Lent, Good, viewed, Does}
use Rattle.editor.proofs.LookLaws.{opened as is_open, shut as is-shut}
use Rattle.editor_write.specs.Starts.{start_as, start_number}
use Rattle.editor_write.specs.declared.begin.Start.{Start as Where}
use Rattle.editor_write.specs.declared.begin.Start.TheVariants.{Root, Cursor}
use Rattle.editor_write.specs.Steps.{exactly, HoldsExactly, Made, Answers}
use Rattle.editor_write.proofs.BackLaws.{refuses, seen_is}
use Rattle.editor_write.proofs.FailLaws.{laid_20, valid_20, made}

-- ---- the request that a fair write comes to

-- the trees set aside end with the start tree
pub fair_start : (sp : Bytes) (a : Asking) → FairAsk sha1 sp a → (bottom a.ask a.rest.kept).path ≡ sp
fair_start sp a f =
    let b : Held = bottom a.ask a.rest.kept in
    same_eq b.path sp (and_left (same b.path sp) (taken_good b.path a.ask a.rest.stack a.rest.kept) (sym (taken_start sp a.ask a.rest.stack a.rest.kept) ∙ f.place))

-- the write that is open then, which began at sp
pub asks_as : (sp : Bytes) (n : ℕ) (h : Held) (g : Going) (a : Asking) → asks_on h g ≡ a → FairAsk sha1 sp a → writing_of n h g ≡ write_of (start_of n sp) a
asks_as sp n h g a e f =
    ap (λ (p : Bytes). write_of (start_of n p) (asks_on h g)) (fair_start sp (asks_on h g) (subst (FairAsk sha1 sp) (sym e) f)) ∙ ap (write_of (start_of n sp)) e

-- ---- where it begins

pub start_is : (x : Where) (p : Bytes) → start_path (start_as x) ≡ p → start_of (start_number x) p ≡ start_as x
unfolding start_path
start_is Root p e = refl
start_is (Cursor prefix) p e = ap from_cursor (sym e)

pub root_path : {x : Where} → x ≡ Root → [] ≡ start_path (start_as x)
unfolding start_path
root_path e = sym (ap (λ (x : Where). start_path (start_as x)) e)

pub cursor_path : {x : Where} {p : Bor Bytes} → x ≡ Cursor p → p.now ≡ start_path (start_as x)
unfolding start_path
cursor_path e = sym (ap (λ (x : Where). start_path (start_as x)) e)

-- the search of a view is one of the store
pub found_in : {v : View} {s : Store} {p q : Bytes} (f : Found ℕ) → Shows v s → p ≡ q →
    ((w : ℕ) (runs : List Bytes) → length runs ≡ 64 → SlotIs w (digits 64 v.ed.hidden) (cut v.plens.now v.paths.now) runs p f) →
    (w : ℕ) (runs : List Bytes) → length runs ≡ 64 → SlotIs w (digits 64 s.ed.hidden) (cut s.plens.now s.paths.now) runs q f
found_in {s = s} {p} f h e r w runs l =
    subst (λ (y : Bytes). SlotIs w (digits 64 s.ed.hidden) (cut s.plens.now s.paths.now) runs y f) e
    (subst (λ (x : Lent). SlotIs w (digits 64 x.ed.hidden) (cut x.plens x.paths) runs p f) (seen_is h []) (r w runs l))

number_low : (x : Where) → 1 ≤ start_number x
number_low Root = omega arith
number_low (Cursor prefix) = omega arith

number_high : (x : Where) → start_number x ≤ 2
number_high Root = omega arith
number_high (Cursor prefix) = omega arith

-- ---- an open write with no tree taken

abbrev pub opened : Record → ℕ → Record
opened r n = record { free = r.free; hidden = r.hidden; paths = r.paths; trees = r.trees; entries = r.entries; names = r.names; «open» = n; aside = r.aside; stacked = r.stacked; asked = r.asked }

module _ (r : Record) (order : List ℕ) (o : Ordered r order) (z : r.«open» ≡ 0) where
  k : Closed r
  k = o.closed z

  none_stacked : drop (64 - r.stacked) order ≡ []
  none_stacked = ap (λ (x : ℕ). drop (64 - x) order) k.stacked ∙ drop_of_length-le order {i = 64 - 0} (omega (arith, o.order_64))

  none_taken : take r.aside order ++ drop (64 - r.stacked) order ≡ []
  none_taken = ap₂ (λ (x : ℕ) (y : List ℕ). take x order ++ y) k.aside none_stacked

  pub opened_between : (n : ℕ) (x : Where) → n ≡ start_number x → Between (opened r n) order []
  unfolding marked
  opened_between n x e =
      record {
        order_64 = o.order_64;
        under_way = λ z. omega (arith, z, e, number_low x);
        from = omega (arith, e, number_high x);
        room = omega (arith, k.aside, k.stacked);
        marks = subst (Marks (opened r n)) (sym none_taken) (record { used = tt; apart = refl; hidden = ap (digits 64) k.hidden });
      }

  opened_going : (n w : ℕ) (plens paths tlens trees : List ℕ) → going_of w (opened r n) plens paths tlens trees order ≡ record { cache = cached_of w r plens paths tlens trees; stack = []; kept = [] }
  opened_going n w plens paths tlens trees =
      ap₂ (λ (x : List ℕ) (y : ℕ). record { cache = cached_of w r plens paths tlens trees; stack = map (held_at w plens paths tlens trees) x; kept = reverse (map (held_at w plens paths tlens trees) (take y order)) }) none_stacked k.aside

-- ---- the model's answer

begun_at_lem : (S : Start) (c : Cache) (h : Held) → find at (start_path S) c ≡ some h →
    begun sha1 S (record { cached = c; writing = none }) ≡ record { code = 0; editor = write_of S (asking (null sha1.width) (h ∷ []) [] (del at (start_path S) c)) }
unfolding begun begun_at refuse_if
begun_at_lem S c h e = ap (begun_at sha1 S (record { cached = c; writing = none })) e

begun_stale : (S : Start) (E : Model) → is_some E.writing ≡ false → find at (start_path S) E.cached ≡ none → record { code = 8; editor = E } ≡ begun sha1 S E
unfolding begun begun_at refuse_if
begun_stale S E w e = sym (ap₂ (λ (b : Bool) (o : Option Held). refuse_if b 9 E (begun_at sha1 S E o)) w e)

begun_open : (S : Start) (E : Model) → is_some E.writing ≡ true → record { code = 9; editor = E } ≡ begun sha1 S E
unfolding begun refuse_if
begun_open S E w = sym (ap (λ (b : Bool). refuse_if b 9 E (begun_at sha1 S E (find at (start_path S) E.cached))) w)

-- ---- refusals

pub begin_refused : (S : Start) (s : Lent) → Good s → (s.ed.«open» ≡ 0 → ⊥) → Does (begun sha1 S) s 9 s
begin_refused S s g n =
    refuses (begun sha1 S) s 9 g (λ z. omega (arith, z))
    (begun_open S (viewed s) (is_open s.ed (take 64 s.plens) (take 8192 s.paths) (take 64 s.tlens) (take 38912 s.trees) (take 64 s.order) n))

module _ (s : Lent) (h : HoldsExactly s) (z : s.ed.«open» ≡ 0) (S : Start) (f : Found ℕ)
    (ready : (w : ℕ) (runs : List Bytes) → length runs ≡ 64 → SlotIs w (digits 64 s.ed.hidden) (cut s.plens s.paths) runs (start_path S) f) where
  here : SlotIs 20 (digits 64 s.ed.hidden) (cut s.plens s.paths) (cut s.tlens s.trees) (start_path S) f
  here = ready 20 (cut s.tlens s.trees) (length_cut s.tlens s.trees ∙ h.laid.tlens_64)

  pub begin_stale : f ≡ None → Answers (begun sha1 S) s 8 s
  begin_stale e =
      let y : SlotIs 20 (digits 64 s.ed.hidden) (cut s.plens s.paths) (cut s.tlens s.trees) (start_path S) None = subst (λ (x : Found ℕ). SlotIs 20 (digits 64 s.ed.hidden) (cut s.plens s.paths) (cut s.tlens s.trees) (start_path S) x) e here in
      record {
        holds = h;
        is = begun_stale S (exactly s) (is-shut s.ed s.plens s.paths s.tlens s.trees s.order z) y.0;
        kept = λ n. refl;
        usual = λ n. omega (arith, n);
      }

  module _ (k : ℕ) (e : f ≡ Some k) where
    found_at : SlotIs 20 (digits 64 s.ed.hidden) (cut s.plens s.paths) (cut s.tlens s.trees) (start_path S) (Some k)
    found_at = subst (λ (x : Found ℕ). SlotIs 20 (digits 64 s.ed.hidden) (cut s.plens s.paths) (cut s.tlens s.trees) (start_path S) x) e here

    pub slot_cached : Cached s.ed k
    slot_cached = record { low = omega (arith, found_at.0, length_digits 64 s.ed.hidden); shown = found_at.1 }

    pub slot_starts : start_path S ≡ path_of s.plens s.paths k
    slot_starts = sym found_at.2

-- ---- the write begins at the tree in a slot

module _ (s : Lent) (h : HoldsExactly s) (z : s.ed.«open» ≡ 0) (slot : ℕ) (k : Cached s.ed slot) where
  abbrev c : Cache
  c = cached_of 20 s.ed s.plens s.paths s.tlens s.trees

  abbrev p : Bytes
  p = path_of s.plens s.paths slot

  abbrev start : Held
  start = held_at 20 s.plens s.paths s.tlens s.trees slot

  shut : s.ed.hidden ≡ s.ed.free
  shut = (h.ordered.closed z).hidden

  found : find at p c ≡ some start
  found =
      ap (λ (n : ℕ). find at p (gather (slots_of 20 (digits 64 n) (cut s.plens s.paths) (cut s.tlens s.trees)))) shut
      ∙ find_slot 20 s.ed s.plens s.paths s.tlens s.trees (laid_20 s h) slot k.low (ap (λ (n : ℕ). get_or (digits 64 n) slot 0) (sym shut) ∙ k.shown)

  idle : exactly s ≡ record { cached = c; writing = none }
  idle = ap (λ (n : ℕ). record { cached = c; writing = writingAt n (held_at 20 s.plens s.paths s.tlens s.trees s.ed.asked) (aside_of 20 s.ed s.plens s.paths s.tlens s.trees s.order) (stacked_of 20 s.ed s.plens s.paths s.tlens s.trees s.order) }) z

  pub opened_laid : (n : ℕ) → Laid 20 (opened s.ed n) s.plens s.paths s.tlens s.trees
  opened_laid n = laid_same 20 s.ed (opened s.ed n) s.plens s.paths s.tlens s.trees (record { free = refl; paths = refl; trees = refl; entries = refl; names = refl }) (laid_20 s h)

  -- the start tree alone is stacked
  abbrev first : Going
  first = record { cache = del at p c; stack = start ∷ []; kept = [] }

  fair : Fair sha1 p (start ∷ []) [] (del at p c)
  fair = begin_fair sha1 p c start found (valid_shut sha1 c (ap (valid sha1) (sym idle) ∙ valid_20 s h))

  module _ (n : ℕ) (one : Record) (order : List ℕ)
      (e : going_of 20 one s.plens s.paths s.tlens s.trees order ≡ stacked_on start (taken_off start (going_of 20 (opened s.ed n) s.plens s.paths s.tlens s.trees s.order))) where
    abbrev g : Going
    g = going_of 20 one s.plens s.paths s.tlens s.trees order

    stacks : g ≡ first
    stacks = e ∙ ap (λ (y : Going). stacked_on start (taken_off start y)) (opened_going s.ed s.order h.ordered z n 20 s.plens s.paths s.tlens s.trees)

    pub first_steady : (m : ℕ) × Steady (null 20) m g
    first_steady = subst (λ (y : Going). (m : ℕ) × Steady (null 20) m y) (sym stacks) (subst (λ (w : ℕ). (m : ℕ) × Steady (null w) m first) sha1_width (steady_fair sha1 p first fair))

    module _ (x : Where) (t : start_path (start_as x) ≡ p) (two : Record) (hand : ℕ) (q : Lent) where
      abbrev G : Going
      G = going_of 20 two q.plens q.paths q.tlens q.trees q.order

      abbrev H : Held
      H = held_at 20 q.plens q.paths q.tlens q.trees hand

      abbrev S : Start
      S = start_as x

      -- what the turns came to
      came : asks_on H G ≡ asking (null 20) g.stack g.kept g.cache → asks_on H G ≡ asking (null sha1.width) (start ∷ []) [] (del at p c)
      came a = a ∙ ap (λ (y : Going). asking (null 20) y.stack y.kept y.cache) stacks ∙ ap (λ (w : ℕ). asking (null w) (start ∷ []) [] (del at p c)) (sym sha1_width)

      answer : begun sha1 S (exactly s) ≡ record { code = 0; editor = write_of S (asking (null sha1.width) (start ∷ []) [] (del at p c)) }
      answer =
          ap (begun sha1 S) idle
          ∙ begun_at_lem S c start (ap (λ (y : Bytes). find at y c) t ∙ found)
          ∙ ap (λ (y : Bytes). record { code = 0; editor = write_of S (asking (null sha1.width) (start ∷ []) [] (del at y c)) }) t

      pub begins : asks_on H G ≡ asking (null 20) g.stack g.kept g.cache → two.«open» ≡ start_number x → Laid 20 q.ed q.plens q.paths q.tlens q.trees → Ordered q.ed q.order →
          exactly q ≡ writing_of two.«open» H G → Made (begun sha1 S) s q
      begins a f l o w =
          made (begun sha1 S) (λ E v. begin_valid sha1 S E v) s q h l o
          (ap (λ (E : Model). record { code = 0; editor = E })
          (w ∙ ap (λ (m : ℕ). writing_of m H G) f
          ∙ asks_as p (start_number x) H G (asking (null sha1.width) (start ∷ []) [] (del at p c)) (came a) (asking_fair sha1 p (null sha1.width) (start ∷ []) [] (del at p c) fair)
          ∙ ap (λ (y : Start). write_of y (asking (null sha1.width) (start ∷ []) [] (del at p c))) (start_is x p t))
          ∙ sym answer)
