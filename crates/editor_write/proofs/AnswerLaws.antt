-- Laws of an answer: where nothing is set aside the start tree was requested and the write ends; else the tree's parent is set aside, and with the id in its entry the write is fair again, so that turns lead to the next request. Assumes nothing.
use Prim.Native.Nat.{ℕ, zero, suc}
use mathlib.Core.Path.{◌≡◌, refl, sym, ap, ◌∙◌, subst}
use mathlib.Core.Bool.{Bool, true, false}
use mathlib.Core.List.{List, [], ◌∷◌, map, reverse}
use mathlib.Core.Option.{none}
use native.Mathlib.Omega.{arith}
use lib.ListN.{length, take}
use Rattle.model.specs.Bytes.{Bytes, same, is_nil}
use Rattle.model.specs.Map.{put}
use Rattle.model.specs.Tree.{null}
use Rattle.model.specs.Editor.{Held, at, Cache, Start, from_root, start_path, fits}
use Rattle.model.specs.Editor.{Editor as Model}
use Rattle.model.specs.Formats.{sha1}
use Rattle.model.specs.Valid.{taken_good, valid}
use Rattle.model.specs.Write.{Going, Asking, asking, linked, bottom, closed, pick_editor, answered_in, answered}
use Rattle.model.specs.Write.{write_of as modelWrite}
use Rattle.model.proofs.Basics.{no_way, and_right}
use Rattle.model.proofs.Theorems.{answer_valid}
use Rattle.model.proofs.WriteKeeps.{Fair, FairAsk, asking_fair, valid_ask, taken_parent, link_fair}
use Rattle.store_slots.specs.View.{view_of, held_at, start_of, write_of, Laid, Ordered}
use Rattle.store_slots.specs.declared.Record.{Record}
use Rattle.store_taken.specs.Taken.{going_of, writing_of, Between}
use Rattle.store_taken.proofs.Steps.{asked_in_hand}
use Rattle.store_check.proofs.StoredLaws.{sha1_width}
use Rattle.store_check.proofs.Whole.{valid_fits}
use Rattle.editor_write_steps.specs.Writes.{linked_on, Child, Steady, asks_on}
use Rattle.editor_write_steps.proofs.FairLaws.{steady_fair}
use Rattle.editor_write_steps.proofs.TurnLaws.{kept_long, stack_long}
use Rattle.editor.specs.Lent.{Lent, Good, Does}
use Rattle.editor_write.specs.Steps.{exactly, HoldsExactly, Made}
use Rattle.editor_write.proofs.BackLaws.{refuses}
use Rattle.editor_write.proofs.BeginLaws.{asks_as}
use Rattle.editor_write.proofs.FailLaws.{laid_20, valid_20, made}

-- ---- the model's answer to an open write

module _ (i : Bytes) (c : Cache) (h : Held) (us ss : List Held) where
  answered_end : (n : ℕ) → (n ≡ 0 → ⊥) → is_nil us ≡ true → record { code = 0; editor = closed (start_of n (bottom h us).path) h c } ≡ answered sha1 i (record { cached = c; writing = write_of n h us ss })
  unfolding answered answered_in
  answered_end zero e k = absurd (e refl)
  answered_end (suc n) e k =
      let S : Start = start_of (suc n) (bottom h us).path in
      ap (λ (b : Bool). record { code = 0; editor = pick_editor b (closed S h c) (modelWrite S (asking (null sha1.width) ss (linked i h.path us) c)) }) (sym k)

  answered_on : (n : ℕ) → (n ≡ 0 → ⊥) → is_nil us ≡ false →
      record { code = 0; editor = modelWrite (start_of n (bottom h us).path) (asking (null sha1.width) ss (linked i h.path us) c) } ≡ answered sha1 i (record { cached = c; writing = write_of n h us ss })
  unfolding answered answered_in
  answered_on zero e k = absurd (e refl)
  answered_on (suc n) e k =
      let S : Start = start_of (suc n) (bottom h us).path in
      ap (λ (b : Bool). record { code = 0; editor = pick_editor b (closed S h c) (modelWrite S (asking (null sha1.width) ss (linked i h.path us) c)) }) (sym k)

  answered_shut : (n : ℕ) → n ≡ 0 → record { code = 10; editor = record { cached = c; writing = write_of n h us ss } } ≡ answered sha1 i (record { cached = c; writing = write_of n h us ss })
  unfolding answered
  answered_shut zero e = refl
  answered_shut (suc n) e = absurd (omega (arith, e))

closed_root : (n : ℕ) (p : Bytes) (h : Held) (c : Cache) → n ≡ 1 → record { cached = h ∷ []; writing = none } ≡ closed (start_of n p) h c
unfolding closed
closed_root n p h c e = ap (λ (m : ℕ). closed (start_of m p) h c) (sym e)

closed_cursor : (n : ℕ) (p : Bytes) (h : Held) (c : Cache) → (n ≡ 0 → ⊥) → (n ≡ 1 → ⊥) → record { cached = put at h c; writing = none } ≡ closed (start_of n p) h c
unfolding closed
closed_cursor zero p h c e f = absurd (e refl)
closed_cursor (suc zero) p h c e f = absurd (f refl)
closed_cursor (suc (suc n)) p h c e f = refl

-- where the write began, said of the start tree's path
start_again : (n : ℕ) (p : Bytes) → start_of n (start_path (start_of n p)) ≡ start_of n p
unfolding start_path
start_again zero p = refl
start_again (suc zero) p = refl
start_again (suc (suc n)) p = refl

-- ---- lists

none_left : (l : List Held) → is_nil l ≡ true → length l ≡ 0
none_left [] e = refl
none_left (x ∷ l) e = no_way (sym e)

some_left : (l : List Held) → (length l ≡ 0 → ⊥) → is_nil l ≡ false
some_left [] e = absurd (e refl)
some_left (x ∷ l) e = refl

-- the start tree is requested: nothing else is taken
alone_taken : (sp : Bytes) (h : Held) (ss us : List Held) → us ≡ [] → taken_good sp h ss us ≡ true → is_nil ss ≡ true
unfolding taken_good
alone_taken sp h ss us k e = and_right (same h.path sp) (is_nil ss) (ap (taken_good sp h ss) (sym k) ∙ e)

-- ---- refusals

pub answer_refused : (i : Bytes) (s : Lent) → Good s → s.ed.«open» ≡ 0 → Does (answered sha1 i) s 10 s
answer_refused i s g e = refuses (answered sha1 i) s 10 g (λ z. omega (arith, z)) (answered_shut i _ _ _ _ s.ed.«open» e)

-- ---- an open write

fair_of : (n : ℕ) (c : Cache) (h : Held) (us ss : List Held) → (n ≡ 0 → ⊥) → valid sha1 (record { cached = c; writing = write_of n h us ss }) ≡ true →
    FairAsk sha1 (start_path (start_of n (bottom h us).path)) (asks_on h (record { cache = c; stack = ss; kept = us }))
fair_of zero c h us ss e v = absurd (e refl)
fair_of (suc n) c h us ss e v = valid_ask sha1 c (record { start = start_of (suc n) (bottom h us).path; stacked = ss; aside = us; asked = h }) v

module _ (s : Lent) (h : HoldsExactly s) (n : s.ed.«open» ≡ 0 → ⊥) where
  abbrev asked : Held
  asked = held_at 20 s.plens s.paths s.tlens s.trees s.ed.asked

  abbrev before : Going
  before = going_of 20 s.ed s.plens s.paths s.tlens s.trees s.order

  abbrev began : Start
  began = start_of s.ed.«open» (bottom asked before.kept).path

  pub in_hand : Between s.ed s.order (s.ed.asked ∷ [])
  in_hand = asked_in_hand s.ed s.order h.ordered n

  fair : FairAsk sha1 (start_path began) (asks_on asked before)
  fair = fair_of s.ed.«open» before.cache asked before.kept before.stack n (valid_20 s h)

  -- the answer of an editor that is held
  answers : (i : Bytes) → length i ≡ 20 → (q : Lent) → Laid 20 q.ed q.plens q.paths q.tlens q.trees → Ordered q.ed q.order →
      record { code = 0; editor = exactly q } ≡ answered sha1 i (exactly s) → Made (answered sha1 i) s q
  answers i li q l o e = made (answered sha1 i) (λ E v. answer_valid sha1 i E (li ∙ sym sha1_width) v) s q h l o e

  -- nothing is set aside
  module _ (z : s.ed.aside ≡ 0) where
    no_kept : before.kept ≡ []
    no_kept = ap (λ (x : ℕ). reverse (map (held_at 20 s.plens s.paths s.tlens s.trees) (take x s.order))) z

    pub none_stacked : s.ed.stacked ≡ 0
    none_stacked =
        sym (stack_long s.ed s.order (s.ed.asked ∷ []) in_hand 20 s.plens s.paths s.tlens s.trees)
        ∙ none_left before.stack (alone_taken (start_path began) asked before.stack before.kept no_kept fair.place)

    module _ (i : Bytes) (li : length i ≡ 20) (q : Lent) (l : Laid 20 q.ed q.plens q.paths q.tlens q.trees) (o : Ordered q.ed q.order) where
      ends : exactly q ≡ closed began asked before.cache → Made (answered sha1 i) s q
      ends e =
          answers i li q l o
          (ap (λ (E : Model). record { code = 0; editor = E }) e ∙ answered_end i before.cache asked before.kept before.stack s.ed.«open» n (ap is_nil no_kept))

      pub ends_root : s.ed.«open» ≡ 1 → exactly q ≡ record { cached = asked ∷ []; writing = none } → Made (answered sha1 i) s q
      ends_root r e = ends (e ∙ closed_root s.ed.«open» _ asked before.cache r)

      pub ends_cursor : (s.ed.«open» ≡ 1 → ⊥) → exactly q ≡ record { cached = put at asked before.cache; writing = none } → Made (answered sha1 i) s q
      ends_cursor r e = ends (e ∙ closed_cursor s.ed.«open» _ asked before.cache n r)

  -- trees are set aside
  module _ (z : s.ed.aside ≡ 0 → ⊥) where
    some_kept : is_nil before.kept ≡ false
    some_kept = some_left before.kept (λ e. z (sym (kept_long s.ed s.order (s.ed.asked ∷ []) in_hand 20 s.plens s.paths s.tlens s.trees) ∙ e))

    pub child : Child 20 s.ed s.plens s.paths s.tlens s.trees s.order s.ed.asked
    child = record { between = in_hand; parent = taken_parent sha1 (start_path began) asked before.stack before.kept some_kept fair.place }

    pub room : fits (view_of 20 s.ed s.plens s.paths s.tlens s.trees) ≡ true
    room = valid_fits 20 s.ed s.plens s.paths s.tlens s.trees (laid_20 s h) s.order h.ordered sha1 sha1_width (valid_20 s h)

    module _ (i : Bytes) (li : length i ≡ 20) where
      abbrev after : Going
      after = linked_on i asked.path before

      fair_after : Fair sha1 (start_path began) after.stack after.kept after.cache
      fair_after =
          link_fair sha1 (start_path began) i before.cache (record { start = from_root; stacked = before.stack; aside = before.kept; asked = asked }) (li ∙ sym sha1_width) some_kept fair

      -- the tree is dropped, and its entry has the id
      module _ (one : Record) (plens paths tlens trees : List ℕ) (e : going_of 20 one plens paths tlens trees s.order ≡ after) where
        abbrev g : Going
        g = going_of 20 one plens paths tlens trees s.order

        pub linked_steady : (m : ℕ) × Steady (null 20) m g
        linked_steady = subst (λ (x : Going). (m : ℕ) × Steady (null 20) m x) (sym e) (subst (λ (w : ℕ). (m : ℕ) × Steady (null w) m after) sha1_width (steady_fair sha1 (start_path began) after fair_after))

        module _ (two : Record) (hand : ℕ) (q : Lent) where
          abbrev G : Going
          G = going_of 20 two q.plens q.paths q.tlens q.trees q.order

          abbrev H : Held
          H = held_at 20 q.plens q.paths q.tlens q.trees hand

          abbrev comes : Asking
          comes = asking (null sha1.width) after.stack after.kept after.cache

          pub goes_on_lem : asks_on H G ≡ asking (null 20) g.stack g.kept g.cache → two.«open» ≡ s.ed.«open» → Laid 20 q.ed q.plens q.paths q.tlens q.trees → Ordered q.ed q.order →
              exactly q ≡ writing_of two.«open» H G → Made (answered sha1 i) s q
          goes_on_lem a f l o w =
              let came : asks_on H G ≡ comes =
              a ∙ ap (λ (x : Going). asking (null 20) x.stack x.kept x.cache) e ∙ ap (λ (v : ℕ). asking (null v) after.stack after.kept after.cache) (sym sha1_width) in
              answers i li q l o
              (ap (λ (E : Model). record { code = 0; editor = E })
              (w ∙ ap (λ (m : ℕ). writing_of m H G) f
              ∙ asks_as (start_path began) s.ed.«open» H G comes came (asking_fair sha1 (start_path began) (null sha1.width) after.stack after.kept after.cache fair_after)
              ∙ ap (λ (S : Start). modelWrite S comes) (start_again s.ed.«open» (bottom asked before.kept).path))
              ∙ answered_on i before.cache asked before.kept before.stack s.ed.«open» n some_kept)
