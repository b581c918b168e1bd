-- Laws of edits of a store: the tests come in the order of the numbers, and what the passes leave is an editor again. Assumes nothing.
use Prim.Native.Nat.{ℕ, zero, suc, ◌≤◌, ◌<◌}
use mathlib.Core.Path.{◌≡◌, refl, sym, ap, ◌∙◌, subst}
use mathlib.Core.Bool.{Bool, true, false, not}
use mathlib.Core.List.{List, [], ◌∷◌, ◌++◌}
use mathlib.Core.Logic.{inl, inr}
use mathlib.Core.Option.{Option, none}
use Rattle.std.specs.Prelude.{Option as Opt, Some, None, Result, Ok, Err}
use native.Mathlib.Omega.{arith}
use lib.Dec.{leb}
use lib.ListN.{length, take, drop, replicate, take-append-drop}
use lib.Seq.{take-append_seam, drop-append_seam, length-take-le}
use borrow.Author.Tests.{leb-true, leb-false}
use Rattle.model.specs.Bytes.{Bytes}
use Rattle.model.specs.Map.{find, is_some}
use Rattle.model.specs.Tree.{TREE, null}
use Rattle.model.specs.Paths.{components, full, refused}
use Rattle.model.specs.Table.{Table, good_table}
use Rattle.model.specs.Editor.{Held, at, Cache, Write, tree_at}
use Rattle.model.specs.Editor.{Editor as Model}
use Rattle.model.specs.Formats.{sha1}
use Rattle.model.specs.Walk.{Edit, upsert, Walked, walk}
use Rattle.model.specs.Measure.{counts_of}
use Rattle.model.specs.Calls.{refuse_if, settled, edited}
use Rattle.model.specs.Calls.{Answer as Answered}
use Rattle.model.specs.Calls.{opened as opens}
use Rattle.model.specs.Valid.{valid}
use Rattle.model.specs.AllCalls.{GoodEdit}
use Rattle.model.proofs.EditKeeps.{edited_valid}
use Rattle.model.proofs.LowNumbers.{measured_low}
use Rattle.model.proofs.MeasureRight.{measure_code}
use Rattle.store_runs.specs.Digits.{digits}
use Rattle.store_runs.specs.Runs.{cut}
use Rattle.store_slots.specs.View.{slots_of, gather, held_at, view_of, aside_of, stacked_of, write_of, editor_of, path_of, Laid, tree_room, Closed}
use Rattle.store_slots.specs.declared.Record.{Record}
use Rattle.store_slots.specs.declared.Store.{Store}
use Rattle.store_slots.specs.Stores.{LaidIn, view_in}
use Rattle.store_slots.proofs.Relaid.{find_slot}
use Rattle.store_check.specs.Stored.{Stored}
use Rattle.store_check.proofs.StoredLaws.{sha1_width, sha1_room}
use Rattle.editor_terms.specs.Answers.{Answer, code_number, refusal_number}
use Rattle.editor_terms.specs.Edits.{as_edit}
use Rattle.editor_terms.specs.Objects.{table_of}
use Rattle.editor_terms.specs.Tables.{table_in, objects_in, ChecksAs}
use Rattle.editor_terms.specs.declared.table.Table.{Table as Lent_table}
use Rattle.editor_terms.specs.declared.table.Objects.{Objects}
use Rattle.editor_terms.specs.declared.refusal.Refusal.{Refusal}
use Rattle.editor_terms.specs.declared.refusal.Refusal.TheVariants.{WriteOpen, BadTable}
use Rattle.editor_terms.specs.declared.edit.Edit.{Edit as Asked}
use Rattle.editor_walk.specs.Steps.{Standing, editor_at, SettledAs}
use Rattle.editor_walk.proofs.SettleLaws.{short_path}
use Rattle.editor.specs.Edited.{EditedAs, EditedIn}
use Rattle.editor.specs.Lent.{Lent, lent, Good, viewed, editor_in, Behind, Still, Does}
use Rattle.editor.specs.Looks.{ReadyIs, NotReady}
use Rattle.editor.proofs.LookLaws.{opened, shut, here, Begun, begun, front_within, front_closed, trees_long}

abbrev answered : ℕ → Model → Answered
answered n E = record { code = n; editor = E }

-- ---- the model's edit, test by test

module _ (T : Table) (e : Edit) (opening : Bool) (prefix path : Bytes) (E : Model) where
  edited_open : is_some E.writing ≡ true → answered 9 E ≡ edited sha1 T e opening prefix path E
  unfolding edited refuse_if
  edited_open o = rw o refl

  edited_table : is_some E.writing ≡ false → good_table sha1.width T ≡ false → answered 7 E ≡ edited sha1 T e opening prefix path E
  unfolding edited refuse_if
  edited_table o t = rw (o, t) refl

  edited_stale : is_some E.writing ≡ false → good_table sha1.width T ≡ true → is_some (find at prefix E.cached) ≡ false → answered 8 E ≡ edited sha1 T e opening prefix path E
  unfolding edited refuse_if
  edited_stale o t f = rw (o, t, f) refl

  edited_refused : is_some E.writing ≡ false → good_table sha1.width T ≡ true → is_some (find at prefix E.cached) ≡ true → refused prefix path ≡ true → answered 6 E ≡ edited sha1 T e opening prefix path E
  unfolding edited refuse_if
  edited_refused o t f g = rw (o, t, f, g) refl

  edited_on : is_some E.writing ≡ false → good_table sha1.width T ≡ true → is_some (find at prefix E.cached) ≡ true → refused prefix path ≡ false →
      settled E (walk sha1 T e opening (components path) prefix E.cached) ≡ edited sha1 T e opening prefix path E
  unfolding edited refuse_if
  edited_on o t f g = rw (o, t, f, g) refl

-- ---- an editor with no write open

pub no_writing : (n : ℕ) (h : Held) (us ss : List Held) → n ≡ 0 → write_of n h us ss ≡ none
no_writing zero h us ss e = refl
no_writing (suc n) h us ss e = absurd (omega (arith, e))

abbrev model_of : Cache → Option Write → Model
model_of c w = record { cached = c; writing = w }

module _ (r : Record) (plens paths tlens trees order : List ℕ) where
  pub idle : r.«open» ≡ 0 → r.hidden ≡ r.free → editor_of 20 r plens paths tlens trees order ≡ editor_at (view_of 20 r plens paths tlens trees)
  idle o h =
      ap (λ (n : ℕ). model_of (gather (slots_of 20 (digits 64 n) (cut plens paths) (cut tlens trees))) (editor_of 20 r plens paths tlens trees order).writing) h
      ∙ ap (λ (w : Option Write). model_of (view_of 20 r plens paths tlens trees) w)
      (no_writing r.«open» (held_at 20 plens paths tlens trees r.asked) (aside_of 20 r plens paths tlens trees order) (stacked_of 20 r plens paths tlens trees order) o)

-- ---- the object table

checks_as : (t : Lent_table) (o : Opt Objects) (x : Opt Objects) → ChecksAs t o → o ≡ x → ChecksAs t x
checks_as t o x k e = subst (ChecksAs t) e k

pub no_table : (t : Lent_table) (o : Opt Objects) → ChecksAs t o → o ≡ None → good_table 20 (table_in t) ≡ false
no_table t o k e = checks_as t o None k e

module _ (t : Lent_table) (o : Opt Objects) (x : Objects) (k : ChecksAs t o) (e : o ≡ Some x) where
  pub good_objects : good_table 20 (table_in t) ≡ true
  good_objects = (checks_as t o (Some x) k e).0

  pub same_objects : objects_in x ≡ table_in t
  same_objects =
      let z = checks_as t o (Some x) k e in
      ap (λ (y : Bytes). table_of y x.ends.now x.raws.now) z.1 ∙ ap (λ (y : List ℕ). table_of t.ids.now y x.raws.now) z.2 ∙ ap (λ (y : Bytes). table_of t.ids.now t.ends.now y) z.3

-- ---- the number of a walk is at most 4

settled_low : (E : Model) (w : Walked) → w.code ≤ 4 → (settled E w).code ≤ 5
unfolding settled refuse_if
settled_low E w h = go w.kept where
  go : (b : Bool) → (refuse_if (not b) 5 E (record { code = w.code; editor = record { cached = w.now; writing = none } })).code ≤ 5
  go true = omega (arith, h)
  go false = omega arith

-- ---- the answers over slices as long as a store

module _ (T : Table) (e : Edit) (opening : Bool) (prefix path : Bytes) (s : Store) (order : List ℕ) where
  abbrev E : Model
  E = editor_in s order

  abbrev c : Cache
  c = view_in 20 s

  abbrev Told : Answer → Store → Type 0
  Told = EditedIn s order (edited sha1 T e opening prefix path E)

  refuses : (k : Refusal) → Still (refusal_number k) → refusal_number k ≤ 12 → answered (refusal_number k) E ≡ edited sha1 T e opening prefix path E → Told (Err k) s
  refuses k h l m = record { made = m; same = λ z. (refl, refl, refl, refl, refl); stand = λ z. absurd (z h); usual = λ z. omega (arith, l, z) }

  wide : {b : Bool} → good_table 20 T ≡ b → good_table sha1.width T ≡ b
  wide t = ap (λ (w : ℕ). good_table w T) sha1_width ∙ t

  idle_now : s.ed.«open» ≡ 0 → is_some E.writing ≡ false
  idle_now = shut s.ed s.plens.now s.paths.now s.tlens.now s.trees.now order

  pub is_open : (s.ed.«open» ≡ 0 → ⊥) → Told (Err WriteOpen) s
  is_open o = refuses WriteOpen (omega arith) (omega arith) (edited_open T e opening prefix path E (opened s.ed s.plens.now s.paths.now s.tlens.now s.trees.now order o))

  pub bad_table : s.ed.«open» ≡ 0 → good_table 20 T ≡ false → Told (Err BadTable) s
  bad_table o t = refuses BadTable (omega arith) (omega arith) (edited_table T e opening prefix path E (idle_now o) (wide t))

  module _ (x : Result ℕ Refusal) (L : LaidIn 20 s) (o : s.ed.«open» ≡ 0) (h : s.ed.hidden ≡ s.ed.free) (t : good_table 20 T ≡ true)
      (ready : (w : ℕ) (runs : List Bytes) → length runs ≡ 64 → ReadyIs w (digits 64 s.ed.hidden) (cut s.plens.now s.paths.now) runs prefix path x) where
    pub not_ready : (k : Refusal) → x ≡ Err k → Told (Err k) s
    not_ready k f = go (here s.ed s.plens.now s.paths.now s.tlens.now s.trees.now prefix path x L h ready (Err k) f) where
      go : NotReady 20 (digits 64 s.ed.hidden) (cut s.plens.now s.paths.now) (cut s.tlens.now s.trees.now) prefix path (refusal_number k) → Told (Err k) s
      go (inl (n, z)) = refuses k (omega (arith, n)) (omega (arith, n)) (ap (λ (y : ℕ). answered y E) n ∙ edited_stale T e opening prefix path E (idle_now o) (wide t) (ap is_some z.0))
      go (inr (n, y, z)) = refuses k (omega (arith, n)) (omega (arith, n)) (ap (λ (y : ℕ). answered y E) n ∙ edited_refused T e opening prefix path E (idle_now o) (wide t) y z)

    module _ (slot : ℕ) (f : x ≡ Ok slot) (v : valid sha1 (editor_at c) ≡ true) where
      abbrev q : Bytes
      q = path_of s.plens.now s.paths.now slot

      abbrev m : Answered
      m = settled (editor_at c) (walk sha1 T e opening (components path) q c)

      b : Begun s.ed s.plens.now s.paths.now s.tlens.now s.trees.now prefix path slot
      b = begun s.ed s.plens.now s.paths.now s.tlens.now s.trees.now prefix path x L h ready slot f

      m_low : m.code ≤ 5
      m_low =
          let l = measured_low sha1 T e opening (components path) q (tree_at q c) c (counts_of c) in
          let z : is_some (find at q c) ≡ true = ap (λ (y : Option Held). is_some y) (find_slot 20 s.ed s.plens.now s.paths.now s.tlens.now s.trees.now L slot b.used.low b.used.used) in
          settled_low (editor_at c) (walk sha1 T e opening (components path) q c) (omega (arith, l, measure_code sha1 T e opening q path c v z))

      m_edited : m ≡ edited sha1 T e opening prefix path E
      m_edited =
          ap (λ (p : Bytes). settled (editor_at c) (walk sha1 T e opening (components path) p c)) b.stands
          ∙ ap (λ (X : Model). settled X (walk sha1 T e opening (components path) prefix X.cached)) (sym (idle s.ed s.plens.now s.paths.now s.tlens.now s.trees.now order o h))
          ∙ edited_on T e opening prefix path E (idle_now o) (wide t) b.cached b.fine

      pub is_settled : (a : Answer) (z : Store) → SettledAs s m a z → Told a z
      is_settled a z d =
          record {
            made =
                ap (answered (code_number a)) (idle z.ed z.plens.now z.paths.now z.tlens.now z.trees.now order (d.stand.write.«open» ∙ o) d.stand.closed)
                ∙ ap (answered (code_number a)) d.now
                ∙ ap (λ (n : ℕ). answered n m.editor) d.code
                ∙ m_edited;
            same = λ y. d.same (omega (arith, y, d.code, m_low));
            stand = λ y. (o, d.stand);
            usual = λ y. omega (arith, y, d.code, m_low);
          }

-- ---- the fronts, and what lies behind them

module _ (k : ℕ) (P p : List ℕ) where
  back_same : p ≡ take k P → p ++ drop k P ≡ P
  back_same e = ap (λ (x : List ℕ). x ++ drop k P) e ∙ take-append-drop k P

  module _ (l : length p ≡ k) where
    front_of_lem : take k (p ++ drop k P) ≡ p
    front_of_lem = subst (λ (n : ℕ). take n (p ++ drop k P) ≡ p) l (take-append_seam p (drop k P))

    behind_of : drop k (p ++ drop k P) ≡ drop k P
    behind_of = subst (λ (n : ℕ). drop n (p ++ drop k P) ≡ drop k P) l (drop-append_seam p (drop k P))

    room_of : k ≤ length (p ++ drop k P)
    room_of = front_within k (p ++ drop k P) (ap length front_of_lem ∙ l)

module _ (r : Record) (plens paths tlens trees order : List ℕ) (g : Stored sha1 r plens paths tlens trees order) where
  front_good : valid sha1 (editor_of 20 r (take 64 plens) (take 8192 paths) (take 64 tlens) (take 38912 trees) (take 64 order)) ≡ true
  front_good = subst (λ (w : ℕ). valid sha1 (editor_of w r (take 64 plens) (take 8192 paths) (take 64 tlens) (take (tree_room w) trees) (take 64 order)) ≡ true) sha1_width g.holds.valid

  pub front_valid : r.«open» ≡ 0 → valid sha1 (editor_at (view_of 20 r (take 64 plens) (take 8192 paths) (take 64 tlens) (take 38912 trees))) ≡ true
  front_valid o =
      ap (valid sha1) (sym (idle r (take 64 plens) (take 8192 paths) (take 64 tlens) (take 38912 trees) (take 64 order) o (front_closed r plens paths tlens trees order g o)))
      ∙ front_good

-- ---- the answers over a lent store

module _ (T : Table) (edit : Asked) (opening : Bool) (prefix path : Bytes) (r : Record) (plens paths tlens trees order : List ℕ) where
  abbrev S : Lent
  S = lent r plens paths tlens trees order

  abbrev f : Model → Answered
  f = edited sha1 T (as_edit edit) opening prefix path

  module _ (g : Stored sha1 r plens paths tlens trees order) (a : Answer) (r' : Record) (p q t u : List ℕ)
      (good_edit : GoodEdit sha1 (as_edit edit))
      (x : EditedAs r (take 64 plens) (take 8192 paths) (take 64 tlens) (take 38912 trees) (take 64 order) (edited sha1 T (as_edit edit) opening prefix path (editor_of 20 r (take 64 plens) (take 8192 paths) (take 64 tlens) (take 38912 trees) (take 64 order))) a r' p q t u) where
    abbrev P : List ℕ
    P = p ++ drop 64 plens

    abbrev Q : List ℕ
    Q = q ++ drop 8192 paths

    abbrev U : List ℕ
    U = t ++ drop 64 tlens

    abbrev Y : List ℕ
    Y = u ++ drop 38912 trees

    abbrev left : Lent
    left = lent r' P Q U Y order

    same_all : Still (code_number a) → left ≡ S
    same_all h =
        let z = x.same h in
        ap (λ (y : Record). lent y P Q U Y order) z.0
        ∙ ap (λ (y : List ℕ). lent r y Q U Y order) (back_same 64 plens p z.1)
        ∙ ap (λ (y : List ℕ). lent r plens y U Y order) (back_same 8192 paths q z.2)
        ∙ ap (λ (y : List ℕ). lent r plens paths y Y order) (back_same 64 tlens t z.3)
        ∙ ap (λ (y : List ℕ). lent r plens paths tlens y order) (back_same 38912 trees u z.4)

    module _ (lp : length p ≡ 64) (lq : length q ≡ 8192) (lt : length t ≡ 64) (lu : length u ≡ 38912) where
      view_left : editor_of 20 r' p q t u (take 64 order) ≡ viewed left
      view_left =
          ap (λ (y : List ℕ). editor_of 20 r' y q t u (take 64 order)) (sym (front_of_lem 64 plens p lp))
          ∙ ap (λ (y : List ℕ). editor_of 20 r' (take 64 P) y t u (take 64 order)) (sym (front_of_lem 8192 paths q lq))
          ∙ ap (λ (y : List ℕ). editor_of 20 r' (take 64 P) (take 8192 Q) y u (take 64 order)) (sym (front_of_lem 64 tlens t lt))
          ∙ ap (λ (y : List ℕ). editor_of 20 r' (take 64 P) (take 8192 Q) (take 64 U) y (take 64 order)) (sym (front_of_lem 38912 trees u lu))

      made_left : answered (code_number a) (viewed left) ≡ f (viewed S)
      made_left = ap (answered (code_number a)) (sym view_left) ∙ x.made

      valid_left : valid sha1 (viewed left) ≡ true
      valid_left =
          ap (λ (z : Answered). valid sha1 z.editor) made_left
          ∙ edited_valid sha1 T (as_edit edit) opening prefix path (viewed S) good_edit (front_good r plens paths tlens trees order g)

      behind_left : Behind S left
      behind_left = record { plens = behind_of 64 plens p lp; paths = behind_of 8192 paths q lq; tlens = behind_of 64 tlens t lt; trees = behind_of 38912 trees u lu; order = refl }

      stood_left : (r.«open» ≡ 0) × Standing r r' p q t u → Good left
      stood_left (o, s) =
          let laid : Laid 20 r' (take 64 P) (take 8192 Q) (take 64 U) (take 38912 Y) =
          subst (λ (y : List ℕ). Laid 20 r' (take 64 P) (take 8192 Q) (take 64 U) y) (sym (front_of_lem 38912 trees u lu))
          (subst (λ (y : List ℕ). Laid 20 r' (take 64 P) (take 8192 Q) y u) (sym (front_of_lem 64 tlens t lt))
          (subst (λ (y : List ℕ). Laid 20 r' (take 64 P) y t u) (sym (front_of_lem 8192 paths q lq))
          (subst (λ (y : List ℕ). Laid 20 r' y q t u) (sym (front_of_lem 64 plens p lp)) s.laid))) in
          let c : Closed r = g.holds.ordered.closed o in
          let w = s.write in
          record {
            plens_room = room_of 64 plens p lp;
            paths_room = room_of 8192 paths q lq;
            tlens_room = room_of 64 tlens t lt;
            trees_room = omega (arith, room_of 38912 trees u lu, sha1_room);
            order_room = g.order_room;
            holds = record {
              laid = subst (λ (w : ℕ). Laid w r' (take 64 P) (take 8192 Q) (take 64 U) (take (tree_room w) Y)) (sym sha1_width) laid;
              ordered = record {
                order_64 = g.holds.ordered.order_64;
                closed = λ z. record { hidden = s.closed; aside = w.aside ∙ c.aside; stacked = w.stacked ∙ c.stacked; asked = w.asked ∙ c.asked };
                opened = λ z. absurd (z (w.«open» ∙ o));
              };
              valid = subst (λ (w : ℕ). valid sha1 (editor_of w r' (take 64 P) (take 8192 Q) (take 64 U) (take (tree_room w) Y) (take 64 order)) ≡ true) (sym sha1_width) valid_left;
            };
          }

      finish : Good left → Does f S (code_number a) left
      finish k = record { refused = λ z. absurd (x.usual z); done = λ z. (g, made_left, k, behind_left); kept = same_all }

    pub done : Does f S (code_number a) left
    done = go (leb 5 (code_number a)) refl where
      go : (b : Bool) → leb 5 (code_number a) ≡ b → Does f S (code_number a) left
      go true e =
          let h : Still (code_number a) = leb-true 5 (code_number a) e in
          let z = x.same h in
          finish (ap length z.1 ∙ length-take-le 64 plens g.plens_room) (ap length z.2 ∙ length-take-le 8192 paths g.paths_room)
          (ap length z.3 ∙ length-take-le 64 tlens g.tlens_room) (ap length z.4 ∙ length-take-le 38912 trees (trees_long r plens paths tlens trees order g))
          (subst Good (sym (same_all h)) g)
      go false e =
          let n : code_number a < 5 = leb-false 5 (code_number a) e in
          let z : (r.«open» ≡ 0) × Standing r r' p q t u = x.stand (λ y. omega (arith, y, n)) in
          let l = z.1.laid in
          finish l.plens_64 l.paths_room l.tlens_64 l.trees_room (stood_left l.plens_64 l.paths_room l.tlens_64 l.trees_room z)

-- ---- the opening of a cursor

passed : (b : Bool) (n : ℕ) (E : Model) (A : Answered) → (refuse_if b (suc n) E A).code ≡ 0 → (b ≡ false) × (A.code ≡ 0)
unfolding refuse_if
passed true n E A e = absurd (omega (arith, e))
passed false n E A e = (refl, e)

edited_fine : (T : Table) (e : Edit) (opening : Bool) (prefix path : Bytes) (E : Model) → (edited sha1 T e opening prefix path E).code ≡ 0 → refused prefix path ≡ false
unfolding edited
edited_fine T e opening prefix path E z =
    let m : Answered = settled E (walk sha1 T e opening (components path) prefix E.cached) in
    let a : Answered = refuse_if (refused prefix path) 6 E m in
    let b : Answered = refuse_if (not (is_some (find at prefix E.cached))) 8 E a in
    let c : Answered = refuse_if (not (good_table sha1.width T)) 7 E b in
    (passed (refused prefix path) 5 E m (passed (not (is_some (find at prefix E.cached))) 7 E a (passed (not (good_table sha1.width T)) 6 E b (passed (is_some E.writing) 8 E c z).1).1).1).0

full_root : (path : Bytes) → full [] path ≡ path
full_root [] = refl
full_root (b ∷ bs) = refl

module _ (T : Table) (e : Edit) (opening : Bool) (path : Bytes) (s q : Lent) (n : ℕ) (d : Does (edited sha1 T e opening [] path) s n q) where
  pub opened_short : n ≡ 0 → length path ≤ 1024
  opened_short z =
      let m = (d.done (λ y. omega (arith, y, z))).1 in
      let f : refused [] path ≡ false = edited_fine T e opening [] path (viewed s) (sym (ap (λ (y : Answered). y.code) m) ∙ z) in
      subst (λ (p : Bytes). length p ≤ 1024) (full_root path) (short_path [] path f)

opened_is : (T : Table) (path : Bytes) (E : Model) → edited sha1 T (upsert TREE (replicate 20 0)) true [] path E ≡ opens sha1 T path E
unfolding opens null
opened_is T path E = ap (λ (w : ℕ). edited sha1 T (upsert TREE (replicate w 0)) true [] path E) (sym sha1_width)

module _ (T : Table) (path : Bytes) (s q : Lent) (n : ℕ) (d : Does (edited sha1 T (upsert TREE (replicate 20 0)) true [] path) s n q) where
  pub opened_does : Does (opens sha1 T path) s n q
  opened_does =
      record {
        refused = d.refused;
        done = λ z. let x = d.done z in (x.0, x.1 ∙ opened_is T path (viewed s), x.2, x.3);
        kept = d.kept;
      }
