-- Any two answers that the statement of a public call admits are equal, number and editor by the model; no call but `request` gives 11, so the number decides the case of the answer. Assumes nothing.
use Prim.Native.Nat.{ℕ, ◌≤◌}
use mathlib.Core.Path.{◌≡◌, refl, sym, ap, ap₂, ◌∙◌}
use mathlib.Core.Bool.{Bool, true, false, not, cond}
use mathlib.Core.List.{[]}
use mathlib.Core.Option.{Option, none, some}
use native.Mathlib.Omega.{arith}
use lib.Dec.{eqb}
use Rattle.std.specs.Prelude.{Some, None, Result, Ok, Err, IfOk, IfErr, Option as Opt}
use Rattle.model.specs.Bytes.{Bytes}
use Rattle.model.specs.Map.{find, is_some}
use Rattle.model.specs.Tree.{TREE, Tree, Entry, null}
use Rattle.model.specs.Raw.{read_tree}
use Rattle.model.specs.Paths.{components, base, refused}
use Rattle.model.specs.Table.{Table, good_table}
use Rattle.model.specs.Editor.{Held, at, Cache, Start, start_path, Write, tree_at, fits, from_root, from_cursor}
use Rattle.model.specs.Editor.{Editor as Model}
use Rattle.model.specs.Formats.{sha1}
use Rattle.model.specs.Walk.{Edit, Walked, walk}
use Rattle.model.specs.Walk as walks
use Rattle.model.specs.Measure.{counts_of}
use Rattle.model.specs.Calls.{Answer, refuse_if, settled, edited, opened, rooted, root_only, set_root}
use Rattle.model.specs.Write.{begun_at, begun, answered, failed}
use Rattle.model.specs.Valid.{valid}
use Rattle.model.specs.Order.{idle}
use Rattle.model.proofs.LowNumbers.{measured_low}
use Rattle.model.proofs.MeasureRight.{measure_code}
use Rattle.model.specs.Lookup.{Looked, found, looked}
use Rattle.names.specs.declared.mode.EntryKind.{EntryKind}
use Rattle.names.proofs.AnswerLaws.{one_kind}
use Rattle.editor_terms.specs.Answers.{Answer as Told, refusal_number, code_number}
use Rattle.editor_terms.specs.Edits.{as_edit}
use Rattle.editor_terms.specs.Ids.{id_bytes}
use Rattle.editor_terms.specs.declared.edit.Seen.{Seen}
use Rattle.editor_terms.specs.declared.refusal.Refusal.{Refusal}
use Rattle.editor_terms.specs.declared.refusal.Refusal.TheVariants.{EmptyComponent, TreeNotFound, TreeDamaged, NotALeaf, NoRoom, PathRefused, BadTable, CursorStale, WriteOpen, NoWriteOpen, OutputShort, BadRoot, StoreDamaged}
use Rattle.editor_walk.specs.Lookups.{looked_as}
use Rattle.editor.specs.Lent.{Lent, Good, viewed, Does}
use Rattle.editor.specs.Looks.{Looks, cursor_at, opened_number}
use Rattle.editor.specs.Roots.{Makes}
use Rattle.editor.specs.declared.cursor.Cursor.{Cursor}
use Rattle.editor.specs.declared.cursor.Unopened.{Unopened}
use Rattle.editor.proofs.SameAnswers.{Same, same_look, same_does, same_makes}
use Rattle.editor.proofs.LookLaws.{refusal_of, looked_low}
use Rattle.editor_write.proofs.Theorems.{viewed_valid}
use Rattle.theorems.specs.Public.{Call, does, Public, new, call, Says, Opens, set_root_call, edit, cursor_at_call, begin, begin_at, answer, answer_and_request, fail}
use Rattle.theorems.proofs.Accepted.{does_is}

-- ---- the number decides the case

refusal_at : ℕ → Refusal
refusal_at n =
    cond (eqb n 1) EmptyComponent (cond (eqb n 2) TreeNotFound (cond (eqb n 3) TreeDamaged (cond (eqb n 4) NotALeaf (cond (eqb n 5) NoRoom (cond (eqb n 6) PathRefused
    (cond (eqb n 7) BadTable (cond (eqb n 8) CursorStale (cond (eqb n 9) WriteOpen (cond (eqb n 10) NoWriteOpen (cond (eqb n 12) BadRoot StoreDamaged))))))))))

refusal_back : (r : Refusal) → (refusal_number r ≡ 11 → ⊥) → refusal_at (refusal_number r) ≡ r
unfolding refusal_at
refusal_back EmptyComponent h = refl
refusal_back TreeNotFound h = refl
refusal_back TreeDamaged h = refl
refusal_back NotALeaf h = refl
refusal_back NoRoom h = refl
refusal_back PathRefused h = refl
refusal_back BadTable h = refl
refusal_back CursorStale h = refl
refusal_back WriteOpen h = refl
refusal_back NoWriteOpen h = refl
refusal_back (OutputShort n) h = absurd (h refl)
refusal_back BadRoot h = refl
refusal_back StoreDamaged h = refl

one_refusal : (r r' : Refusal) → (refusal_number r ≡ 11 → ⊥) → refusal_number r ≡ refusal_number r' → r ≡ r'
one_refusal r r' h e = sym (refusal_back r h) ∙ ap refusal_at e ∙ refusal_back r' (λ z. h (e ∙ z))

-- no refusal has the number of what is done
pub not_0 : (r : Refusal) → refusal_number r ≡ 0 → ⊥
unfolding refusal_at
not_0 r e =
    let z : r ≡ StoreDamaged = sym (refusal_back r (λ z. omega (arith, e, z))) ∙ ap refusal_at e in
    omega (arith, e, ap refusal_number z)

one_code : (k k' : Told) → (code_number k ≡ 11 → ⊥) → code_number k ≡ code_number k' → k ≡ k'
one_code (Ok d) (Ok d') h e = refl
one_code (Ok d) (Err r') h e = absurd (not_0 r' (sym e))
one_code (Err r) (Ok d') h e = absurd (not_0 r e)
one_code (Err r) (Err r') h e = ap Err (one_refusal r r' h e)

-- ---- no call that changes a store gives 11

abbrev Not11 : Answer → Type 0
Not11 a = a.code ≡ 11 → ⊥

refuse_not : (b : Bool) (n : ℕ) (E : Model) (a : Answer) → (n ≡ 11 → ⊥) → Not11 a → Not11 (refuse_if b n E a)
unfolding refuse_if
refuse_not true n E a h k = h
refuse_not false n E a h k = k

module _ (T : Table) (e : Edit) (opening : Bool) (prefix path : Bytes) where
  walk_low : (c : Cache) → valid sha1 (idle c) ≡ true → is_some (find at prefix c) ≡ true → (walk sha1 T e opening (components path) prefix c).code ≤ 4
  walk_low c v h =
      let l = measured_low sha1 T e opening (components path) prefix (tree_at prefix c) c (counts_of c) in
      omega (arith, l, measure_code sha1 T e opening prefix path c v h)

  settled_not : (E : Model) (w : Walked) → w.code ≤ 4 → Not11 (settled E w)
  unfolding settled
  settled_not E w h = refuse_not (not w.kept) 5 E (record { code = w.code; editor = record { cached = w.now; writing = none } }) (λ z. omega (arith, z)) (λ z. omega (arith, z, h))

  edited_of : (c : Cache) (o : Option Write) → valid sha1 (record { cached = c; writing = o }) ≡ true → Not11 (edited sha1 T e opening prefix path (record { cached = c; writing = o }))
  unfolding edited refuse_if
  edited_of c (some w) v = λ z. omega (arith, z)
  edited_of c none v =
      refuse_not (not (good_table sha1.width T)) 7 (idle c) (then (is_some (find at prefix c))) (λ z. omega (arith, z)) (on (is_some (find at prefix c)) refl)
    where
      last : Answer
      last = refuse_if (refused prefix path) 6 (idle c) (settled (idle c) (walk sha1 T e opening (components path) prefix c))

      then : Bool → Answer
      then b = refuse_if (not b) 8 (idle c) last

      on : (b : Bool) → is_some (find at prefix c) ≡ b → Not11 (then b)
      on true h = refuse_not (refused prefix path) 6 (idle c) (settled (idle c) (walk sha1 T e opening (components path) prefix c)) (λ z. omega (arith, z)) (settled_not (idle c) (walk sha1 T e opening (components path) prefix c) (walk_low c v h))
      on false h = λ z. omega (arith, z)

  edited_not : (E : Model) → valid sha1 E ≡ true → Not11 (edited sha1 T e opening prefix path E)
  edited_not E v = edited_of E.cached E.writing v

rooted_not : (E : Model) (o : Option Tree) → Not11 (rooted E o)
unfolding rooted
rooted_not E none = λ z. omega (arith, z)
rooted_not E (some t) = refuse_not (not (fits (root_only t).cached)) 5 E (record { code = 0; editor = root_only t }) (λ z. omega (arith, z)) (λ z. omega (arith, z))

root_not : (raw : Bytes) (E : Model) → Not11 (set_root sha1 raw E)
unfolding set_root
root_not raw E = refuse_not (is_some E.writing) 9 E (rooted E (read_tree sha1.width raw)) (λ z. omega (arith, z)) (rooted_not E (read_tree sha1.width raw))

begun_at_not : (s : Start) (E : Model) (o : Option Held) → Not11 (begun_at sha1 s E o)
unfolding begun_at
begun_at_not s E none = λ z. omega (arith, z)
begun_at_not s E (some h) = λ z. omega (arith, z)

begun_not : (s : Start) (E : Model) → Not11 (begun sha1 s E)
unfolding begun
begun_not s E = refuse_not (is_some E.writing) 9 E (begun_at sha1 s E (find at (start_path s) E.cached)) (λ z. omega (arith, z)) (begun_at_not s E (find at (start_path s) E.cached))

answered_of : (i : Bytes) (c : Cache) (o : Option Write) → Not11 (answered sha1 i (record { cached = c; writing = o }))
unfolding answered
answered_of i c none = λ z. omega (arith, z)
answered_of i c (some w) = λ z. omega (arith, z)

failed_of : (c : Cache) (o : Option Write) → Not11 (failed (record { cached = c; writing = o }))
unfolding failed
failed_of c none = λ z. omega (arith, z)
failed_of c (some w) = λ z. omega (arith, z)

-- ---- calls that change a store

-- two answers are the same: the case, with the number; the editor; what lies behind the fronts; and each byte where the number says that nothing has changed
pub record One (k : Told) (q : Lent) (k' : Told) (q' : Lent) : Type 0 where
  pub code : k ≡ k'
  pub store : Same (code_number k) q (code_number k') q'

does_not : (f : Model → Answer) → ((E : Model) → valid sha1 E ≡ true → Not11 (f E)) → (s : Lent) (c : ℕ) (q : Lent) → Does f s c q → c ≡ 11 → ⊥
does_not f h s c q d e =
    let m = d.done (λ y. omega (arith, e, y)) in
    h (viewed s) (viewed_valid s m.0) (ap (λ (a : Answer). a.code) (sym m.1) ∙ e)

does_one : (f : Model → Answer) → ((E : Model) → valid sha1 E ≡ true → Not11 (f E)) →
    (s : Lent) (k k' : Told) (q q' : Lent) → Does f s (code_number k) q → Does f s (code_number k') q' → One k q k' q'
does_one f h s k k' q q' d d' =
    let z : Same (code_number k) q (code_number k') q' = same_does f s (code_number k) (code_number k') q q' d d' in
    record { code = one_code k k' (does_not f h s (code_number k) q d) z.number; store = z }

makes_one : (raw : Bytes) (s : Lent) (k k' : Told) (q q' : Lent) → Makes raw s (code_number k) q → Makes raw s (code_number k') q' → One k q k' q'
makes_one raw s k k' q q' d d' =
    let z : Same (code_number k) q (code_number k') q' = same_makes raw s (code_number k) (code_number k') q q' d d' in
    record { code = one_code k k' not_11 z.number; store = z }
  where
    not_11 : code_number k ≡ 11 → ⊥
    not_11 e =
        let m = d.done (λ y. omega (arith, e, y)) in
        rooted_not (viewed s) (read_tree 20 raw) (ap (λ (a : Answer). a.code) (sym m.1.is) ∙ e)

opened_not : (T : Table) (path : Bytes) (E : Model) → valid sha1 E ≡ true → Not11 (opened sha1 T path E)
unfolding opened
opened_not T path E v = edited_not T (walks.upsert TREE (null sha1.width)) true [] path E v

not_11 : (x : Call) (E : Model) → valid sha1 E ≡ true → Not11 (does x E)
not_11 (set_root_call raw) E v = root_not raw E
not_11 (edit T e opening prefix path) E v = edited_not T (as_edit e) opening prefix path E v
not_11 (cursor_at_call T path) E v = opened_not T path E v
not_11 begin E v = begun_not from_root E
not_11 (begin_at prefix) E v = begun_not (from_cursor prefix) E
not_11 (answer id) E v = answered_of (id_bytes id) E.cached E.writing
not_11 (answer_and_request id) E v = answered_of (id_bytes id) E.cached E.writing
not_11 fail E v = failed_of E.cached E.writing

-- the theorem, for each of the calls
pub one_answer : (x : Public) (s : Lent) (k k' : Told) (q q' : Lent) → Says x s (code_number k) q → Says x s (code_number k') q' → One k q k' q'
one_answer (new raw) = makes_one raw
one_answer (call x) = does_one (does x) (not_11 x)

one_opened : (path : Bytes) (r r' : Result Cursor Unopened) → (opened_number r ≡ 11 → ⊥) → opened_number r ≡ opened_number r' →
    IfOk r (λ c. c ≡ cursor_at path) → IfOk r' (λ c. c ≡ cursor_at path) → IfErr r (λ u. u.cursor ≡ cursor_at []) → IfErr r' (λ u. u.cursor ≡ cursor_at []) → r ≡ r'
one_opened path (Ok c) (Ok c') h e t t' o o' = ap Ok (t ∙ sym t')
one_opened path (Ok c) (Err u') h e t t' o o' = absurd (not_0 u'.refusal (sym e))
one_opened path (Err u) (Ok c') h e t t' o o' = absurd (not_0 u.refusal e)
one_opened path (Err u) (Err u') h e t t' o o' = ap₂ (λ (x : Refusal) (c : Cursor). Err (record { refusal = x; cursor = c })) (one_refusal u.refusal u'.refusal h e) (o ∙ sym o')

-- and the cursors of an opening are equal, every byte, also where it is refused
pub one_opening : (T : Table) (path : Bytes) (s : Lent) (r r' : Result Cursor Unopened) (q q' : Lent) → Opens T path s r q → Opens T path s r' q' →
    (r ≡ r') × Same (opened_number r) q (opened_number r') q'
one_opening T path s r r' q q' o o' =
    let z : Same (opened_number r) q (opened_number r') q' = same_does (opened sha1 T path) s (opened_number r) (opened_number r') q q' o.store o'.store in
    (one_opened path r r' (does_not (opened sha1 T path) (opened_not T path) s (opened_number r) q o.store) z.number o.there o'.there o.root o'.root, z)

-- ---- lookups

found_inj : {d e : Entry} → found d ≡ found e → d ≡ e
found_inj h = cc

one_looked : (n : Bytes) (r r' : Result (Opt Seen) Refusal) → (refusal_of (looked_as n r) ≡ 11 → ⊥) → looked_as n r ≡ looked_as n r' → r ≡ r'
one_looked n (Ok (Some s)) (Ok (Some s')) l e =
    let z = found_inj e in
    ap₂ (λ (k : EntryKind) (i : Bytes). Ok (Some (record { kind = k; id = record { bytes = i } })))
    (one_kind s.kind s'.kind (ap (λ (x : Entry). x.mode) z))
    (ap (λ (x : Entry). x.id) z)
one_looked n (Ok (Some s)) (Ok None) l e = absurd (let z : ◌≡◌ {A = ℕ} 0 1 = cc in omega arith)
one_looked n (Ok (Some s)) (Err x) l e = absurd (let z : ◌≡◌ {A = ℕ} 0 1 = cc in omega arith)
one_looked n (Ok None) (Ok (Some s)) l e = absurd (let z : ◌≡◌ {A = ℕ} 0 1 = cc in omega arith)
one_looked n (Ok None) (Ok None) l e = refl
one_looked n (Ok None) (Err x) l e = absurd (let z : ◌≡◌ {A = ℕ} 0 1 = cc in omega arith)
one_looked n (Err x) (Ok (Some s)) l e = absurd (let z : ◌≡◌ {A = ℕ} 0 1 = cc in omega arith)
one_looked n (Err x) (Ok None) l e = absurd (let z : ◌≡◌ {A = ℕ} 0 1 = cc in omega arith)
one_looked n (Err x) (Err x') l e = ap Err (one_refusal x x' l (ap refusal_of e))

-- over a store that holds an editor a lookup is the model's
pub looks_is : (prefix path : Bytes) (s : Lent) (r : Looked) → Looks prefix path s r → Good s → r ≡ looked prefix path (viewed s)
looks_is prefix path s r l g = (l.answered (λ z. l.refused z g)).1

-- two answers of `look::get` are equal
pub one_lookup : (prefix path : Bytes) (s : Lent) (r r' : Result (Opt Seen) Refusal) →
    Looks prefix path s (looked_as (base path) r) → Looks prefix path s (looked_as (base path) r') → r ≡ r'
one_lookup prefix path s r r' l l' = one_looked (base path) r r' not_11 (same_look prefix path s (looked_as (base path) r) (looked_as (base path) r') l l')
  where
    not_11 : refusal_of (looked_as (base path) r) ≡ 11 → ⊥
    not_11 e =
        let m = l.answered (λ y. omega (arith, e, ap refusal_of y)) in
        omega (arith, e, ap refusal_of m.1, looked_low prefix path (viewed s))

-- ---- spare bytes and slot numbers do not show

-- over two stores that hold one editor a call answers the same number and leaves the same editor
pub spare_unread : (x : Call) (s s' : Lent) (k k' : Told) (q q' : Lent) → Good s → Good s' → viewed s ≡ viewed s' →
    Says (call x) s (code_number k) q → Says (call x) s' (code_number k') q' → (k ≡ k') × (viewed q ≡ viewed q')
spare_unread x s s' k k' q q' g g' v d d' =
    let m = does_is (does x) s (code_number k) q d g in
    let m' = does_is (does x) s' (code_number k') q' d' g' in
    let z : ◌≡◌ {A = Answer} (record { code = code_number k; editor = viewed q }) (record { code = code_number k'; editor = viewed q' }) = m ∙ ap (does x) v ∙ sym m' in
    let h : code_number k ≡ 11 → ⊥ = λ e. not_11 x (viewed s) (viewed_valid s g) (ap (λ (a : Answer). a.code) (sym m) ∙ e) in
    (one_code k k' h (ap (λ (a : Answer). a.code) z), ap (λ (a : Answer). a.editor) z)

-- a lookup gives the same
pub spare_unread_lookup : (prefix path : Bytes) (s s' : Lent) (r r' : Result (Opt Seen) Refusal) → Good s → Good s' → viewed s ≡ viewed s' →
    Looks prefix path s (looked_as (base path) r) → Looks prefix path s' (looked_as (base path) r') → r ≡ r'
spare_unread_lookup prefix path s s' r r' g g' v l l' =
    let m = looks_is prefix path s (looked_as (base path) r) l g in
    let m' = looks_is prefix path s' (looked_as (base path) r') l' g' in
    one_looked (base path) r r' (λ e. omega (arith, e, ap refusal_of m, looked_low prefix path (viewed s))) (m ∙ ap (looked prefix path) v ∙ sym m')
