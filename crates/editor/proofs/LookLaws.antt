-- Laws of lookups in a store: the tests come in the order of the numbers, and none of them gives 13. Assumes nothing.
use Prim.Native.Nat.{ℕ, zero, suc, ◌≤◌}
use mathlib.Core.Path.{◌≡◌, refl, sym, ap, ◌∙◌, subst}
use mathlib.Core.Bool.{Bool, true, false, not, ◌&&◌}
use mathlib.Core.List.{List, [], ◌∷◌}
use mathlib.Core.Logic.{inl, inr}
use mathlib.Core.Option.{Option, none, some}
use native.Mathlib.Omega.{arith}
use lib.ListN.{length, take, get_or}
use Rattle.std.specs.Prelude.{Option as Opt, Some, None, Result, Ok, Err}
use Rattle.std.specs.Option.{ok_or}
use Rattle.std.specs.Result.{IsErrAnd}
use Rattle.std.proofs.lemmas.Result.{err_from_is_err_and}
use Rattle.model.specs.Bytes.{Bytes, is_nil}
use Rattle.model.specs.Map.{find, is_some}
use Rattle.model.specs.Tree.{is_tree, Entry, entry_of_lookup}
use Rattle.model.specs.Paths.{components, join, refused}
use Rattle.model.specs.Editor.{Held, at, Cache, tree_at}
use Rattle.model.specs.Editor.{Editor as Model}
use Rattle.model.specs.Formats.{sha1}
use Rattle.model.specs.Lookup.{Looked, found, missing, refusal, pick_looked, look_on, look, looked}
use Rattle.store_runs.specs.Digits.{digits}
use Rattle.store_runs.specs.Runs.{cut}
use Rattle.store_runs.proofs.DigitLaws.{length_digits}
use Rattle.store_runs.proofs.RunLaws.{length_cut}
use Rattle.store_slots.specs.View.{slots_of, gather, held_at, view_of, aside_of, stacked_of, write_of, editor_of, SlotIs, Used, path_of, Laid, tree_room}
use Rattle.store_slots.specs.declared.Record.{Record}
use Rattle.store_slots.specs.declared.Store.{Store}
use Rattle.store_slots.specs.declared.View.{View}
use Rattle.store_slots.specs.Stores.{Shows}
use Rattle.editor_terms.specs.Answers.{refusal_number}
use Rattle.editor_terms.specs.declared.refusal.Refusal.{Refusal}
use Rattle.editor_terms.specs.declared.refusal.Refusal.TheVariants.{CursorStale}
use Rattle.store_check.specs.Stored.{Stored}
use Rattle.store_check.proofs.StoredLaws.{sha1_width, sha1_room}
use Rattle.editor.specs.Lent.{Lent, Good, viewed}
use Rattle.editor.specs.Looks.{Looks, ReadyIs, NotReady}

-- ---- what a `?` passes on

pub passed_on : {A : Type 0} {r : Refusal} (x : Result A Refusal) → IsErrAnd x (λ y. y ≡ r) → x ≡ Err r
passed_on x h = let p = err_from_is_err_and x h in p.1 ∙ ap Err p.2

abbrev refusal_in : {A : Type 0} → Refusal → Result A Refusal → Refusal
refusal_in e (Ok x) = e
refusal_in e (Err r) = r

-- the same of a value that is missing
pub missing_as : {A B : Type 0} {r : Refusal} (x : Result A Refusal) (o : Opt B) (e : Refusal) → IsErrAnd x (λ y. y ≡ r) → o ≡ None → Err r ≡ ok_or o e → x ≡ Err e
missing_as {B = B} x o e h n z = passed_on x h ∙ ap (λ (y : Result B Refusal). Err (refusal_in e y)) z ∙ ap (λ (y : Opt B). Err (refusal_in e (ok_or y e))) n

-- ---- the slot of the prefix

module _ (w : ℕ) (ds : List ℕ) (ps bs : List Bytes) (prefix path : Bytes) where
  pub no_slot : (f : Opt ℕ) → SlotIs w ds ps bs prefix f → f ≡ None → ReadyIs w ds ps bs prefix path (Err CursorStale)
  no_slot f s e = inl (refl, subst (λ (x : Opt ℕ). SlotIs w ds ps bs prefix x) e s)

  pub no_path : (f : Opt ℕ) (k : ℕ) (b : Bool) → SlotIs w ds ps bs prefix f → f ≡ Some k → b ≡ refused prefix path → b ≡ true → NotReady w ds ps bs prefix path 6
  no_path f k b s e r t =
      let z : SlotIs w ds ps bs prefix (Some k) = subst (λ (x : Opt ℕ). SlotIs w ds ps bs prefix x) e s in
      inr (refl, ap is_some z.3, sym r ∙ t)

  pub slot_in : (f : Opt ℕ) (k : ℕ) (b : Bool) → SlotIs w ds ps bs prefix f → f ≡ Some k → b ≡ refused prefix path → b ≡ false → ReadyIs w ds ps bs prefix path (Ok k)
  slot_in f k b s e r t = (subst (λ (x : Opt ℕ). SlotIs w ds ps bs prefix x) e s, sym r ∙ t)

-- ---- the model's lookup, test by test

module _ (prefix path : Bytes) (E : Model) where
  pub looked_open : is_some E.writing ≡ true → refusal 9 ≡ looked prefix path E
  unfolding looked
  looked_open e = rw e refl

  pub looked_stale : is_some E.writing ≡ false → is_some (find at prefix E.cached) ≡ false → refusal 8 ≡ looked prefix path E
  unfolding looked
  looked_stale e f = rw (e, f) refl

  pub looked_refused : is_some E.writing ≡ false → is_some (find at prefix E.cached) ≡ true → refused prefix path ≡ true → refusal 6 ≡ looked prefix path E
  unfolding looked
  looked_refused e f g = rw (e, f, g) refl

  pub looked_on : is_some E.writing ≡ false → is_some (find at prefix E.cached) ≡ true → refused prefix path ≡ false → look (components path) prefix E.cached ≡ looked prefix path E
  unfolding looked
  looked_on e f g = rw (e, f, g) refl

-- ---- no lookup gives a number over 9

abbrev pub refusal_of : Looked → ℕ
refusal_of (found e) = 0
refusal_of missing = 0
refusal_of (refusal n) = n

pick_low : (b : Bool) (x y : Looked) → refusal_of x ≤ 9 → refusal_of y ≤ 9 → refusal_of (pick_looked b x y) ≤ 9
pick_low true x y h k = h
pick_low false x y h k = k

on_low : (l b : Bool) (r : Looked) (o : Option Entry) → refusal_of r ≤ 9 → refusal_of (look_on l b r o) ≤ 9
unfolding look_on
on_low l b r none h = omega arith
on_low true b r (some e) h = omega arith
on_low false b r (some e) h = pick_low (is_tree e.mode && b) r missing h (omega arith)

look_low : (ns : List Bytes) (p : Bytes) (c : Cache) → refusal_of (look ns p c) ≤ 9
look_low [] p c = omega arith
look_low (n ∷ ns) p c = on_low (is_nil ns) (is_some (find at (join p n) c)) (look ns (join p n) c) (entry_of_lookup n (tree_at p c)) (look_low ns (join p n) c)

pub looked_low : (prefix path : Bytes) (E : Model) → refusal_of (looked prefix path E) ≤ 9
unfolding looked
looked_low prefix path E =
    let l : Looked = look (components path) prefix E.cached in
    let m : Looked = pick_looked (refused prefix path) (refusal 6) l in
    let n : Looked = pick_looked (not (is_some (find at prefix E.cached))) (refusal 8) m in
    let ml : refusal_of m ≤ 9 = pick_low (refused prefix path) (refusal 6) l (omega arith) (look_low (components path) prefix E.cached) in
    let nl : refusal_of n ≤ 9 = pick_low (not (is_some (find at prefix E.cached))) (refusal 8) m (omega arith) ml in
    pick_low (is_some E.writing) (refusal 9) n (omega arith) nl

pub looked_sound : (prefix path : Bytes) (E : Model) → looked prefix path E ≡ refusal 13 → ⊥
looked_sound prefix path E e = omega (arith, looked_low prefix path E, ap refusal_of e)

-- ---- a store that holds an editor

some_write : (n : ℕ) (h : Held) (us ss : List Held) → (n ≡ 0 → ⊥) → is_some (write_of n h us ss) ≡ true
some_write zero h us ss k = absurd (k refl)
some_write (suc n) h us ss k = refl

no_write : (n : ℕ) (h : Held) (us ss : List Held) → n ≡ 0 → is_some (write_of n h us ss) ≡ false
no_write zero h us ss e = refl
no_write (suc n) h us ss e = absurd (omega (arith, e))

module _ (ed : Record) (plens paths tlens trees order : List ℕ) where
  pub opened : (ed.«open» ≡ 0 → ⊥) → is_some (editor_of 20 ed plens paths tlens trees order).writing ≡ true
  opened n = some_write ed.«open» (held_at 20 plens paths tlens trees ed.asked) (aside_of 20 ed plens paths tlens trees order) (stacked_of 20 ed plens paths tlens trees order) n

  pub shut : ed.«open» ≡ 0 → is_some (editor_of 20 ed plens paths tlens trees order).writing ≡ false
  shut e = no_write ed.«open» (held_at 20 plens paths tlens trees ed.asked) (aside_of 20 ed plens paths tlens trees order) (stacked_of 20 ed plens paths tlens trees order) e

-- the slot k is that of the prefix, and the path is not refused
pub record Begun (ed : Record) (plens paths tlens trees : List ℕ) (prefix path : Bytes) (k : ℕ) : Type 0 where
  pub used : Used ed k
  pub stands : path_of plens paths k ≡ prefix
  pub cached : is_some (find at prefix (gather (slots_of 20 (digits 64 ed.hidden) (cut plens paths) (cut tlens trees)))) ≡ true
  pub fine : refused prefix path ≡ false

-- what is said of the slot of the prefix in the slices that v shows is said of those of s
pub ready_in : {v : View} {s : Store} (prefix path : Bytes) (x : Result ℕ Refusal) → Shows v s
    → ((w : ℕ) (runs : List Bytes) → length runs ≡ 64 → ReadyIs w (digits 64 v.ed.hidden) (cut v.plens.now v.paths.now) runs prefix path x)
    → (w : ℕ) (runs : List Bytes) → length runs ≡ 64 → ReadyIs w (digits 64 s.ed.hidden) (cut s.plens.now s.paths.now) runs prefix path x
ready_in {v} {s} prefix path x h r w runs l =
    subst (λ (e : Record). ReadyIs w (digits 64 e.hidden) (cut s.plens.now s.paths.now) runs prefix path x) h.ed
    (subst (λ (n : List ℕ). ReadyIs w (digits 64 v.ed.hidden) (cut n s.paths.now) runs prefix path x) h.plens
    (subst (λ (b : List ℕ). ReadyIs w (digits 64 v.ed.hidden) (cut v.plens.now b) runs prefix path x) h.paths (r w runs l)))

module _ (ed : Record) (plens paths tlens trees : List ℕ) (prefix path : Bytes) (r : Result ℕ Refusal) (l : Laid 20 ed plens paths tlens trees) (h : ed.hidden ≡ ed.free)
    (ready : (w : ℕ) (runs : List Bytes) → length runs ≡ 64 → ReadyIs w (digits 64 ed.hidden) (cut plens paths) runs prefix path r) where
  abbrev pub Here : Result ℕ Refusal → Type 0
  Here = ReadyIs 20 (digits 64 ed.hidden) (cut plens paths) (cut tlens trees) prefix path

  pub here : (x : Result ℕ Refusal) → r ≡ x → Here x
  here x e = subst Here e (ready 20 (cut tlens trees) (length_cut tlens trees ∙ l.tlens_64))

  pub begun : (k : ℕ) → r ≡ Ok k → Begun ed plens paths tlens trees prefix path k
  begun k e =
      let z : Here (Ok k) = here (Ok k) e in
      record {
        used = record { low = omega (arith, z.0.0, length_digits 64 ed.hidden); used = ap (λ (n : ℕ). get_or (digits 64 n) k 0) (sym h) ∙ z.0.1 };
        stands = z.0.2;
        cached = ap is_some z.0.3;
        fine = z.1;
      }

  module _ (order : List ℕ) (o : ed.«open» ≡ 0) where
    abbrev E : Model
    E = editor_of 20 ed plens paths tlens trees order

    no : is_some E.writing ≡ false
    no = shut ed plens paths tlens trees order o

    pub not_begun : (x : Refusal) → r ≡ Err x → refusal (refusal_number x) ≡ looked prefix path E
    not_begun x e = go (here (Err x) e) where
      go : NotReady 20 (digits 64 ed.hidden) (cut plens paths) (cut tlens trees) prefix path (refusal_number x) → refusal (refusal_number x) ≡ looked prefix path E
      go (inl (n, s)) = ap refusal n ∙ looked_stale prefix path E no (ap is_some s.0)
      go (inr (n, f, g)) = ap refusal n ∙ looked_refused prefix path E no f g

    pub went_down : (k : ℕ) → r ≡ Ok k → (a : Looked) → a ≡ look (components path) (path_of plens paths k) (view_of 20 ed plens paths tlens trees) → a ≡ looked prefix path E
    went_down k e a f =
        let b : Begun ed plens paths tlens trees prefix path k = begun k e in
        f
        ∙ ap (λ (p : Bytes). look (components path) p (view_of 20 ed plens paths tlens trees)) b.stands
        ∙ ap (λ (n : ℕ). look (components path) prefix (gather (slots_of 20 (digits 64 n) (cut plens paths) (cut tlens trees)))) (sym h)
        ∙ looked_on prefix path E no b.cached b.fine

-- ---- the fronts of a store

pub front_within : (n : ℕ) (l : List ℕ) → length (take n l) ≡ n → n ≤ length l
front_within zero l e = omega arith
front_within (suc n) [] e = absurd (omega (arith, e))
front_within (suc n) (x ∷ xs) e = omega (arith, front_within n xs (omega (arith, e)))

module _ (ed : Record) (plens paths tlens trees order : List ℕ) (g : Stored sha1 ed plens paths tlens trees order) where
  pub trees_long : 38912 ≤ length trees
  trees_long = omega (arith, g.trees_room, sha1_room)

  pub front_laid : Laid 20 ed (take 64 plens) (take 8192 paths) (take 64 tlens) (take 38912 trees)
  front_laid = subst (λ (w : ℕ). Laid w ed (take 64 plens) (take 8192 paths) (take 64 tlens) (take (tree_room w) trees)) sha1_width g.holds.laid

  pub front_closed : ed.«open» ≡ 0 → ed.hidden ≡ ed.free
  front_closed o = (g.holds.ordered.closed o).hidden

module _ (prefix path : Bytes) (s : Lent) where
  pub answers : Good s → (r : Looked) → r ≡ looked prefix path (viewed s) → Looks prefix path s r
  answers g r e = record { refused = λ f k. looked_sound prefix path (viewed s) (sym e ∙ f); answered = λ n. (g, e) }
