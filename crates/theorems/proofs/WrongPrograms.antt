-- Programs that do nothing of use, and that the bare words of a rule might let through: none of them meets the statements, since from stores that hold a small editor each statement computes to one answer. Assumes nothing.
use Prim.Native.Nat.{ℕ, ◌≤◌}
use mathlib.Core.Path.{◌≡◌, refl, sym, ap, ap₂, ◌∙◌}
use mathlib.Core.List.{List, [], ◌∷◌, map}
use mathlib.Core.Option.{Option, none, some}
use native.Mathlib.Omega.{arith}
use lib.ListN.{length, replicate}
use Rattle.std.specs.Prelude.{Result}
use Rattle.model.specs.Tree.{is_tree, null, good_name, well_formed, Entry}
use Rattle.model.specs.Raw.{octal, mode_of, raw_entry, raw_tree, name_from, got, ended as atEnd, read_tree}
use Rattle.model.specs.Paths.{refused, valid_path}
use Rattle.model.specs.Table.{good_table, looked_up}
use Rattle.model.specs.Bytes.{Bytes}
use Rattle.model.specs.Editor.{Held, start_path, fits, ◌↝◌, from_root, tree_at}
use Rattle.model.specs.Editor.{Editor as Model}
use Rattle.model.specs.Formats.{sha1}
use Rattle.model.specs.Walk.{through, to_remove, removed, at_last, at_earlier, turn, load, enter, ended, stepped, below, turned}
use Rattle.model.specs.Calls.{Answer, refuse_if, settled, edited, opened, root_only, rooted, set_root}
use Rattle.model.specs.Lookup.{Looked, look_on, looked, found, missing}
use Rattle.model.specs.Write.{unlinked, linked, finished, taken, no_tree, asking, write_of, begun_at, begun, closed, answered_in, answered, failed, requested}
use Rattle.model.specs.Written.{as_request}
use Rattle.model.specs.Script.{no#, file, folder}
use Rattle.model.specs.Order.{idle}
use Rattle.model.proofs.Basics.{some_none}
use Rattle.model.proofs.Theorems.{output_short}
use Rattle.editor_terms.specs.Answers.{Answer as Told, code_number}
use Rattle.editor_terms.specs.declared.refusal.Refusal.{Refusal}
use Rattle.editor.specs.Lent.{Lent, Long, Good, viewed, Does}
use Rattle.editor.specs.Looks.{Looks}
use Rattle.editor.specs.Roots.{Roots}
use Rattle.editor_write.specs.Requests.{answer_of, shown_number}
use Rattle.editor_write.specs.declared.request.Asked.{Asked}
use Rattle.theorems.specs.Examples.{a, first, put_a, put_ab, script, refusals}
use Rattle.theorems.specs.Public.{Call, does, new, call, Says, Made, Proceeds, begin, answer}
use Rattle.theorems.specs.Runs.{given}
use Rattle.theorems.proofs.Accepted.{does_is, does_good, all_accepted}
use Rattle.theorems.proofs.OneAnswer.{looks_is}
use Rattle.theorems.proofs.AnyOrder.{reads_is}

-- the definitions that the computing looks through
computing : Unit {0}
unfolding is_tree null good_name well_formed octal mode_of raw_entry name_from got atEnd read_tree refused valid_path good_table looked_up start_path fits sha1
    through to_remove removed at_last at_earlier turn load enter ended stepped below turned refuse_if settled edited opened root_only rooted set_root look_on looked
    unlinked linked finished taken no_tree asking write_of begun_at begun closed answered_in answered failed requested
computing = tt

empty_root : (E : Model) → rooted E (read_tree 20 []) ≡ record { code = 0; editor = root_only [] }
unfolding computing
empty_root E = refl

-- ---- over a store that holds an editor a call does what the model does

does_model : (x : Call) (s : Lent) (c : ℕ) (q : Lent) → Good s → Does (does x) s c q → (record { code = c; editor = viewed q } ≡ does x (viewed s)) × Good q
does_model x s c q g d = (does_is (does x) s c q d g, does_good (does x) s c q d g)

-- the numbers of calls made one after the other on an editor, and the editor at the end
abbrev numbers : List Call → Model → List ℕ
numbers [] E = []
numbers (x ∷ xs) E = (does x E).code ∷ numbers xs (does x E).editor

abbrev end : List Call → Model → Model
end [] E = E
end (x ∷ xs) E = end xs (does x E).editor

follow : (xs : List Call) (ns : List ℕ) (s q : Lent) (E : Model) → Good s → viewed s ≡ E → Made (map call xs) ns s q → (ns ≡ numbers xs E) × (viewed q ≡ end xs E)
follow [] [] s q E g v e = (refl, ap viewed (sym e) ∙ v)
follow [] (n ∷ ns) s q E g v e = absurd e
follow (x ∷ xs) [] s q E g v e = absurd e
follow (x ∷ xs) (n ∷ ns) s q E g v (t, d, r) =
    let (m, k) = does_model x s n t g d in
    let z : ◌≡◌ {A = Answer} (record { code = n; editor = viewed t }) (does x E) = m ∙ ap (does x) v in
    let (a, b) = follow xs ns t q (does x E).editor k (ap (λ (y : Answer). y.editor) z) r in
    (ap₂ ◌∷◌ (ap (λ (y : Answer). y.code) z) a, b)

-- ---- an empty editor

-- an editor with an empty root is made in any memory that is long enough
made_empty : (s q : Lent) (c : ℕ) → Long s → Says (new []) s c q → (c ≡ 0) × Good q × (viewed q ≡ root_only [])
made_empty s q c l m = (number, d.good number, ap (λ (y : Answer). y.editor) is)
  where
    d : Roots [] s c q
    d = (m.done (λ z. (m.refused z).0 l)).1

    is : ◌≡◌ {A = Answer} (record { code = c; editor = viewed q }) (record { code = 0; editor = root_only [] })
    is = d.is ∙ empty_root (viewed s)

    number : c ≡ 0
    number = ap (λ (y : Answer). y.code) is

-- ---- a call that refuses everything

script_done : numbers script (root_only []) ≡ replicate 16 0
unfolding computing
script_done = refl

-- made in memory of any content that is long enough, it is answered DONE throughout
pub no_refuser : (s q : Lent) (ns : List ℕ) → Long s → Made (new [] ∷ map call script) ns s q → ns ≡ replicate 17 0
no_refuser s q [] l m = absurd m
no_refuser s q (n ∷ ns) l (t, d, r) =
    let (z, g, v) = made_empty s t n l d in
    ap₂ ◌∷◌ z ((follow script ns t q (root_only []) g v r).0 ∙ script_done)

-- ---- a call that accepts everything

refusals_told : numbers refusals (root_only []) ≡ 12 ∷ 7 ∷ 8 ∷ 6 ∷ 10 ∷ 0 ∷ 9 ∷ []
unfolding computing
refusals_told = refl

-- over an empty root these calls are refused, each with its number
pub no_accepter : (s q : Lent) (ns : List ℕ) → Good s → viewed s ≡ root_only [] → Made (map call refusals) ns s q → ns ≡ 12 ∷ 7 ∷ 8 ∷ 6 ∷ 10 ∷ 0 ∷ 9 ∷ []
no_accepter s q ns g v m = (follow refusals ns s q (root_only []) g v m).0 ∙ refusals_told

-- ---- an upsert that does nothing

with_a : Model
with_a = idle ([] ↝ (file a ∷ []) ∷ [])

put_a_makes : does put_a (root_only []) ≡ record { code = 0; editor = with_a }
unfolding computing with_a
put_a_makes = refl

differ : root_only [] ≡ with_a → ⊥
unfolding with_a root_only
differ e = let z : ◌≡◌ {A = ℕ} 0 1 = ap (λ (E : Model). length (tree_at [] E.cached)) e in omega arith

nothing : looked [] a (root_only []) ≡ missing
unfolding computing
nothing = refl

something : looked [] a with_a ≡ found (file a)
unfolding computing with_a
something = refl

missing_found : (e : Entry) → missing ≡ found e → ⊥
missing_found e h = let z : ◌≡◌ {A = ℕ} 0 1 = cc in omega arith

module _ (s q : Lent) (c : ℕ) (g : Good s) (v : viewed s ≡ root_only []) (d : Says (call put_a) s c q) where
  after_a : (c ≡ 0) × (viewed q ≡ with_a)
  after_a =
      let z : ◌≡◌ {A = Answer} (record { code = c; editor = viewed q }) (record { code = 0; editor = with_a }) = (does_model put_a s c q g d).0 ∙ ap (does put_a) v ∙ put_a_makes in
      (ap (λ (y : Answer). y.code) z, ap (λ (y : Answer). y.editor) z)

  -- over an empty root, an upsert of `a` does not leave the editor as it was
  pub no_idler : viewed q ≡ viewed s → ⊥
  no_idler e = differ (sym v ∙ sym e ∙ after_a.1)

  -- ---- a lookup that gives one fixed entry, or one fixed answer

  -- of `a` before and after that upsert
  pub no_fixed_lookup : (r : Looked) → Looks [] a s r → Looks [] a q r → ⊥
  no_fixed_lookup r l l' =
      let h : Good q = (does_model put_a s c q g d).1 in
      let x : r ≡ missing = looks_is [] a s r l g ∙ ap (looked [] a) v ∙ nothing in
      let y : r ≡ found (file a) = looks_is [] a q r l' h ∙ ap (looked [] a) after_a.1 ∙ something in
      missing_found (file a) (sym x ∙ y)

-- ---- a write that requests one tree and only pretends the rest

open_at_a : Model
open_at_a = record { cached = []; writing = some (record { start = from_root; stacked = []; aside = [] ↝ (folder a (replicate 20 0) ∷ []) ∷ []; asked = a ↝ (file (98 ∷ []) ∷ []) }) }

open_at_root : Model
open_at_root = record { cached = []; writing = some (record { start = from_root; stacked = []; aside = []; asked = [] ↝ (folder a (no# 1) ∷ []) }) }

asks_a : requested open_at_a ≡ some (a ↝ (file (98 ∷ []) ∷ []))
unfolding requested open_at_a
asks_a = refl

asks_root : requested open_at_root ≡ some ([] ↝ (folder a (no# 1) ∷ []))
unfolding requested open_at_root
asks_root = refl

still_open : open_at_root.writing ≡ none → ⊥
unfolding open_at_root
still_open e = some_none _ e

written_ab : end (put_ab ∷ begin ∷ []) (root_only []) ≡ open_at_a
unfolding computing open_at_a
written_ab = refl

answered_a : does (answer first) open_at_a ≡ record { code = 0; editor = open_at_root }
unfolding computing open_at_a open_at_root
answered_a = refl

root_long : length (raw_tree (folder a (no# 1) ∷ [])) ≡ 28
unfolding computing
root_long = refl

-- a write of an empty root with `a/b` put into it, and what the first answer leaves
module _ (s t : Lent) (ns : List ℕ) (g : Good s) (v : viewed s ≡ root_only []) (m : Made (map call (put_ab ∷ begin ∷ [])) ns s t) where
  at_a : viewed t ≡ open_at_a
  at_a = (follow (put_ab ∷ begin ∷ []) ns s t (root_only []) g v m).1 ∙ written_ab

  at_root : (c : ℕ) (q : Lent) → Says (call (answer first)) t c q → ◌≡◌ {A = Answer} (record { code = c; editor = viewed q }) (record { code = 0; editor = open_at_root }) × Good q
  at_root c q d =
      let h : Good t = (all_accepted (map call (put_ab ∷ begin ∷ [])) ns s t m g).1 in
      let (e, k) = does_model (answer first) t c q h d in
      (e ∙ ap (does (answer first)) at_a ∙ answered_a, k)

-- from an empty root with `a/b` put into it: first `a` is requested, and after its answer the root with that answer, so that the write is still open
pub no_pretender : (s t q : Lent) (ns : List ℕ) (c : ℕ) → Good s → viewed s ≡ root_only [] → Made (map call (put_ab ∷ begin ∷ [])) ns s t → Says (call (answer first)) t c q →
    (requested (viewed t) ≡ some (a ↝ (file (98 ∷ []) ∷ []))) × (requested (viewed q) ≡ some ([] ↝ (folder a (no# 1) ∷ []))) × ((viewed q).writing ≡ none → ⊥)
no_pretender s t q ns c g v m d = (ap requested (at_a s t ns g v m) ∙ asks_a, ap requested z ∙ asks_root, λ e. still_open (sym (ap (λ (E : Model). E.writing) z) ∙ e))
  where
    z : viewed q ≡ open_at_root
    z = ap (λ (y : Answer). y.editor) (at_root s t ns g v m c q d).0

-- ---- an answer that reads the next request, but not the next one, or that is not made where there is no room to read

module _ (s t q : Lent) (ns : List ℕ) (g : Good s) (v : viewed s ≡ root_only []) (made : Made (map call (put_ab ∷ begin ∷ [])) ns s t)
    (k : Told) (next : Result Asked Refusal) (before after : Bytes) (x : Proceeds first t k q next before after) where
  left : ◌≡◌ {A = Answer} (record { code = code_number k; editor = viewed q }) (record { code = 0; editor = open_at_root })
  left = (at_root s t ns g v made (code_number k) q x.store).0

  good : Good q
  good = (at_root s t ns g v made (code_number k) q x.store).1

  asks : requested (viewed q) ≡ some ([] ↝ (folder a (no# 1) ∷ []))
  asks = ap (λ (y : Answer). requested y.editor) left ∙ asks_root

  -- the answer to `a` reads the root with that answer, and not `a` again
  pub no_repeater : 45056 ≤ length before → given next after ≡ ([], raw_tree (folder a (no# 1) ∷ [])) ∷ []
  no_repeater l =
      reads_is q (given next after) good (record { answer = next; before = before; after = after; room = l; asked = x.request; gives = refl })
      ∙ ap (λ (o : Option Held). as_request o []) asks

  -- it is made where the output is empty too: the root is requested, with 11
  pub no_skipper : length before ≡ 0 → (code_number k ≡ 0) × (code_number (answer_of next) ≡ 11) × (requested (viewed q) ≡ some ([] ↝ (folder a (no# 1) ∷ [])))
  no_skipper l =
      let u = output_short (viewed q) (length before) ([] ↝ (folder a (no# 1) ∷ [])) asks (omega (arith, l, root_long)) in
      (ap (λ (y : Answer). y.code) left, (x.request.done (λ z. (x.request.refused z).0 good)).1.number ∙ ap shown_number u, asks)
