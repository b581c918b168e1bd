-- Reading the open request tells what the model shows, for an answer of the call below and what is told of it. Assumes nothing.
use Prim.Native.Nat.{ℕ, ◌+◌, ◌-◌, ◌≤◌}
use mathlib.Core.Path.{◌≡◌, refl, sym, ap, ◌∙◌, subst}
use mathlib.Core.Bool.{Bool, true, false, cond}
use mathlib.Core.List.{List, [], ◌∷◌, ◌++◌}
use mathlib.Core.Option.{Option, none, some}
use lib.Dec.{eqb}
use lib.ListN.{length, take, drop, set, replicate, take-append-drop}
use lib.Seq.{take_at}
use native.Mathlib.Omega.{arith}
use borrow.Author.Tests.{eqb-true, eqb-false, le-leb}
use Rattle.std.specs.Prelude.{Ok, Err}
use Rattle.model.specs.Bytes.{Bytes}
use Rattle.model.specs.Editor.{Held, Cache}
use Rattle.model.specs.Write.{Shown, shown, short, unopened, requested, show}
use Rattle.names.specs.Splice.{splice}
use Rattle.store_slots.specs.View.{write_of}
use Rattle.editor_terms.specs.Answers.{Answer, code_number}
use Rattle.editor_terms.specs.declared.refusal.Refusal.TheVariants.{EmptyComponent, TreeNotFound, TreeDamaged, NotALeaf, NoRoom, PathRefused, BadTable, CursorStale, WriteOpen, NoWriteOpen, OutputShort, BadRoot, StoreDamaged}
use Rattle.editor.specs.Lent.{Lent, Good, viewed, Still}
use Rattle.editor.specs.Looks.{cursor_at, prefix_of}
use Rattle.editor.specs.declared.cursor.Cursor.{Cursor}
use Rattle.editor_write.specs.Requests.{shown_as, shown_number, shown_length, place_in, Requests}
use Rattle.editor_write.proofs.RequestLaws.{asked_of, brief}
use Rattle.adapter_numbers.specs.Asks.{Slices, slices, read_to, Room, Reads, Asks, short_by, needed_by, Told}

-- ---- what the number and the length needed say

pub needed_is : (code : Answer) (n : ℕ) (out : Bytes) → needed_by code ≡ short_by (shown_as code n out)
needed_is (Ok done) n out = refl
needed_is (Err refusal) n out = refl

-- the answer 0 shows the front of the output
done_is : (code : Answer) (n : ℕ) (out : Bytes) → code_number code ≡ 0 → shown_as code n out ≡ shown (take n out)
done_is (Ok done) n out e = refl
done_is (Err EmptyComponent) n out e = absurd (omega (arith, e))
done_is (Err TreeNotFound) n out e = absurd (omega (arith, e))
done_is (Err TreeDamaged) n out e = absurd (omega (arith, e))
done_is (Err NotALeaf) n out e = absurd (omega (arith, e))
done_is (Err NoRoom) n out e = absurd (omega (arith, e))
done_is (Err PathRefused) n out e = absurd (omega (arith, e))
done_is (Err BadTable) n out e = absurd (omega (arith, e))
done_is (Err CursorStale) n out e = absurd (omega (arith, e))
done_is (Err WriteOpen) n out e = absurd (omega (arith, e))
done_is (Err NoWriteOpen) n out e = absurd (omega (arith, e))
done_is (Err (OutputShort m)) n out e = absurd (omega (arith, e))
done_is (Err BadRoot) n out e = absurd (omega (arith, e))
done_is (Err StoreDamaged) n out e = absurd (omega (arith, e))

-- ---- bytes

-- a front that is b, and the rest as it was
pub front_is : (d a b : Bytes) (n : ℕ) → take n a ≡ b → n ≡ length b → drop n a ≡ drop n d → a ≡ splice d 0 b
unfolding splice
front_is d a b n t l r =
    let z : n ≡ 0 + length b = omega (arith, l) in
    sym (take-append-drop n a) ∙ ap (λ (x : Bytes). x ++ drop n a) t ∙ ap (λ (x : Bytes). b ++ x) (r ∙ ap (λ (k : ℕ). drop k d) z)

-- a cursor at a short path stands there
pub prefix_at : (p : Bytes) → length p ≤ 1024 → prefix_of (cursor_at p) ≡ p
unfolding cursor_at
prefix_at p h = ap (λ (b : Bool). cond b (take (length p) (p ++ replicate (1024 - length p) 0)) (0 ∷ [])) (le-leb (length p) 1024 h) ∙ take_at p (replicate (1024 - length p) 0) (length p) refl

-- ---- the place

none_asked : (n : ℕ) (c : Cache) (h : Held) (us ss : List Held) → n ≡ 0 → requested (record { cached = c; writing = write_of n h us ss }) ≡ none
unfolding requested
none_asked n c h us ss e = ap (λ (k : ℕ). requested (record { cached = c; writing = write_of k h us ss })) e

-- it is short
short_place : (s : Lent) → Good s → (x : Shown) → length (place_in x (requested (viewed s))) ≤ 1024
short_place s g (short m) = omega arith
short_place s g unopened = omega arith
short_place s g (shown b) = go (eqb s.ed.«open» 0) refl
  where
    by : (o : Option Held) → requested (viewed s) ≡ o → length (place_in (shown b) o) ≤ 1024 → length (place_in (shown b) (requested (viewed s))) ≤ 1024
    by o e h = subst (λ (y : Option Held). length (place_in (shown b) y) ≤ 1024) (sym e) h

    go : (t : Bool) → eqb s.ed.«open» 0 ≡ t → length (place_in (shown b) (requested (viewed s))) ≤ 1024
    go true e = by none (none_asked s.ed.«open» _ _ _ _ (eqb-true s.ed.«open» 0 e)) (omega arith)
    go false e = by (some _) (asked_of s.ed.«open» _ _ _ _ (eqb-false s.ed.«open» 0 e)) (brief s g (eqb-false s.ed.«open» 0 e))

-- ---- the request

module _ (s : Lent) (code : Answer) (len : ℕ) (place : Cursor) (out out' path path' : Bytes) (lens lens' : List ℕ) (n : ℕ) (t : Told code len place path lens n path' lens') where
  -- the slices afterwards
  abbrev after : Slices
  after = slices out' path' lens'

  abbrev before : Slices
  before = slices out path lens

  same : out' ≡ out → (path' ≡ path) × (lens' ≡ lens) → after ≡ before
  same e h = ap (λ (o : Bytes). slices o path' lens') e ∙ ap (λ (p : Bytes). slices out p lens') h.0 ∙ ap (λ (l : List ℕ). slices out path l) h.1

  -- what is shown decides the slices
  by_shown : (x : Shown) (p : Bytes) → shown_as code len out' ≡ x → drop len out' ≡ drop len out → (Still (code_number code) → out' ≡ out) → code_number code ≡ shown_number x → len ≡ shown_length x → prefix_of place ≡ p → after ≡ read_to x p before
  by_shown (shown b) p is rest kept number long at =
      let d = t.done number in
      let f : take len out' ≡ b = ap front (sym (done_is code len out' number) ∙ is) in
      let o : out' ≡ splice out 0 b = front_is out out' b len f long rest in
      let l : lens' ≡ set (set lens 0 (length b)) 1 (length p) = d.1 ∙ ap (λ (k : ℕ). set (set lens 0 k) 1 (length (prefix_of place))) long ∙ ap (λ (q : Bytes). set (set lens 0 (length b)) 1 (length q)) at in
      ap (λ (y : Bytes). slices y path' lens') o ∙ ap (λ (y : Bytes). slices (splice out 0 b) y lens') (d.0 ∙ ap (splice path 0) at) ∙ ap (λ (y : List ℕ). slices (splice out 0 b) (splice path 0 p) y) l
    where
      front : Shown → Bytes
      front (shown y) = y
      front (short m) = []
      front unopened = []
  by_shown (short m) p is rest kept number long at =
      let d = t.lacks number in
      let l : lens' ≡ set lens 0 m = d.1 ∙ ap (set lens 0) (needed_is code len out' ∙ ap short_by is) in
      ap (λ (y : Bytes). slices y path' lens') (kept (omega (arith, number))) ∙ ap (λ (y : Bytes). slices out y lens') d.0 ∙ ap (λ (y : List ℕ). slices out path y) l
  by_shown unopened p is rest kept number long at = same (kept (omega (arith, number))) (t.other (λ e. omega (arith, e, number)) (λ e. omega (arith, e, number)))

  pub reads : Requests s code len place out out' → Reads s before n after
  reads r =
      record {
        refused = λ z.
            let c : code_number code ≡ 13 = sym t.number ∙ z in
            ((r.refused c).0, same (r.refused c).1 (t.other (λ e. omega (arith, e, c)) (λ e. omega (arith, e, c))));
        done = λ z.
            let d = r.done (λ c. z (t.number ∙ c)) in
            let x : Shown = show (length out) (viewed s) in
            let p : Bytes = place_in x (requested (viewed s)) in
            let w = d.1 in
            (d.0, t.number ∙ w.number, by_shown x p w.is w.rest w.kept w.number w.long (ap prefix_of d.2 ∙ prefix_at p (short_place s d.0 x)));
      }

-- slices with room
pub asks : (s : Lent) (d : Slices) (n : ℕ) (q : Slices) → Room d → Reads s d n q → Asks s d n q
asks s d n q r h = record { bad = λ z. absurd (z r); good = λ z. h }
