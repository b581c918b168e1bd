-- Laws of reading the request: the length of the requested tree's raw form decides between 11 and the tree itself, whose path is short enough for a cursor. Assumes nothing.
use Prim.Native.Nat.{ℕ, zero, suc, ◌+◌, ◌≤◌, ◌<◌}
use mathlib.Core.Path.{◌≡◌, refl, sym, ap, ap₂, ◌∙◌, subst}
use mathlib.Core.Bool.{Bool, true, ◌&&◌, ◌||◌}
use mathlib.Core.List.{List, [], ◌∷◌}
use mathlib.Core.Option.{Option, none, some}
use native.Mathlib.Omega.{arith}
use borrow.Author.Tests.{le-ltb}
use lib.ListN.{length, take, drop}
use lib.Seq.{drop_at}
use Rattle.std.specs.Prelude.{Result, Ok, Err}
use Rattle.model.specs.Bytes.{Bytes, is_nil}
use Rattle.model.specs.Raw.{raw_tree}
use Rattle.model.specs.Tree.{Tree, well_formed}
use Rattle.model.specs.Paths.{valid_path}
use Rattle.model.specs.Formats.{sha1}
use Rattle.model.specs.Valid.{valid}
use Rattle.model.specs.Editor.{Format, Held, Write, Cache}
use Rattle.model.specs.Editor.{Editor as Model}
use Rattle.model.specs.Write.{Shown, shown, short, unopened, requested, show}
use Rattle.model.proofs.Basics.{none_some, and_left}
use Rattle.model.proofs.PathLaws.{valid_fine}
use Rattle.model.proofs.ValidSums.{is_good_lem}
use Rattle.model.proofs.WriteKeeps.{valid_ask}
use Rattle.model.proofs.Theorems.{output_short}
use Rattle.names.specs.Splice.{splice}
use Rattle.names.proofs.WriteLaws.{splice_front}
use Rattle.store_runs.specs.Runs.{run_of, Sound}
use Rattle.store_runs.proofs.FindLaws.{cut_at}
use Rattle.store_slots.specs.View.{write_of, path_of}
use Rattle.store_slots.specs.Stores.{Shows as Shown_in}
use Rattle.store_slots.specs.declared.Store.{Store}
use Rattle.store_slots.specs.declared.View.{View}
use Rattle.store_taken.specs.Taken.{Between}
use Rattle.store_taken.proofs.Steps.{asked_in_hand}
use Rattle.store_trees.specs.Trees.{Readable}
use Rattle.store_trees.proofs.Reading.{readable}
use Rattle.editor.proofs.LookLaws.{front_laid}
use Rattle.editor_terms.specs.declared.refusal.Refusal.{Refusal}
use Rattle.editor_terms.specs.declared.refusal.Refusal.TheVariants.{NoWriteOpen, OutputShort}
use Rattle.editor.specs.Lent.{Lent, lent_in, lent_seen, Good, viewed}
use Rattle.editor.specs.Looks.{standing, cursor_at}
use Rattle.editor.specs.declared.cursor.Cursor.{Cursor}
use Rattle.editor.proofs.CursorLaws.{standing_at}
use Rattle.editor_write.specs.Requests.{answer_of, len_of, place_of, shown_number, shown_length, place_in, Shows, Requests}
use Rattle.editor_write.specs.declared.request.Asked.{Asked}
use Rattle.editor_write.proofs.BackLaws.{seen_is}

-- ---- the model's answer

show_in : (m : ℕ) (c : Cache) (w : Write) → length (raw_tree w.asked.held) ≤ m → show m (record { cached = c; writing = some w }) ≡ shown (raw_tree w.asked.held)
unfolding show requested
show_in m c w l = rw (le-ltb m (length (raw_tree w.asked.held)) l) refl

held_of : Held → Option Held → Held
held_of h none = h
held_of h (some x) = x

show_all : (m : ℕ) (c : Cache) (o : Option Write) (h : Held) → requested (record { cached = c; writing = o }) ≡ some h → length (raw_tree h.held) ≤ m → show m (record { cached = c; writing = o }) ≡ shown (raw_tree h.held)
unfolding requested held_of
show_all m c none h e l = none_some h e
show_all m c (some w) h e l =
    let x : w.asked ≡ h = ap (held_of h) e in
    show_in m c w (subst (λ (y : Held). length (raw_tree y.held) ≤ m) (sym x) l) ∙ ap (λ (y : Held). shown (raw_tree y.held)) x

show_none : (m : ℕ) (n : ℕ) (c : Cache) (h : Held) (us ss : List Held) → n ≡ 0 → show m (record { cached = c; writing = write_of n h us ss }) ≡ unopened
unfolding show requested
show_none m n c h us ss e = ap (λ (k : ℕ). show m (record { cached = c; writing = write_of k h us ss })) e

pub asked_of : (n : ℕ) (c : Cache) (h : Held) (us ss : List Held) → (n ≡ 0 → ⊥) → requested (record { cached = c; writing = write_of n h us ss }) ≡ some h
unfolding requested
asked_of zero c h us ss e = absurd (e refl)
asked_of (suc n) c h us ss e = refl

behind : (d s : Bytes) (q : ℕ) → q ≡ length s → drop q (splice d 0 s) ≡ drop q d
unfolding splice
behind d s q x =
    let y : 0 + length s ≡ q = omega (arith, x) in
    drop_at s (drop (0 + length s) d) q (sym x) ∙ ap (λ (k : ℕ). drop k d) y

-- ---- the two answers over an open write

-- what the editor's request gives, with the cursor where its tree belongs
abbrev pub ShowsAs : Model → Result Asked Refusal → Bytes → Bytes → Type 0
ShowsAs E r before after = Shows (λ m. show m E) (answer_of r) (len_of r) before after × (place_of r ≡ cursor_at (place_in (show (length before) E) (requested E)))

abbrev pub RequestsAs : Lent → Result Asked Refusal → Bytes → Bytes → Type 0
RequestsAs s r before after = Requests s (answer_of r) (len_of r) (place_of r) before after

module _ (E : Model) (h : Held) (r : requested E ≡ some h) (t : Tree) (e : h.held ≡ t) (out : Bytes) (n : ℕ) (l : n ≡ length (raw_tree t)) where
  is_long : n ≡ length (raw_tree h.held)
  is_long = l ∙ sym (ap (λ (x : Tree). length (raw_tree x)) e)

  pub too_short : length out < n → ShowsAs E (Err (OutputShort n)) out out
  too_short k =
      let u : show (length out) E ≡ short (length (raw_tree h.held)) = output_short E (length out) h r (omega (arith, k, is_long)) in (
        record { is = ap short is_long ∙ sym u; rest = refl; kept = λ z. refl; number = sym (ap shown_number u); long = sym (ap shown_length u) },
        sym (ap (λ (x : Shown). cursor_at (place_in x (requested E))) u),
      )

  pub all_shown : n ≤ length out → (after : Bytes) → after ≡ splice out 0 (raw_tree t) → (p : ℕ) → p ≡ length (raw_tree t) → (place : Cursor) → place ≡ cursor_at h.path →
      ShowsAs E (Ok (record { len = p; at = place })) out after
  all_shown k after f p g place c =
      let u : show (length out) E ≡ shown (raw_tree h.held) = show_all (length out) E.cached E.writing h r (omega (arith, k, is_long)) in (
        record {
          is = ap (λ (x : Bytes). shown (take p x)) f ∙ ap shown (splice_front out (raw_tree t) p g) ∙ sym (ap (λ (x : Tree). shown (raw_tree x)) e) ∙ sym u;
          rest = ap (drop p) f ∙ behind out (raw_tree t) p g;
          kept = λ z. absurd (omega (arith, z));
          number = sym (ap shown_number u);
          long = g ∙ sym (ap (λ (x : Tree). length (raw_tree x)) e) ∙ sym (ap shown_length u);
        },
        c ∙ sym (ap₂ (λ (x : Shown) (o : Option Held). cursor_at (place_in x o)) u r),
      )

-- the cursor at the path of a slot, which is short enough
pub stands_at : (plens paths : List ℕ) (k : ℕ) (p run : Bytes) (place : Cursor) → k < length plens → length p ≤ 1024 → p ≡ path_of plens paths k → run ≡ run_of plens paths k → place ≡ cursor_at (standing run) → place ≡ cursor_at p
stands_at plens paths k p run place l h e f g =
    g ∙ ap (λ (x : Bytes). cursor_at (standing x)) (f ∙ sym (cut_at plens paths k l) ∙ sym e) ∙ sym (ap cursor_at (standing_at p h))

-- ---- the call

small : (x : Shown) → shown_number x ≤ 11
small (shown b) = omega arith
small (short m) = omega arith
small unopened = omega arith

module _ (s : Lent) (out : Bytes) where
  pub none_open : Good s → s.ed.«open» ≡ 0 → RequestsAs s (Err NoWriteOpen) out out
  none_open g e =
      let u : show (length out) (viewed s) ≡ unopened = show_none (length out) s.ed.«open» (viewed s).cached _ _ _ e in
      record {
        refused = λ z. absurd (omega (arith, z));
        done = λ z. (
          g,
          record { is = sym u; rest = refl; kept = λ z. refl; number = sym (ap shown_number u); long = sym (ap shown_length u) },
          sym (ap (λ (x : Shown). cursor_at (place_in x (requested (viewed s)))) u),
        );
      }

  pub answers : Good s → (r : Result Asked Refusal) (after : Bytes) → ShowsAs (viewed s) r out after → RequestsAs s r out after
  answers g r after w = record { refused = λ z. absurd (omega (arith, z, w.0.number, small (show (length out) (viewed s)))); done = λ z. (g, w.0, w.1) }

-- the request of a view of the store
pub reads_on : {v : View} {s : Store} → Shown_in v s → (order : List ℕ) → Good (lent_in s order) → (r : Result Asked Refusal) (before after : Bytes) →
    ((o : List ℕ) → Good (lent_seen v o) → RequestsAs (lent_seen v o) r before after) → RequestsAs (lent_in s order) r before after
reads_on k order g r before after w =
    let e = seen_is k order in
    subst (λ (x : Lent). RequestsAs x r before after) e (w order (subst Good (sym e) g))

-- the tree that is requested can be read, and its path
pub can_read : (s : Lent) → Good s → (s.ed.«open» ≡ 0 → ⊥) →
    Readable 20 s.ed (take 64 s.tlens) (take 38912 s.trees) s.ed.asked × Sound (take 64 s.plens) (take 8192 s.paths) s.ed.paths × (s.ed.asked < length (take 64 s.plens))
can_read s g n =
    let b : Between s.ed (take 64 s.order) (s.ed.asked ∷ []) = asked_in_hand s.ed (take 64 s.order) g.holds.ordered n in
    let l = front_laid s.ed s.plens s.paths s.tlens s.trees s.order g in (
      readable 20 s.ed (take 64 s.plens) (take 8192 s.paths) (take 64 s.tlens) (take 38912 s.trees) l (omega arith) s.ed.asked b.marks.used.0.low,
      l.paths_sound,
      omega (arith, l.plens_64, b.marks.used.0.low),
    )

-- its path is valid, and so short
asked_brief : (F : Format) (c : Cache) (w : Write) → valid F (record { cached = c; writing = some w }) ≡ true → length w.asked.path ≤ 1024
asked_brief F c w v =
    let p : Bytes = w.asked.path in
    let g : Bool = well_formed F.width w.asked.held in
    (valid_fine p (and_left (is_nil p || valid_path p) g (is_good_lem ((is_nil p || valid_path p) && g) (omega (arith, (valid_ask F c w v).sane.good))))).in_all

brief_of : (F : Format) (n : ℕ) (c : Cache) (h : Held) (us ss : List Held) → (n ≡ 0 → ⊥) → valid F (record { cached = c; writing = write_of n h us ss }) ≡ true → length h.path ≤ 1024
brief_of F zero c h us ss e v = absurd (e refl)
brief_of F (suc n) c h us ss e v = asked_brief F c _ v

pub brief : (s : Lent) → Good s → (s.ed.«open» ≡ 0 → ⊥) → length (path_of (take 64 s.plens) (take 8192 s.paths) s.ed.asked) ≤ 1024
brief s g n = brief_of sha1 s.ed.«open» _ _ _ _ n g.holds.valid
