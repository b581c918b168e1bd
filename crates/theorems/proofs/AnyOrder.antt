-- Upserts in another order end in the same editor, by the model's theorem: each call does to the editor that is held what the model says. And equal editors are followed by equal requests, since each step of a write reads nothing else. Assumes nothing.
use Prim.Native.Nat.{ℕ}
use mathlib.Core.Path.{◌≡◌, refl, sym, ap, ap₂, ◌∙◌, subst}
use mathlib.Core.Bool.{Bool, true, false, not, cond}
use mathlib.Core.List.{List, [], ◌∷◌, ◌++◌}
use mathlib.Core.Option.{Option, none, some}
use native.Mathlib.Omega.{arith}
use borrow.Author.Tests.{eqb-true, eqb-false}
use lib.Dec.{eqb}
use lib.ListN.{length, take}
use lib.Seq.{take-append_seam}
use Rattle.std.specs.Prelude.{Result, Ok, Err}
use Rattle.model.specs.Bytes.{Bytes}
use Rattle.model.specs.Map.{find, is_some}
use Rattle.model.specs.Raw.{raw_tree}
use Rattle.model.specs.Paths.{components, refused, valid_path}
use Rattle.model.specs.Table.{Table, good_table}
use Rattle.model.specs.Editor.{Held, at, Cache, Start, Write}
use Rattle.model.specs.Editor.{Editor as Model}
use Rattle.model.specs.Formats.{sha1}
use Rattle.model.specs.Walk.{Edit, upsert, walk}
use Rattle.model.specs.Calls.{Answer, refuse_if, settled, edited}
use Rattle.model.specs.Write.{begun, answered, requested, Shown, shown, show}
use Rattle.model.specs.Written.{Request, as_request, requests, written}
use Rattle.model.specs.Valid.{valid}
use Rattle.model.specs.Order.{All, idle, accepted, Upsert, Perm, AllApart, Runs}
use Rattle.model.proofs.Basics.{some_none}
use Rattle.model.proofs.Theorems.{alike, output_20}
use Rattle.editor_terms.specs.declared.refusal.Refusal.{Refusal}
use Rattle.editor_terms.proofs.IdLaws.{sha1_wide}
use Rattle.editor.specs.Lent.{Lent, Good, viewed}
use Rattle.editor.specs.declared.cursor.Cursor.{Cursor}
use Rattle.editor.specs.Looks.{cursor_at}
use Rattle.editor_write.specs.Requests.{shown_number, place_in}
use Rattle.editor_write.specs.declared.request.Asked.{Asked}
use Rattle.editor_write.proofs.Theorems.{viewed_valid}
use Rattle.theorems.specs.Public.{RequestSays}
use Rattle.theorems.specs.Runs.{Upserts, AllDone, given, Reads, Asks, Writes}
use Rattle.theorems.proofs.Accepted.{does_is, does_good}
use Rattle.theorems.proofs.OneAnswer.{not_0}
use Rattle.theorems.proofs.OneRequest.{show_none, shown_inj}

-- ---- upserts

still_idle : (b : Bool) (n : ℕ) (c : Cache) (a : Answer) → a.editor.writing ≡ none → (refuse_if b n (idle c) a).editor.writing ≡ none
unfolding refuse_if
still_idle true n c a h = refl
still_idle false n c a h = h

idle_after : (T : Table) (e : Edit) (opening : Bool) (prefix path : Bytes) (c : Cache) → (edited sha1 T e opening prefix path (idle c)).editor.writing ≡ none
unfolding edited settled refuse_if
idle_after T e opening prefix path c =
    let w = walk sha1 T e opening (components path) prefix c in
    let a : Answer = record { code = w.code; editor = idle w.now } in
    let a₅ : Answer = refuse_if (not w.kept) 5 (idle c) a in
    let a₆ : Answer = refuse_if (refused prefix path) 6 (idle c) a₅ in
    let a₈ : Answer = refuse_if (not (is_some (find at prefix c))) 8 (idle c) a₆ in
    still_idle (not (good_table sha1.width T)) 7 c a₈
    (still_idle (not (is_some (find at prefix c))) 8 c a₆ (still_idle (refused prefix path) 6 c a₅ (still_idle (not w.kept) 5 c a refl)))

module _ (T : Table) where
  abbrev step : Upsert → Model → Answer
  step x = edited sha1 T (upsert x.mode x.id) false [] x.path

  -- accepted calls are accepted upserts of the model
  runs_of : (xs : List Upsert) (s : Lent) (ns : List ℕ) (q : Lent) (c : Cache) → Good s → viewed s ≡ idle c → AllDone ns → Upserts T xs s ns q → (d : Cache) × Runs sha1 T xs c d × (viewed q ≡ idle d)
  runs_of [] s [] q c g v a r = (c, refl, ap viewed (sym r) ∙ v)
  runs_of [] s (n ∷ ns) q c g v a r = absurd r
  runs_of (x ∷ xs) s [] q c g v a r = absurd r
  runs_of (x ∷ xs) s (n ∷ ns) q c g v a (t, u, r) =
      let b : Cache = (viewed t).cached in
      let m : ◌≡◌ {A = Answer} (record { code = n; editor = viewed t }) (step x (idle c)) = does_is (step x) s n t u g ∙ ap (step x) v in
      let o : (viewed t).writing ≡ none = ap (λ (y : Answer). y.editor.writing) m ∙ idle_after T (upsert x.mode x.id) false [] x.path c in
      let i : viewed t ≡ idle b = ap (λ (w : Option Write). record { cached = b; writing = w }) o in
      let (d, k, e) = runs_of xs t ns q b (does_good (step x) s n t u g) i a.1 r in
      let z : ◌≡◌ {A = Answer} (record { code = n; editor = viewed t }) (accepted b) = ap₂ (λ (k : ℕ) (E : Model). record { code = k; editor = E }) a.0 i in
      (d, (b, sym m ∙ z, k), e)

  -- where the model accepts, so do the calls
  done_of : (xs : List Upsert) (s : Lent) (ns : List ℕ) (q : Lent) (c d : Cache) → Good s → viewed s ≡ idle c → Runs sha1 T xs c d → Upserts T xs s ns q → AllDone ns × Good q × (viewed q ≡ idle d)
  done_of [] s [] q c d g v k r = (tt, subst Good r g, ap viewed (sym r) ∙ v ∙ ap idle k)
  done_of [] s (n ∷ ns) q c d g v k r = absurd r
  done_of (x ∷ xs) s [] q c d g v k r = absurd r
  done_of (x ∷ xs) s (n ∷ ns) q c d g v (b, e, k) (t, u, r) =
      let m : ◌≡◌ {A = Answer} (record { code = n; editor = viewed t }) (accepted b) = does_is (step x) s n t u g ∙ ap (step x) v ∙ e in
      let (z, h, w) = done_of xs t ns q b d (does_good (step x) s n t u g) (ap (λ (y : Answer). y.editor) m) k r in
      ((ap (λ (y : Answer). y.code) m, z), h, w)

-- ---- the write

place_path : (p : Bytes) → take (cursor_at p).len (cursor_at p).prefix ≡ p
unfolding cursor_at
place_path p = take-append_seam p _

-- what the host has from one reading
pub reads_is : (s : Lent) (r : List Request) → Good s → Reads s r → r ≡ as_request (requested (viewed s)) []
reads_is s r g x = x.gives ∙ go x.answer x.asked (requested (viewed s)) refl
  where
    whole : (h : Held) → requested (viewed s) ≡ some h → show (length x.before) (viewed s) ≡ shown (raw_tree h.held)
    whole h e = output_20 sha1 (viewed s) (length x.before) h sha1_wide (viewed_valid s g) x.room e

    go : (a : Result Asked Refusal) → RequestSays s a x.before x.after → (o : Option Held) → requested (viewed s) ≡ o → given a x.after ≡ as_request o []
    go (Ok asked) y none e =
        let d = y.done (λ z. (y.refused z).0 g) in
        absurd (omega (arith, d.1.number, ap shown_number (show_none (length x.before) (viewed s) e)))
    go (Ok asked) y (some h) e =
        let d = y.done (λ z. (y.refused z).0 g) in
        let u = whole h e in
        let raw : take asked.len x.after ≡ raw_tree h.held = shown_inj (take asked.len x.after) (raw_tree h.held) (d.1.is ∙ u) in
        let p : asked.at ≡ cursor_at h.path = d.2 ∙ ap₂ (λ (z : Shown) (o : Option Held). cursor_at (place_in z o)) u e in
        ap₂ (λ (z : Cursor) (b : Bytes). (take z.len z.prefix, b) ∷ []) p raw ∙ ap (λ (z : Bytes). (z, raw_tree h.held) ∷ []) (place_path h.path)
    go (Err refusal) y none e = refl
    go (Err refusal) y (some h) e = absurd (not_0 refusal ((y.done (λ z. (y.refused z).0 g)).1.number ∙ ap shown_number (whole h e)))

no_requests : (is : List Bytes) (c : Cache) → requests sha1 is (idle c) ≡ []
unfolding requested
no_requests [] c = refl
no_requests (i ∷ is) c = refl

after_none : (i : Bytes) (is : List Bytes) (c : Cache) (o : Option Write) → requested (record { cached = c; writing = o }) ≡ none → requests sha1 is (answered sha1 i (record { cached = c; writing = o })).editor ≡ []
unfolding requested answered
after_none i is c none e = no_requests is c
after_none i is c (some w) e = some_none w.asked e

asks_is : (is : List Bytes) (s : Lent) (rs : List Request) → Good s → Asks is s rs → rs ≡ requests sha1 is (viewed s)
asks_is [] s rs g x = reads_is s rs g x
asks_is (i ∷ is) s rs g (r, x, c, t, d, rest, y, e) =
    let left : rest ≡ requests sha1 is (answered sha1 i (viewed s)).editor =
    asks_is is t rest (does_good (answered sha1 i) s c t d g) y ∙ ap (λ (a : Answer). requests sha1 is a.editor) (does_is (answered sha1 i) s c t d g) in
    e ∙ ap (λ (z : List Request). z ++ rest) (reads_is s r g x) ∙ go left (requested (viewed s)) refl
  where
    go : rest ≡ requests sha1 is (answered sha1 i (viewed s)).editor → (o : Option Held) → requested (viewed s) ≡ o →
        as_request o [] ++ rest ≡ as_request o (requests sha1 is (answered sha1 i (viewed s)).editor)
    go left none f = left ∙ after_none i is (viewed s).cached (viewed s).writing f
    go left (some h) f = ap (λ (z : List Request). (h.path, raw_tree h.held) ∷ z) left

-- the host has the model's requests
pub writes_is : (is : List Bytes) (start : Start) (s : Lent) (rs : List Request) → Good s → Writes is start s rs → rs ≡ written sha1 is start (viewed s)
unfolding written
writes_is is start s rs g x = go (eqb x.number 0) refl
  where
    m : ◌≡◌ {A = Answer} (record { code = x.number; editor = viewed x.stage }) (begun sha1 start (viewed s))
    m = does_is (begun sha1 start) s x.number x.stage x.begins g

    go : (b : Bool) → eqb x.number 0 ≡ b → rs ≡ cond (eqb (begun sha1 start (viewed s)).code 0) (requests sha1 is (begun sha1 start (viewed s)).editor) []
    go true e =
        asks_is is x.stage rs (does_good (begun sha1 start) s x.number x.stage x.begins g) (x.on (eqb-true x.number 0 e))
        ∙ ap (λ (b : Bool). cond b (requests sha1 is (viewed x.stage)) []) (sym e)
        ∙ ap (λ (a : Answer). cond (eqb a.code 0) (requests sha1 is a.editor) []) m
    go false e =
        x.off (eqb-false x.number 0 e)
        ∙ ap (λ (b : Bool). cond b (requests sha1 is (viewed x.stage)) []) (sym e)
        ∙ ap (λ (a : Answer). cond (eqb a.code 0) (requests sha1 is a.editor) []) m

-- ---- the theorem

-- Two hosts make the same upserts, in whatever orders, over stores that hold one editor with no write open, whatever their spare bytes: if the first is answered
-- DONE throughout, so is the second; the editors at the end are equal; and a write that follows, from the same start and with the same ids answered, gives both
-- hosts the same requests, paths and raw trees, in the same order
module _ (T : Table) (xs ys : List Upsert) (vs : All (λ x. valid_path x.path ≡ true) xs) (apart : AllApart xs) (perm : Perm xs ys)
    (s q : Lent) (ns : List ℕ) (g : Good s) (shut : (viewed s).writing ≡ none) (run : Upserts T xs s ns q) (done : AllDone ns)
    (s' q' : Lent) (ns' : List ℕ) (g' : Good s') (alike-at-first : viewed s ≡ viewed s') (run' : Upserts T ys s' ns' q') where
  starts : viewed s ≡ idle (viewed s).cached
  starts = ap (λ (w : Option Write). record { cached = (viewed s).cached; writing = w }) shut

  pub any_order : AllDone ns' × (viewed q ≡ viewed q') × ((is : List Bytes) (start : Start) (rs rs' : List Request) → Writes is start q rs → Writes is start q' rs' → rs ≡ rs')
  any_order =
      let c : Cache = (viewed s).cached in
      let (d, k, e) = runs_of T xs s ns q c g starts done run in
      let k' : Runs sha1 T ys c d = (alike sha1 T c d xs ys (ap (valid sha1) (sym starts) ∙ viewed_valid s g) vs apart perm k).0 in
      let (z, h, e') = done_of T ys s' ns' q' c d g' (sym alike-at-first ∙ starts) k' run' in
      let h₀ : Good q = (done_of T xs s ns q c d g starts k run).1 in
      let same : viewed q ≡ viewed q' = e ∙ sym e' in
      (z, same, λ is start rs rs' w w'. writes_is is start q rs h₀ w ∙ ap (written sha1 is start) same ∙ sym (writes_is is start q' rs' h w'))
