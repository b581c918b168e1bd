-- Request after request: what was told and what is left to tell are the lines of the write, which ends, since each answer leaves fewer trees. Assumes nothing.
use Prim.Native.Nat.{ℕ, zero, suc, ◌+◌, ◌-◌, ◌≤◌, ◌<◌}
use mathlib.Core.Path.{◌≡◌, refl, sym, ◌∙◌, ap, subst}
use mathlib.Core.Bool.{Bool, true, false, ◌&&◌}
use mathlib.Core.List.{List, [], ◌∷◌, ◌++◌}
use mathlib.Core.Option.{Option, none, some}
use native.Mathlib.Omega.{arith}
use lib.ListN.{length, take, replicate}
use lib.Seq.{take_at}
use Rattle.std.specs.Prelude as maybe
use Rattle.model.specs.Bytes.{Bytes, is_nil}
use Rattle.model.specs.Tree.{null}
use Rattle.model.specs.Raw.{raw_tree}
use Rattle.model.specs.Editor.{Held, Cache, Start, from_root, from_cursor, Write, Editor}
use Rattle.model.specs.Formats.{sha1}
use Rattle.model.specs.Valid.{valid}
use Rattle.model.specs.Write.{linked, asking, write_of, closed, pick_editor, answered_in, answered, requested, Shown, shown, short, unopened, show, begun}
use Rattle.model.proofs.Basics.{and_false, none_some}
use Rattle.model.proofs.RoomCounts.{trees_total}
use Rattle.model.proofs.SameRequests.{left, linked_some}
use Rattle.model.proofs.Theorems.{output_20}
use Rattle.model.proofs.ValidSums.{Sane, a_tree}
use Rattle.model.proofs.WriteKeeps.{valid_ask, sum3}
use Rattle.model.proofs.WriteLaws.{asking_count, linked_length}
use Rattle.store_slots.specs.View.{write_of as writeIn}
use Rattle.editor_terms.specs.declared.refusal.Refusal.{Refusal}
use Rattle.editor.specs.Lent.{Lent, Good, viewed}
use Rattle.editor.specs.declared.cursor.Cursor.{Cursor}
use Rattle.editor.specs.Looks.{cursor_at}
use Rattle.editor_write.proofs.SameAnswers.{zero_code}
use Rattle.editor_write.proofs.Theorems.{viewed_valid}
use Rattle.editor_write.specs.Requests.{answer_of, len_of, place_of, shown_as, shown_number, place_in, Shows, Requests}
use Rattle.editor_write.specs.declared.request.Asked.{Asked}
use Rattle.lines.specs.Hex.{hex_of}
use Rattle.lines.specs.Answers.{outcome}
use Rattle.lines.specs.Texts.{line_of, written}
use Rattle.small_run.specs.Lesson.{tree_key, raw_key, root_key, count_id, request_lines, or_root, write_lines, saved}
use Rattle.small_run.specs.Puts.{PutAt, Puts, Leaves}
use Rattle.small_run.proofs.PutLaws.{puts, Telling, telling_begin, telling_more, telling_refused, telling_last}

pub wide : sha1.width ≡ 20
unfolding sha1
wide = refl

-- The request that is read: its bytes and its path
abbrev bytes_shown : Shown → Bytes
bytes_shown (shown b) = b
bytes_shown (short m) = []
bytes_shown unopened = []

front_shown : (n : ℕ) (out b : Bytes) → shown_as (maybe.Ok tt) n out ≡ shown b → take n out ≡ b
front_shown n out b e = ap bytes_shown e

cursor_front : (c : Cursor) (p : Bytes) → c ≡ cursor_at p → take c.len c.prefix ≡ p
unfolding cursor_at
cursor_front c p e = ap (λ (x : Cursor). take x.len x.prefix) e ∙ take_at p (replicate (1024 - length p) 0) (length p) refl

module _ (s : Lent) (g : Good s) (h : Held) (q : requested (viewed s) ≡ some h) (before : Bytes) (room : 45056 ≤ length before) where
  is_shown_lem : show (length before) (viewed s) ≡ shown (raw_tree h.held)
  is_shown_lem = output_20 sha1 (viewed s) (length before) h wide (viewed_valid s g) room q

  module _ (r : maybe.Result Asked Refusal) {after : Bytes} (R : Requests s (answer_of r) (len_of r) (place_of r) before after) where
    read : Shows (λ m. show m (viewed s)) (answer_of r) (len_of r) before after
    read = (R.done (λ e. (R.refused e).0 g)).1

    module _ {a : Asked} (e : r ≡ maybe.Ok a) where
      pub request_raw : take a.len after ≡ raw_tree h.held
      request_raw = front_shown a.len after (raw_tree h.held) (subst (λ (x : maybe.Result Asked Refusal). shown_as (answer_of x) (len_of x) after ≡ shown (raw_tree h.held)) e (read.is ∙ is_shown_lem))

      pub request_place : take a.at.len a.at.prefix ≡ h.path
      request_place =
          cursor_front a.at h.path
          (sym (ap place_of e) ∙ (R.done (λ e. (R.refused e).0 g)).2
          ∙ ap cursor_at (ap (λ (x : Shown). place_in x (requested (viewed s))) is_shown_lem ∙ ap (place_in (shown (raw_tree h.held))) q))

    -- and it is not refused
    pub request_there : {x : Refusal} → r ≡ maybe.Err x → ⊥
    request_there e =
        let q = sym (ap answer_of e) ∙ zero_code (answer_of r) (read.number ∙ ap shown_number is_shown_lem) in
        let z : ◌≡◌ {A = ℕ} 0 1 = cc in
        omega arith

-- A write is open where the record says so
no_request : (c : Cache) (n : ℕ) (a : Held) (k t : List Held) → n ≡ 0 → requested (record { cached = c; writing = writeIn n a k t }) ≡ none
unfolding requested
no_request c n a k t e = ap (λ (m : ℕ). requested (record { cached = c; writing = writeIn m a k t })) e

a_request : (c : Cache) (n : ℕ) (a : Held) (k t : List Held) → (n ≡ 0 → ⊥) → (h : Held) × (requested (record { cached = c; writing = writeIn n a k t }) ≡ some h)
unfolding requested
a_request c zero a k t e = absurd (e refl)
a_request c (suc n) a k t e = (a, refl)

pub open_none : (s : Lent) → s.ed.«open» ≡ 0 → requested (viewed s) ≡ none
open_none s e = no_request (viewed s).cached s.ed.«open» _ _ _ e

pub open_some : (s : Lent) → (s.ed.«open» ≡ 0 → ⊥) → (h : Held) × (requested (viewed s) ≡ some h)
open_some s e = a_request (viewed s).cached s.ed.«open» _ _ _ e

-- The trees that are left to a write: at most 64, and fewer after each answer
abbrev pub pending_in : Cache → Option Write → ℕ
pending_in c none = 0
pending_in c (some w) = left c w

unfoldable pub pending : Editor → ℕ
pending E = pending_in E.cached E.writing

few_in : (c : Cache) (o : Option Write) → valid sha1 (record { cached = c; writing = o }) ≡ true → pending_in c o ≤ 64
few_in c none v = omega arith
few_in c (some w) v =
    let a : Sane sha1.width (w.asked ∷ (w.stacked ++ (w.aside ++ c))) = (valid_ask sha1 c w v).sane in
    omega (arith, a.trees, sum3 a_tree w.stacked w.aside c, trees_total w.stacked, trees_total w.aside, trees_total c)

pub pending_few : (E : Editor) → valid sha1 E ≡ true → pending E ≤ 64
unfolding pending
pending_few E v = few_in E.cached E.writing v

closed_none : (s : Start) (h : Held) (c : Cache) → pending (closed s h c) ≡ 0
unfolding closed pending
closed_none from_root h c = refl
closed_none (from_cursor p) h c = refl

less_in : (i : Bytes) (c : Cache) (w : Write) → suc (pending (answered_in sha1 i c w)) ≤ left c w
unfolding answered_in write_of pending
less_in i c w = go (is_nil w.aside) refl
  where
    go : (b : Bool) → is_nil w.aside ≡ b → suc (pending (pick_editor b (closed w.start w.asked c) (write_of w.start (asking (null sha1.width) w.stacked (linked i w.asked.path w.aside) c)))) ≤ left c w
    go true n = omega (arith, closed_none w.start w.asked c)
    go false n =
        omega (
          arith,
          asking_count (null sha1.width) w.stacked (linked i w.asked.path w.aside) c (ap (λ (b : Bool). is_nil w.stacked && b) (linked_some i w.asked.path w.aside n) ∙ and_false (is_nil w.stacked)),
          linked_length i w.asked.path w.aside,
        )

less_of : (i : Bytes) (c : Cache) (o : Option Write) (h : Held) → requested (record { cached = c; writing = o }) ≡ some h →
    suc (pending (answered sha1 i (record { cached = c; writing = o })).editor) ≤ pending (record { cached = c; writing = o })
unfolding requested answered pending
less_of i c none h q = none_some h q
less_of i c (some w) h q = less_in i c w

pub pending_less : (i : Bytes) (E : Editor) (h : Held) → requested E ≡ some h → suc (pending (answered sha1 i E).editor) ≤ pending E
pending_less i E h q = less_of i E.cached E.writing h q

-- The lines of a write
pub more_lines : (n k : ℕ) (E : Editor) (h : Held) → requested E ≡ some h → write_lines (suc n) k E ≡ request_lines h ++ write_lines n (k + 1) (answered sha1 (count_id (k + 1)) E).editor
unfolding write_lines
more_lines n k E h q = ap (λ (o : Option Held). or_root k o (write_lines n (k + 1) (answered sha1 (count_id (k + 1)) E).editor)) q

pub last_line : (n k : ℕ) (E : Editor) → requested E ≡ none → write_lines (suc n) k E ≡ line_of root_key (hex_of (count_id k))
unfolding write_lines
last_line n k E q = ap (λ (o : Option Held). or_root k o (write_lines n (k + 1) (answered sha1 (count_id (k + 1)) E).editor)) q

-- the bound on the requests is not met: with a larger one the lines are the same
lines_alike : (n m k : ℕ) (E : Editor) → pending E ≤ n → write_lines (suc n) k E ≡ write_lines (suc (n + m)) k E
lines_alike zero m k E h = go (requested E) refl
  where
    go : (o : Option Held) → requested E ≡ o → write_lines (suc zero) k E ≡ write_lines (suc (zero + m)) k E
    go none q = last_line zero k E q ∙ sym (last_line (zero + m) k E q)
    go (some t) q = absurd (omega (arith, pending_less [] E t q))
lines_alike (suc n) m k E h = go (requested E) refl (λ D x. lines_alike n m (k + 1) D x)
  where
    go : (o : Option Held) → requested E ≡ o → ((D : Editor) → pending D ≤ n → write_lines (suc n) (k + 1) D ≡ write_lines (suc (n + m)) (k + 1) D) → write_lines (suc (suc n)) k E ≡ write_lines (suc (suc n + m)) k E
    go none q ih = last_line (suc n) k E q ∙ sym (last_line (suc n + m) k E q)
    go (some t) q ih =
        let l = pending_less (count_id (k + 1)) E t q in
        let y : suc n + m ≡ suc (n + m) = omega arith in
        more_lines (suc n) k E t q ∙ ap (λ (z : Bytes). request_lines t ++ z) (ih (answered sha1 (count_id (k + 1)) E).editor (omega (arith, l)))
        ∙ sym (more_lines (suc (n + m)) k E t q) ∙ ap (λ (j : ℕ). write_lines (suc j) k E) (sym y)

pub bound_unmet : (m : ℕ) (E : Editor) → valid sha1 E ≡ true → write_lines (65 + m) 0 E ≡ write_lines 65 0 E
bound_unmet m E v =
    let y : 65 + m ≡ suc (64 + m) = omega arith in
    ap (λ (j : ℕ). write_lines j 0 E) y ∙ sym (lines_alike 64 m 0 E (pending_few E v))

-- k requests are answered, and told
pub record Saving (whole d₀ : Bytes) (to₀ : ℕ) (s : Lent) (k to : ℕ) (d raw : Bytes) : Type 0 where
  pub good : Good s
  pub room : 45056 ≤ length raw
  pub within : to ≤ length d
  pub few : pending (viewed s) + k ≤ 64
  pub rest : ℕ
  pub bound : rest + k ≡ 64
  pub tell : Telling d₀ to₀ whole d to (write_lines (suc rest) k (viewed s))

pub saving_begin : (s : Lent) (d : Bytes) (to : ℕ) (raw : Bytes) → Good s → 45056 ≤ length raw → to ≤ length d → Saving (write_lines 65 0 (viewed s)) d to s 0 to d raw
saving_begin s d to raw g room h =
    record {
      good = g;
      room = room;
      within = h;
      few = omega (arith, pending_few (viewed s) (viewed_valid s g));
      rest = 64;
      bound = omega arith;
      tell = telling_begin d to (write_lines 65 0 (viewed s)) h;
    }

module _ {whole d₀ : Bytes} {to₀ : ℕ} {s : Lent} {k to : ℕ} {d raw : Bytes} (m : Saving whole d₀ to₀ s k to d raw) where
  module _ (h : Held) (q : requested (viewed s) ≡ some h) where
    -- the bound is not met: as long as there is a request, a tree is left
    rest_suc : m.rest ≡ suc (m.rest - 1)
    rest_suc = omega (arith, m.few, m.bound, pending_less [] (viewed s) h q)

    split : write_lines (suc m.rest) k (viewed s) ≡ request_lines h ++ write_lines m.rest (k + 1) (answered sha1 (count_id (k + 1)) (viewed s)).editor
    split = more_lines m.rest k (viewed s) h q

    pub saving_less : {t : Lent} → Leaves (answered sha1 (count_id (k + 1)) (viewed s)) t → suc (pending (viewed t)) ≤ pending (viewed s)
    saving_less l = subst (λ (E : Editor). suc (pending E) ≤ pending (viewed s)) (sym l.is) (pending_less (count_id (k + 1)) (viewed s) h q)

    pub saving_more : {t : Lent} → Leaves (answered sha1 (count_id (k + 1)) (viewed s)) t → {n : ℕ} {e : Bytes} → PutAt d to (request_lines h) n e → (after : Bytes) → length after ≡ length raw →
        Saving whole d₀ to₀ t (k + 1) n e after
    saving_more {t} l {n} {e} p after y =
        record {
          good = l.good;
          room = omega (arith, m.room);
          within = p.within;
          few = omega (arith, m.few, saving_less l);
          rest = m.rest - 1;
          bound = omega (arith, m.bound, rest_suc);
          tell = subst (λ (E : Editor). Telling d₀ to₀ whole e n (write_lines (suc (m.rest - 1)) (k + 1) E)) (sym l.is)
              (subst (λ (j : ℕ). Telling d₀ to₀ whole e n (write_lines j (k + 1) (answered sha1 (count_id (k + 1)) (viewed s)).editor)) rest_suc
              (telling_more (request_lines h) (write_lines m.rest (k + 1) (answered sha1 (count_id (k + 1)) (viewed s)).editor)
              (subst (λ (z : Bytes). Telling d₀ to₀ whole d to z) split m.tell) p));
        }

    pub saving_stop : length d < to + length (request_lines h) → length d₀ < to₀ + length whole
    saving_stop x =
        telling_refused (request_lines h) (write_lines m.rest (k + 1) (answered sha1 (count_id (k + 1)) (viewed s)).editor)
        (subst (λ (z : Bytes). Telling d₀ to₀ whole d to z) split m.tell) x

  pub saving_end : requested (viewed s) ≡ none → (b : Bytes) → b ≡ count_id k → (r : maybe.Option ℕ) (e : Bytes) → outcome r e ≡ written d to (line_of root_key (hex_of b)) → Puts d₀ to₀ whole r e
  saving_end q b x r e w =
      let p : Puts d to (line_of root_key (hex_of (count_id k))) r e = puts d to m.within (line_of root_key (hex_of (count_id k))) r e (w ∙ ap (λ (z : Bytes). written d to (line_of root_key (hex_of z))) x) in
      telling_last (line_of root_key (hex_of (count_id k))) r e (subst (λ (z : Bytes). Telling d₀ to₀ whole d to z) (last_line m.rest k (viewed s) q) m.tell) p

-- the two lines of a request
pub request_lines_lem : (h : Held) (p b : Bytes) → p ≡ h.path → b ≡ raw_tree h.held → line_of tree_key (hex_of p) ++ line_of raw_key (hex_of b) ≡ request_lines h
unfolding request_lines
request_lines_lem h p b x y = rw (x, y)

-- from begin on
pub saved_is : (E D : Editor) → D ≡ (begun sha1 from_root E).editor → write_lines 65 0 D ≡ saved E
unfolding saved
saved_is E D e = ap (write_lines 65 0) e
