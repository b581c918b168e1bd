-- Record after record: what was told and what is left to tell are the lines of all records. Assumes nothing.
use Prim.Native.Nat.{ℕ, ◌+◌, ◌≤◌, ◌<◌}
use mathlib.Core.Path.{◌≡◌, refl, sym, ◌∙◌, ap, subst}
use mathlib.Core.List.{List, [], ◌∷◌, ◌++◌}
use native.Mathlib.Omega.{arith}
use lib.ListN.{length}
use Rattle.std.specs.Prelude.{Option, Some, Ok}
use Rattle.model.specs.Bytes.{Bytes}
use Rattle.model.specs.Editor.{Editor}
use Rattle.editor.specs.Lent.{Lent, Good, viewed}
use Rattle.small_records.specs.Answers.{found_as, next_read}
use Rattle.small_records.specs.declared.record.EditRecord.{EditRecord as Entry}
use Rattle.small_records.specs.Places.{Found, Next, nothing, broken, found, next_at, record_found}
use Rattle.small_records.specs.Records.{EditRecord, good as goodInput, reading}
use Rattle.small_records.proofs.FormLaws.{standing, Left, left_begin, left_more, left_end, left_good}
use Rattle.small_run.specs.Lesson.{made_by, refusal, record_lines, after_records}
use Rattle.small_run.specs.Puts.{PutAt, Leaves}
use Rattle.small_run.proofs.PutLaws.{Telling, telling_begin, telling_more, telling_refused, telling_end}

-- what a record that was read says of its place
pub read_found : {x : Next} {o : Option Entry} {r : Entry} → next_read (Ok o) ≡ x → o ≡ Some r → x ≡ found (found_as r)
read_found p q = sym p ∙ ap (λ (o : Option Entry). next_read (Ok o)) q

more_lines : (k : ℕ) (r : EditRecord) (rs : List EditRecord) (E : Editor) → record_lines k (r ∷ rs) E ≡ refusal k (made_by r E).code ++ record_lines (k + 1) rs (made_by r E).editor
unfolding record_lines
more_lines k r rs E = refl

no_lines : (k : ℕ) (E : Editor) → record_lines k [] E ≡ []
unfolding record_lines
no_lines k E = refl

after_more : (r : EditRecord) (rs : List EditRecord) (E : Editor) → after_records (r ∷ rs) E ≡ after_records rs (made_by r E).editor
unfolding after_records
after_more r rs E = refl

after_none : (E : Editor) → after_records [] E ≡ E
unfolding after_records
after_none E = refl

-- the records rs are told up to a place; from there on qs are left
pub record Rest (input : Bytes) (rs : List EditRecord) (E₀ : Editor) (d₀ : Bytes) (E : Editor) (at k to : ℕ) (d : Bytes) : Type 0 where
  pub qs : List EditRecord
  pub left : Left 20 input at qs
  pub tell : Telling d₀ 0 (record_lines 1 rs E₀) d to (record_lines k qs E)
  pub after : after_records rs E₀ ≡ after_records qs E

pub record Midway (input : Bytes) (s₀ : Lent) (d₀ : Bytes) (s : Lent) (at k to : ℕ) (d : Bytes) : Type 0 where
  pub good : Good s
  pub inside : at ≤ length input
  pub few : k ≤ at + 1
  pub within : to ≤ length d
  pub rest : (rs : List EditRecord) → reading 20 input ≡ goodInput rs → Rest input rs (viewed s₀) d₀ (viewed s) at k to d

pub midway_begin : (input : Bytes) (s : Lent) (d : Bytes) → Good s → Midway input s d s 0 1 0 d
midway_begin input s d g =
    record {
      good = g;
      inside = omega arith;
      few = omega arith;
      within = omega arith;
      rest = λ rs e. record { qs = rs; left = left_begin 20 input rs e; tell = telling_begin d 0 (record_lines 1 rs (viewed s)) (omega arith); after = refl };
    }

module _ {input : Bytes} {s₀ : Lent} {d₀ : Bytes} {s : Lent} {at k to : ℕ} {d : Bytes} (m : Midway input s₀ d₀ s at k to d) where
  module _ (f : Found) (q : next_at 20 input at ≡ found f) where
    -- the lines that are left begin with this record's
    split : (E : Editor) (ps qs : List EditRecord) → qs ≡ record_found input f ∷ ps → record_lines k qs E ≡ refusal k (made_by (record_found input f) E).code ++ record_lines (k + 1) ps (made_by (record_found input f) E).editor
    split E ps qs y = ap (λ (l : List EditRecord). record_lines k l E) y ∙ more_lines k (record_found input f) ps E

    rest_more : (rs : List EditRecord) (E₀ E : Editor) → Rest input rs E₀ d₀ E at k to d → {n : ℕ} {o : Bytes} → PutAt d to (refusal k (made_by (record_found input f) E).code) n o →
        Rest input rs E₀ d₀ (made_by (record_found input f) E).editor f.next (k + 1) n o
    rest_more rs E₀ E r {n} {o} p =
        let (ps, y, l) = left_more r.left q in
        record {
          qs = ps;
          left = l;
          tell = telling_more (refusal k (made_by (record_found input f) E).code) (record_lines (k + 1) ps (made_by (record_found input f) E).editor)
              (subst (λ (z : Bytes). Telling d₀ 0 (record_lines 1 rs E₀) d to z) (split E ps r.qs y) r.tell) p;
          after = r.after ∙ ap (λ (z : List EditRecord). after_records z E) y ∙ after_more (record_found input f) ps E;
        }

    pub midway_more : {t : Lent} → Leaves (made_by (record_found input f) (viewed s)) t → {n : ℕ} {o : Bytes} → PutAt d to (refusal k (made_by (record_found input f) (viewed s)).code) n o →
        (next : ℕ) → next ≡ f.next → Midway input s₀ d₀ t next (k + 1) n o
    midway_more {t} l {n} {o} p next h =
        let b = standing 20 input at q in
        record {
          good = l.good;
          inside = omega (arith, b.inside);
          few = omega (arith, m.few, b.forward);
          within = p.within;
          rest = λ rs e. subst (λ (i : ℕ). Rest input rs (viewed s₀) d₀ (viewed t) i (k + 1) n o) (sym h)
              (subst (λ (E : Editor). Rest input rs (viewed s₀) d₀ E f.next (k + 1) n o) (sym l.is) (rest_more rs (viewed s₀) (viewed s) (m.rest rs e) p));
        }

    pub midway_stop : length d < to + length (refusal k (made_by (record_found input f) (viewed s)).code) → (rs : List EditRecord) → reading 20 input ≡ goodInput rs → length d₀ < 0 + length (record_lines 1 rs (viewed s₀))
    midway_stop h rs e =
        let r = m.rest rs e in
        let (ps, y, l) = left_more r.left q in
        telling_refused (refusal k (made_by (record_found input f) (viewed s)).code) (record_lines (k + 1) ps (made_by (record_found input f) (viewed s)).editor)
        (subst (λ (z : Bytes). Telling d₀ 0 (record_lines 1 rs (viewed s₀)) d to z) (split (viewed s) ps r.qs y) r.tell) h

  -- no line of a good input breaks the form
  pub midway_good : (rs : List EditRecord) → reading 20 input ≡ goodInput rs → {j : ℕ} → next_at 20 input at ≡ broken j → ⊥
  midway_good rs e {j} q = left_good (m.rest rs e).left q

  -- at its end all are told
  module _ (q : next_at 20 input at ≡ nothing) (rs : List EditRecord) (e : reading 20 input ≡ goodInput rs) where
    all_told : (m.rest rs e).qs ≡ []
    all_told = left_end (m.rest rs e).left q

    pub midway_put : PutAt d₀ 0 (record_lines 1 rs (viewed s₀)) to d
    midway_put =
        telling_end (subst (λ (z : Bytes). Telling d₀ 0 (record_lines 1 rs (viewed s₀)) d to z)
        (ap (λ (l : List EditRecord). record_lines k l (viewed s)) all_told ∙ no_lines k (viewed s)) (m.rest rs e).tell)

    pub midway_after : viewed s ≡ after_records rs (viewed s₀)
    midway_after = sym ((m.rest rs e).after ∙ ap (λ (l : List EditRecord). after_records l (viewed s)) all_told ∙ after_none (viewed s))
