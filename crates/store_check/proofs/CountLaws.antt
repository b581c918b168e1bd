-- A count of the trees one after the other: what is left of the record's counts, and what a check of one run says. Assumes nothing.
use mathlib.Core.Path.{◌≡◌, refl, sym, ap, ◌∙◌, subst}
use mathlib.Core.List.{List, [], ◌∷◌, map}
use mathlib.Core.Option.{none, some}
use Prim.Native.Nat.{ℕ, zero, suc, ◌+◌, ◌-◌, ◌≤◌, ◌<◌}
use native.Mathlib.Omega.{arith}
use borrow.Author.Count.{below_more}
use lib.ListN.{length, take, get_or, length-map}
use lib.Seq.{take_all}
use Rattle.model.specs.Bytes.{Bytes}
use Rattle.model.proofs.Basics.{none_some}
use Rattle.names.specs.Check.{size_of}
use Rattle.names.specs.declared.tree.Size.{Size}
use Rattle.names_compact.specs.Compact.{unpack}
use Rattle.names_compact.specs.Judge.{compact_tree}
use Rattle.names_compact.proofs.JudgeLaws.{compact_only, compact_back, compact_sized}
use Rattle.store_runs.specs.Runs.{total}
use Rattle.store_runs.proofs.RunLaws.{total_within, total_more}
use Rattle.store_check.specs.Laid.{Whole, entries_in, names_in, Trees}

-- ---- what is left of a count after the first k runs

pub record Spent (f : Bytes → ℕ) (bs : List Bytes) (all left k : ℕ) : Type 0 where
  pub sum : total (take k (map f bs)) + left ≡ all

pub spent_none : {f : Bytes → ℕ} {bs : List Bytes} {all : ℕ} → Spent f bs all all 0
unfolding total
spent_none = record { sum = omega arith }

get_d_map : (f : Bytes → ℕ) (bs : List Bytes) (k : ℕ) → k < length bs → get_or (map f bs) k 0 ≡ f (get_or bs k [])
get_d_map f [] k h = absurd (omega arith)
get_d_map f (b ∷ bs) zero h = refl
get_d_map f (b ∷ bs) (suc k) h = get_d_map f bs k (omega arith)

module _ {f : Bytes → ℕ} {bs : List Bytes} {all left k : ℕ} (s : Spent f bs all left k) where
  pub spent_over : (n : ℕ) → k < length bs → n ≡ f (get_or bs k []) → left < n → total (map f bs) ≡ all → ⊥
  spent_over n h e l t = omega (arith, s.sum, t, e, get_d_map f bs k h, total_within (map f bs) k (omega (arith, length-map bs f)))

  pub spent_more : (n : ℕ) → k < length bs → n ≡ f (get_or bs k []) → n ≤ left → Spent f bs all (left - n) (k + 1)
  spent_more n h e l = record { sum = omega (arith, s.sum, e, get_d_map f bs k h, total_more (map f bs) k (omega (arith, length-map bs f))) }

  whole_sum : length bs ≤ k → total (map f bs) + left ≡ all
  whole_sum h = ap (λ (x : List ℕ). total x + left) (sym (take_all k (map f bs) (omega (arith, length-map bs f)))) ∙ s.sum

  pub spent_all : length bs ≤ k → left ≡ 0 → total (map f bs) ≡ all
  spent_all h z = omega (arith, whole_sum h)

  pub spent_left : length bs ≤ k → total (map f bs) ≡ all → left ≡ 0
  spent_left h t = omega (arith, whole_sum h, t)

-- ---- what the check of a run says

module _ (w : ℕ) (b : Bytes) where
  pub broken : none ≡ size_of (compact_tree w b) → Whole w b → ⊥
  broken e t =
      let c : compact_tree w b ≡ some (unpack w b) = ap (compact_tree w) t.packed ∙ compact_back w (unpack w b) t.well in
      none_some _ (e ∙ ap size_of c)

  module _ (n m : ℕ) (e : some (record { entries = n; bytes = m }) ≡ size_of (compact_tree w b)) where
    sized : (compact_tree w b ≡ some (unpack w b)) × (length (unpack w b) ≡ n) × (names_in w b ≡ m)
    sized = compact_sized w b (record { entries = n; bytes = m }) (sym e)

    pub formed : Whole w b
    formed =
        let c = compact_only w b (unpack w b) sized.0 in
        record { packed = c.bytes; well = c.well }

    pub formed_entries : n ≡ entries_in w b
    formed_entries = sym sized.1

    pub formed_names : m ≡ names_in w b
    formed_names = sym sized.2

-- ---- the count of all trees

-- the first k of them are whole, and so many entries and name bytes are left to the others
pub record Counting (w : ℕ) (bs : List Bytes) (all left : Size) (k : ℕ) : Type 0 where
  pub whole : (j : ℕ) → j < k → Whole w (get_or bs j [])
  pub entries : Spent (entries_in w) bs all.entries left.entries k
  pub names : Spent (names_in w) bs all.name_bytes left.name_bytes k

pub count_none : {w : ℕ} {bs : List Bytes} {all : Size} → Counting w bs all all 0
count_none = record { whole = λ j h. absurd (omega arith); entries = spent_none; names = spent_none }

module _ {w : ℕ} {bs : List Bytes} {all left : Size} {k : ℕ} (c : Counting w bs all left k) where
  module _ (b : Bytes) (h : k < length bs) (l : length bs ≤ 64) (q : b ≡ get_or bs k []) where
    pub count_broken : none ≡ size_of (compact_tree w b) → Trees w bs all.entries all.name_bytes → ⊥
    count_broken e t = broken w b e (subst (Whole w) (sym q) (t.whole k (omega arith)))

    module _ (size : Size) (e : some (record { entries = size.entries; bytes = size.name_bytes }) ≡ size_of (compact_tree w b)) where
      its_entries : size.entries ≡ entries_in w (get_or bs k [])
      its_entries = formed_entries w b size.entries size.name_bytes e ∙ ap (entries_in w) q

      its_names : size.name_bytes ≡ names_in w (get_or bs k [])
      its_names = formed_names w b size.entries size.name_bytes e ∙ ap (names_in w) q

      pub count_over : left.entries < size.entries → Trees w bs all.entries all.name_bytes → ⊥
      count_over o t = spent_over c.entries size.entries h its_entries o t.entries

      pub count_over_names : left.name_bytes < size.name_bytes → Trees w bs all.entries all.name_bytes → ⊥
      count_over_names o t = spent_over c.names size.name_bytes h its_names o t.names

      pub count_more : size.entries ≤ left.entries → size.name_bytes ≤ left.name_bytes →
          Counting w bs all (record { entries = left.entries - size.entries; name_bytes = left.name_bytes - size.name_bytes }) (k + 1)
      count_more f g =
          record {
            whole = below_more (λ j. Whole w (get_or bs j [])) k c.whole (subst (Whole w) q (formed w b size.entries size.name_bytes e));
            entries = spent_more c.entries size.entries h its_entries f;
            names = spent_more c.names size.name_bytes h its_names g;
          }

  module _ (l : length bs ≡ 64) (h : k ≡ length bs) where
    pub no_entries : Trees w bs all.entries all.name_bytes → left.entries ≡ 0
    no_entries t = spent_left c.entries (omega arith) t.entries

    pub no_names : Trees w bs all.entries all.name_bytes → left.name_bytes ≡ 0
    no_names t = spent_left c.names (omega arith) t.names

    pub count_all : left.entries ≡ 0 → left.name_bytes ≡ 0 → Trees w bs all.entries all.name_bytes
    count_all y z = record { whole = λ j g. c.whole j (omega arith); entries = spent_all c.entries (omega arith) y; names = spent_all c.names (omega arith) z }
