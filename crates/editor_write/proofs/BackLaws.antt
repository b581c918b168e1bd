-- A call over the fronts of lent slices says the same of the slices themselves: what lies behind the fronts stays where it is. Assumes nothing.
use Prim.Native.Nat.{ℕ}
use mathlib.Core.Path.{◌≡◌, refl, ap, sym, ◌∙◌, subst}
use mathlib.Core.Bool.{Bool, true}
use mathlib.Core.List.{List, ◌++◌}
use native.Mathlib.Omega.{arith}
use lib.ListN.{length, take, drop, length-append, take-append-drop}
use lib.Seq.{take_at, drop_at, length-take-le}
use Rattle.model.specs.Calls.{Answer}
use Rattle.model.specs.Editor.{Editor as Model}
use Rattle.model.specs.Formats.{sha1}
use Rattle.store_slots.specs.View.{editor_of, Holds}
use Rattle.store_slots.specs.Stores.{Shows}
use Rattle.store_slots.specs.declared.Record.{Record}
use Rattle.store_slots.specs.declared.Store.{Store}
use Rattle.store_slots.specs.declared.View.{View}
use Rattle.store_check.specs.Decides.{Decides}
use Rattle.editor.specs.Lent.{Lent, lent, lent_in, lent_seen, Good, viewed, Behind, Does}
use Rattle.editor.proofs.LookLaws.{trees_long}
use Rattle.editor.proofs.RootLaws.{back_view, back_good, back_behind}
use Rattle.editor_write.specs.Steps.{fronts, Made, Answers}

-- a view shows the store that it is of
pub seen_is : {v : View} {s : Store} → Shows v s → (order : List ℕ) → lent_seen v order ≡ lent_in s order
seen_is {v} {s} k order =
    ap (λ (x : Record). lent x v.plens.now v.paths.now v.tlens.now v.trees.now order) k.ed
    ∙ ap (λ (x : List ℕ). lent s.ed x v.paths.now v.tlens.now v.trees.now order) k.plens
    ∙ ap (λ (x : List ℕ). lent s.ed s.plens.now x v.tlens.now v.trees.now order) k.paths
    ∙ ap (λ (x : List ℕ). lent s.ed s.plens.now s.paths.now x v.trees.now order) k.tlens
    ∙ ap (λ (x : List ℕ). lent s.ed s.plens.now s.paths.now s.tlens.now x order) k.trees

pub decided : {v : View} {s : Store} → Shows v s → (order : List ℕ) (b : Bool) → Decides (Good (lent_seen v order)) b → Decides (Good (lent_in s order)) b
decided k order b = subst (λ (x : Lent). Decides (Good x) b) (seen_is k order)

-- a refusal leaves each byte
pub refuses : (f : Model → Answer) (s : Lent) (n : ℕ) → Good s → (n ≡ 13 → ⊥) → record { code = n; editor = viewed s } ≡ f (viewed s) → Does f s n s
refuses f s n g u e =
    record {
      refused = λ z. absurd (u z);
      done = λ z. (g, e, g, record { plens = refl; paths = refl; tlens = refl; trees = refl; order = refl });
      kept = λ z. refl;
    }

pub made_answers : (f : Model → Answer) (s q : Lent) → Made f s q → Answers f s 0 q
made_answers f s q m = record { holds = m.holds; is = m.is; kept = λ h. absurd (omega (arith, h)); usual = λ z. omega (arith, z) }

module _ (s : Lent) (g : Good s) (q : Record) (p₁ p₂ p₃ p₄ p₅ : List ℕ) (k₁ : length p₁ ≡ length (take 64 s.plens)) (k₂ : length p₂ ≡ length (take 8192 s.paths)) (k₃ : length p₃ ≡ length (take 64 s.tlens))
    (k₄ : length p₄ ≡ length (take 38912 s.trees)) (k₅ : length p₅ ≡ length (take 64 s.order)) where
  l₁ : length p₁ ≡ 64
  l₁ = k₁ ∙ length-take-le 64 s.plens g.plens_room

  l₂ : length p₂ ≡ 8192
  l₂ = k₂ ∙ length-take-le 8192 s.paths g.paths_room

  l₃ : length p₃ ≡ 64
  l₃ = k₃ ∙ length-take-le 64 s.tlens g.tlens_room

  l₄ : length p₄ ≡ 38912
  l₄ = k₄ ∙ length-take-le 38912 s.trees (trees_long s.ed s.plens s.paths s.tlens s.trees s.order g)

  l₅ : length p₅ ≡ 64
  l₅ = k₅ ∙ length-take-le 64 s.order g.order_room

  -- the fronts before what lies behind them
  abbrev order : List ℕ
  order = p₅ ++ drop 64 s.order

  abbrev pub whole : Lent
  whole = lent q (p₁ ++ drop 64 s.plens) (p₂ ++ drop 8192 s.paths) (p₃ ++ drop 64 s.tlens) (p₄ ++ drop 38912 s.trees) order

  order_front : take 64 order ≡ p₅
  order_front = take_at p₅ (drop 64 s.order) 64 l₅

  whole_view : viewed whole ≡ editor_of 20 q p₁ p₂ p₃ p₄ p₅
  whole_view = back_view q s.plens s.paths s.tlens s.trees p₁ p₂ p₃ p₄ order l₁ l₂ l₃ l₄ ∙ ap (editor_of 20 q p₁ p₂ p₃ p₄) order_front

  whole_good : Holds sha1 q p₁ p₂ p₃ p₄ p₅ → Good whole
  whole_good h =
      back_good q s.plens s.paths s.tlens s.trees p₁ p₂ p₃ p₄ order l₁ l₂ l₃ l₄ (omega (arith, length-append p₅ (drop 64 s.order), l₅)) (subst (Holds sha1 q p₁ p₂ p₃ p₄) (sym order_front) h)

  whole_behind : Behind s whole
  whole_behind =
      let b = back_behind q s.plens s.paths s.tlens s.trees p₁ p₂ p₃ p₄ order l₁ l₂ l₃ l₄ s.ed in
      record { plens = b.plens; paths = b.paths; tlens = b.tlens; trees = b.trees; order = drop_at p₅ (drop 64 s.order) 64 l₅ }

  -- fronts that are as they were
  whole_same : lent q p₁ p₂ p₃ p₄ p₅ ≡ fronts s → whole ≡ s
  whole_same e =
      ap (λ (y : Lent). lent y.ed (y.plens ++ drop 64 s.plens) (y.paths ++ drop 8192 s.paths) (y.tlens ++ drop 64 s.tlens) (y.trees ++ drop 38912 s.trees) (y.order ++ drop 64 s.order)) e
      ∙ ap (λ (y : List ℕ). lent s.ed y (take 8192 s.paths ++ drop 8192 s.paths) (take 64 s.tlens ++ drop 64 s.tlens) (take 38912 s.trees ++ drop 38912 s.trees) (take 64 s.order ++ drop 64 s.order)) (take-append-drop 64 s.plens)
      ∙ ap (λ (y : List ℕ). lent s.ed s.plens y (take 64 s.tlens ++ drop 64 s.tlens) (take 38912 s.trees ++ drop 38912 s.trees) (take 64 s.order ++ drop 64 s.order)) (take-append-drop 8192 s.paths)
      ∙ ap (λ (y : List ℕ). lent s.ed s.plens s.paths y (take 38912 s.trees ++ drop 38912 s.trees) (take 64 s.order ++ drop 64 s.order)) (take-append-drop 64 s.tlens)
      ∙ ap (λ (y : List ℕ). lent s.ed s.plens s.paths s.tlens y (take 64 s.order ++ drop 64 s.order)) (take-append-drop 38912 s.trees)
      ∙ ap (λ (y : List ℕ). lent s.ed s.plens s.paths s.tlens s.trees y) (take-append-drop 64 s.order)

  -- what was answered over the fronts
  pub does_whole : (f : Model → Answer) (code : ℕ) → Answers f (fronts s) code (lent q p₁ p₂ p₃ p₄ p₅) → Does f s code whole
  does_whole f code a =
      record {
        refused = λ z. absurd (a.usual z);
        done = λ n. (g, ap (λ (E : Model). record { code = code; editor = E }) whole_view ∙ a.is, whole_good a.holds, whole_behind);
        kept = λ h. whole_same (a.kept h);
      }

  -- what was made over the fronts
  pub made_whole : (f : Model → Answer) → Made f (fronts s) (lent q p₁ p₂ p₃ p₄ p₅) → Does f s 0 whole
  made_whole f m = does_whole f 0 (made_answers f (fronts s) (lent q p₁ p₂ p₃ p₄ p₅) m)

-- a store that is not refused holds an editor, and does so after the call
pub accepts : {v : View} {s : Store} → Shows v s → (order : List ℕ) (b : Bool) → Decides (Good (lent_seen v order)) b → b ≡ true → Good (lent_in s order)
accepts k order b d e = (decided k order b d).yes e

pub stays_good : {f : Model → Answer} {s q : Lent} {code : ℕ} → Does f s code q → Good s → Good q
stays_good d g = (d.done (λ z. (d.refused z).0 g)).2
