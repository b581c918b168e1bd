-- Laws of both passes: the first says whether the walk keeps the limits, and then the second makes it. Assumes nothing.
use Prim.Native.Nat.{ℕ, ◌≤◌}
use mathlib.Core.Path.{◌≡◌, refl, sym, ap, ◌∙◌, subst}
use mathlib.Core.Bool.{Bool, true, false, not, ◌||◌}
use mathlib.Core.Option.{Option}
use native.Mathlib.Omega.{arith}
use lib.Dec.{leb}
use lib.ListN.{length}
use borrow.Author.Tests.{leb-true}
use Rattle.model.specs.Bytes.{Bytes, has}
use Rattle.model.specs.Map.{find, is_some}
use Rattle.model.specs.Paths.{components, full, some_long, refused}
use Rattle.model.specs.Table.{Table}
use Rattle.model.specs.Editor.{Held, at, Cache, fits, tree_at}
use Rattle.model.specs.Formats.{sha1}
use Rattle.model.specs.Walk.{Edit, Walked, walk}
use Rattle.model.specs.Measure.{measure, counts_of}
use Rattle.model.specs.Calls.{refuse_if, settled}
use Rattle.model.specs.Valid.{valid}
use Rattle.model.proofs.Basics.{or_right, not_false}
use Rattle.model.proofs.LowNumbers.{measured_low}
use Rattle.model.proofs.MeasureRight.{measure_code, measure_kept}
use Rattle.model.proofs.LimitLaws.{fits_of}
use Rattle.std.specs.Prelude.{Result, Ok, Err}
use Rattle.store_slots.specs.declared.Store.{Store}
use Rattle.store_slots.specs.View.{Used}
use Rattle.store_slots.specs.Stores.{LaidIn, path_in_slot, view_in}
use Rattle.editor_terms.specs.Answers.{Answer}
use Rattle.editor_terms.specs.declared.refusal.Refusal.{Refusal}
use Rattle.store_slots.proofs.Relaid.{find_slot}
use Rattle.editor_walk.specs.Levels.{MeasureSays, MeasuredAs}
use Rattle.editor_walk.specs.Steps.{WalkedAs, editor_at, SettledAs}
use Rattle.editor_walk.proofs.DownLaws.{same_write}

-- a path that is not refused is short
pub short_path : (prefix path : Bytes) → refused prefix path ≡ false → length (full prefix path) ≤ 1024
unfolding refused
short_path prefix path h =
    leb-true (length (full prefix path)) 1024 (not_false (leb (length (full prefix path)) 1024) (or_right (has 0 path || some_long (components path)) (not (leb (length (full prefix path)) 1024)) h))

module _ (T : Table) (e : Edit) (opening : Bool) (s : Store) (L : LaidIn 20 s) (cl : s.ed.hidden ≡ s.ed.free) (slot : ℕ) (U : Used s.ed slot) (path : Bytes)
    (v : valid sha1 (editor_at (view_in 20 s)) ≡ true) where
  abbrev q : Bytes
  q = path_in_slot s slot

  abbrev c : Cache
  c = view_in 20 s

  abbrev w : Walked
  w = walk sha1 T e opening (components path) q c

  pub view_fits : fits c ≡ true
  view_fits = fits_of sha1 c v

  there : is_some (find at q c) ≡ true
  there = ap (λ (o : Option Held). is_some o) (find_slot 20 s.ed s.plens.now s.paths.now s.tlens.now s.trees.now L slot U.low U.used)

  module _ {m : Result Answer Refusal} (em : MeasuredAs (measure sha1 T e opening q path c) m) where
    pub walk_kept : {answer : Answer} → m ≡ Ok answer → w.kept ≡ true
    walk_kept {answer} f =
        let g : MeasureSays (measure sha1 T e opening q path c) (Ok answer) = subst (MeasureSays (measure sha1 T e opening q path c)) f em.says in
        sym (measure_kept sha1 T e opening q path c v there) ∙ g.0

    pub settle_none : {refusal : Refusal} → m ≡ Err refusal → SettledAs s (settled (editor_at c) w) (Err refusal) s
    unfolding settled refuse_if
    settle_none {refusal} f =
        let g : MeasureSays (measure sha1 T e opening q path c) (Err refusal) = subst (MeasureSays (measure sha1 T e opening q path c)) f em.says in
        let k : w.kept ≡ false = sym (measure_kept sha1 T e opening q path c v there) ∙ g.0 in
        record {
          code = g.1 ∙ sym (ap (λ (z : Bool). (refuse_if (not z) 5 (editor_at c) (record { code = w.code; editor = editor_at w.now })).code) k);
          now = sym (ap (λ (z : Bool). (refuse_if (not z) 5 (editor_at c) (record { code = w.code; editor = editor_at w.now })).editor) k);
          stand = record { laid = L; closed = cl; write = same_write s.ed };
          same = λ h. (refl, refl, refl, refl, refl);
        }

    pub settle_walk : {answer : Answer} → m ≡ Ok answer → {a : Answer} {s' : Store} → WalkedAs s.ed w a s' → SettledAs s (settled (editor_at c) w) a s'
    unfolding settled refuse_if
    settle_walk t d =
        let k : w.kept ≡ true = walk_kept t in
        record {
          code = d.code ∙ sym (ap (λ (z : Bool). (refuse_if (not z) 5 (editor_at c) (record { code = w.code; editor = editor_at w.now })).code) k);
          now = ap editor_at d.now ∙ sym (ap (λ (z : Bool). (refuse_if (not z) 5 (editor_at c) (record { code = w.code; editor = editor_at w.now })).editor) k);
          stand = d.stand;
          same = λ h.
              let l = measured_low sha1 T e opening (components path) q (tree_at q c) c (counts_of c) in
              absurd (omega (arith, l, measure_code sha1 T e opening q path c v there, d.code, h));
        }
