-- Laws of a step: the turn at the component changes the tree, and the walk ends there or goes down. Assumes nothing.
use Prim.Native.Nat.{ℕ}
use mathlib.Core.Path.{◌≡◌, refl, sym, ap, ap₂, ◌∙◌, subst}
use mathlib.Core.List.{[], ◌∷◌}
use mathlib.Core.Bool.{Bool, true, false}
use mathlib.Core.Option.{Option, none, some}
use Rattle.std.specs.Prelude.{Option as Opt, Err}
use native.Mathlib.Omega.{arith}
use lib.ListN.{length}
use Rattle.model.specs.Bytes.{Bytes}
use Rattle.model.specs.Map.{find, put, rising}
use Rattle.model.specs.Tree.{Tree, key, entry_of, null}
use Rattle.model.specs.Table.{Table}
use Rattle.model.specs.Editor.{Held, at, Cache, ◌↝◌}
use Rattle.model.specs.Editor as editor
use Rattle.model.specs.Formats.{sha1}
use Rattle.model.specs.Walk as walk
use Rattle.model.specs.Walk.{Walked, ended, stepped, turned, pick_walked}
use Rattle.model.proofs.Basics.{no_way}
use Rattle.model.proofs.MapLaws.{put_there}
use Rattle.store_slots.specs.declared.Store.{Store}
use Rattle.store_slots.specs.View.{Used}
use Rattle.store_slots.specs.Stores.{LaidIn, path_in_slot, tree_in_slot, view_in}
use Rattle.store_slots.specs.declared.View.{View}
use Rattle.store_slots.specs.Stores.{Shows}
use Rattle.store_slots.proofs.Relaid.{find_slot}
use Rattle.store_slots.proofs.Changes.{searched_run, tree_run}
use Rattle.store_slots.proofs.StoreLaws.{tree_seen}
use Rattle.store_runs.specs.Runs.{run_of}
use Rattle.names_compact.specs.Compact.{Run, unpack}
use Rattle.model.proofs.SoundTrees.{sound_well}
use Rattle.store_entries.specs.Entries.{EditedIn}
use Rattle.std.specs.declared.ops.ControlFlow.{ControlFlow}
use Rattle.std.specs.declared.ops.ControlFlow.TheVariants.{Continue, Break}
use Rattle.editor_terms.specs.Answers.{Answer, code_number}
use Rattle.editor_terms.specs.Edits.{changed, looks, parts_of, seen_as, turn_as, goes_on, wanted_by, ends_with, TurnIs}
use Rattle.editor_terms.specs.declared.refusal.Refusal.TheVariants.{EmptyComponent}
use Rattle.editor_terms.specs.declared.edit.Seen.{Seen}
use Rattle.editor_terms.specs.declared.edit.Turn.{Turn}
use Rattle.editor_terms.specs.declared.edit.Turn.TheVariants.{Stop, Cut, Put, Down}
use Rattle.editor_walk.proofs.LandLaws.{wide}
use Rattle.editor_walk.proofs.MeasureLaws.{nil_length}
use Rattle.editor_walk.specs.Steps.{PutFits, down_as, step_as, step_for, Fitting, StepEnds, SteppedAs}
use Rattle.editor_walk.specs.Tasks.{edit_for, table_for}
use Rattle.editor_walk.specs.declared.task.Task.{Task}
use Rattle.editor_walk.proofs.DownLaws.{same_write, write_twice, stepped_code, stepped_kept, stepped_fits, ended_code}

-- the model's step after a turn r
module _ (T : Table) (e : walk.Edit) (opening : Bool) (p q n : Bytes) (c : Cache) (t : Tree) (next : Cache → Walked) where
  abbrev after : Turn → Cache
  after r = put at (p ↝ changed r n t) c

  abbrev made : Turn → Bool → Walked
  made r b = turned sha1 T e opening p q next c (turn_as r b n t)

  ends_at : (r : Turn) → opening ≡ false → stepped (after r) (pick_walked opening (down_as T e q none (after r) next) (ended 0 (after r))) ≡ stepped (after r) (ended 0 (after r))
  ends_at r h = ap (λ (z : Bool). stepped (after r) (pick_walked z (down_as T e q none (after r) next) (ended 0 (after r)))) h

  ended_at : (r : Turn) (w : Walked) → w ≡ stepped (after r) (ended 0 (after r)) → (w.code ≡ 0) × (w.now ≡ after r)
  ended_at r w h =
      let s = stepped_code (after r) (ended 0 (after r)) in
      let d = ended_code 0 (after r) in
      (ap (λ (z : Walked). z.code) h ∙ s.0 ∙ d.0, ap (λ (z : Walked). z.now) h ∙ s.1 ∙ d.1)

  turned_stop : find at p c ≡ some (p ↝ t) → (r : Turn) (b : Bool) → goes_on opening (turn_as r b n t) ≡ false → ((made r b).code ≡ ends_with r) × ((made r b).now ≡ after r)
  unfolding turned
  turned_stop f (Stop answer) b h = ((ended_code (code_number answer) c).0, (ended_code (code_number answer) c).1 ∙ sym (put_there at (p ↝ t) c f))
  turned_stop f Cut b h = ended_at Cut (made Cut b) (ends_at Cut h)
  turned_stop f (Put k i) true h = ended_at (Put k i) (made (Put k i) true) (ends_at (Put k i) h)
  turned_stop f (Put k i) false h = no_way h
  turned_stop f (Down i) b h = no_way h

  goes_at : (r : Turn) → opening ≡ true → stepped (after r) (pick_walked opening (down_as T e q none (after r) next) (ended 0 (after r))) ≡ stepped (after r) (down_as T e q none (after r) next)
  goes_at r h = ap (λ (z : Bool). stepped (after r) (pick_walked z (down_as T e q none (after r) next) (ended 0 (after r)))) h

  turned_on : (r : Turn) (b : Bool) → goes_on opening (turn_as r b n t) ≡ true → made r b ≡ stepped (after r) (down_as T e q (wanted_by r) (after r) next)
  unfolding turned
  turned_on (Stop answer) b h = no_way (sym h)
  turned_on Cut b h = goes_at Cut h
  turned_on (Put k i) true h = goes_at (Put k i) h
  turned_on (Put k i) false h = refl
  turned_on (Down i) b h = refl

-- the tree of a slot, as it is read
module _ {v : View} {s : Store} (h : Shows v s) (L : LaidIn 20 s) {k : ℕ} (U : Used s.ed k) {bytes : Bytes} (e : bytes ≡ run_of v.tlens.now v.trees.now k) where
  here : bytes ≡ run_of s.tlens.now s.trees.now k
  here = tree_seen v s k bytes h e

  pub seen_run : Run 20 bytes
  seen_run = subst (Run 20) (sym here) (searched_run 20 s.ed s.plens.now s.paths.now s.tlens.now s.trees.now L k U.low)

  pub seen_tree : unpack 20 bytes ≡ tree_in_slot 20 s k
  seen_tree = ap (unpack 20) here ∙ tree_run 20 s.ed s.plens.now s.paths.now s.tlens.now s.trees.now L k U.low

  pub seen_order : rising key (unpack 20 bytes) ≡ true
  seen_order = ap (λ (t : Tree). rising key t) seen_tree ∙ (sound_well 20 (tree_in_slot 20 s k) (L.well k U.low)).in_order

-- a component of no bytes
pub step_empty : (task : Task) (b : Bool) (p q n : Bytes) (s : Store) → LaidIn 20 s → s.ed.hidden ≡ s.ed.free → length n ≡ 0 →
    SteppedAs s.ed (step_for task b p q n (view_in 20 s)) q (Break (Err EmptyComponent)) s
step_empty task b p q [] s L cl z = record { stand = record { laid = L; closed = cl; write = same_write s.ed }; ends = λ next. ended_code 1 (view_in 20 s) }
step_empty task b p q (x ∷ n) s L cl z = absurd (omega (arith, z))

-- at a component of some bytes, in the tree of the slot k: what was seen of its entry, and the turn
pub record Turning (task : Task) (b : Bool) (q n : Bytes) (s : Store) (k : ℕ) (seen : Opt Seen) (x : Turn) : Type 0 where
  pub laid : LaidIn 20 s
  pub closed : s.ed.hidden ≡ s.ed.free
  pub used : Used s.ed k
  pub turn : TurnIs task.edit b seen x
  pub sees : looks task.edit b ≡ true → seen_as seen ≡ parts_of (entry_of n (tree_in_slot 20 s k))
  pub bytes : length n ≡ 0 → ⊥

module _ {task : Task} {b : Bool} {q n : Bytes} {s : Store} {k : ℕ} {seen : Opt Seen} {x : Turn} (y : Turning task b q n s k seen x) where
  abbrev T : Table
  T = table_for task

  abbrev e : walk.Edit
  e = edit_for task

  abbrev opening : Bool
  opening = task.opening

  abbrev p : Bytes
  p = path_in_slot s k

  abbrev t : Tree
  t = tree_in_slot 20 s k

  abbrev c : Cache
  c = view_in 20 s

  found : find at p c ≡ some (p ↝ t)
  found = find_slot 20 s.ed s.plens.now s.paths.now s.tlens.now s.trees.now y.laid k y.used.low y.used.used

  at_turn : (next : Cache → Walked) → step_as T e opening b p q n c next ≡ turned sha1 T e opening p q next c (turn_as x b n t)
  at_turn next =
      ap (λ (z : Bool). pick_walked z (ended 1 c) (turned sha1 T e opening p q next c (walk.turn (null sha1.width) b e n (editor.tree_at p c)))) (nil_length n y.bytes)
      ∙ ap₂ (λ (w : ℕ) (o : Option Held). turned sha1 T e opening p q next c (walk.turn (null w) b e n (editor.tree_of o))) wide found
      ∙ ap (turned sha1 T e opening p q next c) (y.turn.walks n t y.sees)

  turned_fits : (next : Cache → Walked) (r : Turn) (b : Bool) → (made T e opening p q n c t next r b).kept ≡ true → PutFits r s k n
  unfolding turned
  turned_fits next (Stop answer) b h = tt
  turned_fits next Cut b h = tt
  turned_fits next (Put kind i) true h = stepped_fits (put at (p ↝ changed (Put kind i) n t) c) _ h
  turned_fits next (Put kind i) false h = stepped_fits (put at (p ↝ changed (Put kind i) n t) c) _ h
  turned_fits next (Down i) b h = tt

  pub turn_fits : Fitting (step_as T e opening b p q n c) → PutFits x s k n
  turn_fits f = turned_fits f.rest x b (sym (ap (λ (z : Walked). z.kept) (at_turn f.rest)) ∙ f.kept)

  module _ {s' : Store} (E : EditedIn 20 s k (changed x n t) s') where
    abbrev after' : Cache
    after' = view_in 20 s'

    pub still_laid : LaidIn 20 s'
    still_laid = rw (E.keys.plens, E.keys.paths) E.edit.laid

    pub still_closed : s'.ed.hidden ≡ s'.ed.free
    still_closed = E.edit.kept.hidden ∙ y.closed ∙ sym E.edit.kept.free

    now_view : after' ≡ put at (p ↝ changed x n t) c
    now_view = rw (E.keys.plens, E.keys.paths) E.edit.view

    pub step_stop : goes_on opening (turn_as x b n t) ≡ false → {answer : Answer} → code_number answer ≡ ends_with x → SteppedAs s.ed (step_as T e opening b p q n c) q (Break answer) s'
    step_stop h ea =
        record {
          stand = record { laid = still_laid; closed = still_closed; write = E.edit.kept.write };
          ends = λ next.
              let g = turned_stop T e opening p q n c t next found x b h in
              (ap (λ (z : Walked). z.code) (at_turn next) ∙ g.0 ∙ sym ea, ap (λ (z : Walked). z.now) (at_turn next) ∙ g.1 ∙ sym now_view);
        }

    module _ (h : goes_on opening (turn_as x b n t) ≡ true) where
      onward : (next : Cache → Walked) → step_as T e opening b p q n c next ≡ stepped after' (down_as T e q (wanted_by x) after' next)
      onward next =
          at_turn next ∙ turned_on T e opening p q n c t next x b h ∙ ap (λ (z : Cache). stepped z (down_as T e q (wanted_by x) z next)) (sym now_view)

      pub down_fits : Fitting (step_as T e opening b p q n c) → Fitting (down_as T e q (wanted_by x) after')
      down_fits f = record { rest = f.rest; kept = stepped_kept after' _ (sym (ap (λ (z : Walked). z.kept) (onward f.rest)) ∙ f.kept) }

      pub step_on : {g : ControlFlow Answer ℕ} {s'' : Store} → SteppedAs s'.ed (down_as T e q (wanted_by x) after') q g s'' → SteppedAs s.ed (step_as T e opening b p q n c) q g s''
      step_on {g} {s''} d = record { stand = record { laid = d.stand.laid; closed = d.stand.closed; write = write_twice E.edit.kept.write d.stand.write }; ends = go g d.ends }
        where
          same : (next : Cache → Walked) → ((step_as T e opening b p q n c next).code ≡ (down_as T e q (wanted_by x) after' next).code)
              × ((step_as T e opening b p q n c next).now ≡ (down_as T e q (wanted_by x) after' next).now)
          same next =
              let g = stepped_code after' (down_as T e q (wanted_by x) after' next) in
              (ap (λ (z : Walked). z.code) (onward next) ∙ g.0, ap (λ (z : Walked). z.now) (onward next) ∙ g.1)

          go : (z : ControlFlow Answer ℕ) → StepEnds (down_as T e q (wanted_by x) after') q s'' z → StepEnds (step_as T e opening b p q n c) q s'' z
          go (Break answer) m = λ next. ((same next).0 ∙ (m next).0, (same next).1 ∙ (m next).1)
          go (Continue j) m = (
            m.0,
            λ next.
                let y = m.1 next in
                ((same next).0 ∙ y.0, (same next).1 ∙ y.1, λ l. y.2 (stepped_kept after' _ (sym (ap (λ (z : Walked). z.kept) (onward next)) ∙ l))),
          )
