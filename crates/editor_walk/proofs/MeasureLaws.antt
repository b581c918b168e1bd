-- Laws of the first pass: a step decides what the model's measure keeps, or hands it to what is left of the path. Assumes nothing.
use Prim.Native.Nat.{ℕ, ◌+◌, ◌-◌, ◌<◌}
use mathlib.Core.Path.{◌≡◌, refl, sym, ap, ap₂, ◌∙◌, subst}
use mathlib.Core.List.{List, [], ◌∷◌}
use mathlib.Core.Bool.{Bool, true, false, ◌&&◌}
use mathlib.Core.Option.{Option, none}
use Rattle.std.specs.Prelude.{Option as Opt, Result, Ok, Err, IsErrAnd}
use Rattle.std.proofs.lemmas.Result.{err_from_is_err_and}
use native.Mathlib.Omega.{arith}
use lib.Dec.{eqb}
use lib.ListN.{length, take, drop}
use Rattle.model.specs.Bytes.{Bytes, is_nil}
use Rattle.model.specs.Map.{find}
use Rattle.model.specs.Tree.{Tree, entry_of, name_bytes}
use Rattle.model.specs.Paths.{pieces, join, full}
use Rattle.model.specs.Table.{Table}
use Rattle.model.specs.Editor.{Held, at, Cache, tree_at}
use Rattle.model.specs.Editor as editor
use Rattle.model.specs.Formats.{sha1}
use Rattle.model.specs.Walk as walk
use Rattle.model.specs.Walk.{is_leaf_removal}
use Rattle.model.specs.Measure.{Counts, counts_of, within, plus_tree, seen, landing, Measured, over, counted, pick_measured, on_landing, on_sight, measured, measure}
use Rattle.model.specs.Measure as model
use Rattle.model.proofs.Basics.{no_way}
use Rattle.names.specs.Places.{first_piece}
use Rattle.names.specs.declared.tree.Size.{Size}
use Rattle.names_compact.specs.Compact.{unpack}
use Rattle.store_runs.proofs.FindLaws.{cut_at}
use Rattle.store_runs.specs.Runs.{cut, run_of}
use Rattle.store_runs.proofs.RunLaws.{length_cut}
use Rattle.store_slots.specs.declared.Record.{Record}
use Rattle.store_slots.specs.View.{slots_of, gather, Laid, Used, tree_of}
use Rattle.store_slots.specs.declared.View.{View}
use Rattle.store_slots.specs.Stores.{LaidSeen}
use Rattle.store_slots.proofs.Cached.{cached_view}
use Rattle.store_slots.proofs.Relaid.{find_slot}
use Rattle.store_slots.proofs.Changes.{searched_run}
use Rattle.model.proofs.SoundTrees.{sound_well}
use Rattle.std.specs.declared.ops.ControlFlow.{ControlFlow}
use Rattle.std.specs.declared.ops.ControlFlow.TheVariants.{Continue, Break}
use Rattle.editor_terms.specs.Answers.{Answer, code_number}
use Rattle.editor_terms.specs.Edits.{parts_of, seen_as, turn_as, goes_on, wanted_by, ends_with, counts_after, sight_as, TurnIs}
use Rattle.editor_terms.specs.declared.refusal.Refusal.{Refusal}
use Rattle.editor_terms.specs.declared.refusal.Refusal.TheVariants.{NoRoom}
use Rattle.editor_terms.specs.declared.edit.Seen.{Seen}
use Rattle.editor_terms.specs.declared.edit.Turn.{Turn}
use Rattle.editor_terms.specs.declared.edit.Turn.TheVariants.{Stop, Cut, Put, Down}
use Rattle.names.proofs.FrontLaws.{Front, front_begin, front_here, front_next, piece_short, piece_slash}
use Rattle.editor_walk.specs.Counted.{counts_as, record_counts}
use Rattle.editor_walk.specs.Landings.{caches, stops, planned, LandsAs}
use Rattle.editor_walk.specs.Levels.{Stored, Stands, StepSays, StepIs, onward, CachesAs, LandIs, LandedAs, MeasuredAs, down_as, step_as}
use Rattle.editor_walk.specs.declared.counts.Counts.{Counts as CodeCounts}
use Rattle.editor_walk.specs.declared.land.Raw.{Raw as RawTree}
use Rattle.editor_walk.specs.declared.land.Landing.{Landing}
use Rattle.editor_walk.specs.declared.land.Landing.TheVariants.{There, Fresh, Load, Halt}
use Rattle.editor_walk.specs.declared.measure.Level.{Level}
use Rattle.editor_walk.specs.declared.measure.Level.TheVariants.{Slot, Raw, Empty}
use Rattle.editor_walk.specs.declared.measure.Stage.{Stage}
use Rattle.editor_walk.specs.Levels.{step_for}
use Rattle.editor_walk.specs.Tasks.{cached_seen, edit_for, measure_for, path_seen, table_for, view_seen}
use Rattle.editor_walk.specs.declared.task.Task.{Task}
use Rattle.editor_walk.proofs.ComponentLaws.{components_some, rest_of, rest_nil, not_last, pieces_are}
use Rattle.editor_walk.proofs.CountLaws.{counts_view, counts_room, many_entries, many_names}
use Rattle.editor_walk.proofs.LandLaws.{landing_there, landing_new}

abbrev pub Next : Type 0
Next = Tree → Counts → Measured

-- what a step to the counts v keeps
counted_past : (v : Counts) (m : Measured) → within v ≡ false → (counted v m).kept ≡ false
unfolding counted
counted_past v m h = ap (λ (b : Bool). b && m.kept) h

counted_on : (v : Counts) (m : Measured) → within v ≡ true → counted v m ≡ m
unfolding counted
counted_on v m h = ap (λ (b : Bool). record { code = m.code; kept = b && m.kept }) h

over_kept : (k : ℕ) → (over k).kept ≡ true
unfolding over
over_kept k = refl

over_code : (k : ℕ) → (over k).code ≡ k
unfolding over
over_code k = refl

-- a refusal that `?` passes on
pub passed_on : {A : Type 0} {d : Refusal} (r : Result A Refusal) → IsErrAnd r (λ x. x ≡ d) → r ≡ Err d
passed_on r h = let (y, e, z) = err_from_is_err_and r h in e ∙ ap Err z

-- a step in another form
step_same : {tlens trees : List ℕ} {m n : Next → Measured} (g : Result (ControlFlow Answer Stage) Refusal) → ((next : Next) → n next ≡ m next) → StepIs tlens trees m g → StepIs tlens trees n g
step_same (Err refusal) h k = record { says = (k.says.0, λ next. ap (λ (z : Measured). z.kept) (h next) ∙ k.says.1 next) }
step_same (Ok (Break answer)) h k = record { says = λ next. h next ∙ k.says next }
step_same (Ok (Continue stage)) h k = let (t, s, w, r) = k.says in record { says = (t, s, w, λ next. h next ∙ r next) }

-- a tree that is to be cached
module _ {level : Level} {size : Size} {n : ℕ} {u : Counts} where
  pub cached_entries : 1024 < size.entries → CachesAs level size n u (Err NoRoom)
  cached_entries h =
      record { is = λ tlens trees q t en ee em s. record { says = (refl, λ next. counted_past (plus_tree q t u) (next t (plus_tree q t u)) (many_entries u q t (omega (arith, h, ee)))) } }

  pub cached_names : 16384 < size.name_bytes → CachesAs level size n u (Err NoRoom)
  cached_names h =
      record { is = λ tlens trees q t en ee em s. record { says = (refl, λ next. counted_past (plus_tree q t u) (next t (plus_tree q t u)) (many_names u q t (omega (arith, h, em)))) } }

  module _ (v : CodeCounts) (ev : (q : Bytes) (t : Tree) → n ≡ length q → size.entries ≡ length t → size.name_bytes ≡ name_bytes t → counts_as v ≡ plus_tree q t u) where
    pub cached_past : within (counts_as v) ≡ false → CachesAs level size n u (Err NoRoom)
    cached_past h =
        record { is = λ tlens trees q t en ee em s. record { says = (refl, λ next. counted_past (plus_tree q t u) (next t (plus_tree q t u)) (ap within (sym (ev q t en ee em)) ∙ h)) } }

    pub cached_on : within (counts_as v) ≡ true → CachesAs level size n u (Ok (record { level = level; counts = v }))
    cached_on h =
        record {
          is = λ tlens trees q t en ee em s.
              let e = ev q t en ee em in
              record { says = (t, s, h, λ next. counted_on (plus_tree q t u) (next t (plus_tree q t u)) (ap within (sym e) ∙ h) ∙ ap (next t) (sym e)) };
        }

-- the step down, by what is found there
on_there : (next : Next) (u : Counts) (l : model.Landing) (t : Tree) → l ≡ model.there t → on_landing next u l ≡ next t u
unfolding on_landing
on_there next u l t e = ap (on_landing next u) e

on_lands : (next : Next) (u v : Counts) (l : model.Landing) (t : Tree) → l ≡ model.lands t v → on_landing next u l ≡ counted v (next t v)
unfolding on_landing
on_lands next u v l t e = ap (on_landing next u) e

on_halts : (next : Next) (u : Counts) (l : model.Landing) (k : ℕ) → l ≡ model.halts k → on_landing next u l ≡ over k
unfolding on_landing
on_halts next u l k e = ap (on_landing next u) e

module _ {x : Landing} {n : ℕ} where
  pub landed_there : (u : CodeCounts) → within (counts_as u) ≡ true → {s : ℕ} → x ≡ There s → LandedAs x n (counts_as u) (Ok (Continue (record { level = Slot s; counts = u })))
  landed_there u w {s} ex =
      record {
        is = λ tlens trees q l en li.
            let h : LandIs tlens trees q (counts_as u) (There s) l = subst (λ (z : Landing). LandIs tlens trees q (counts_as u) z l) ex li in
            record { says = (tree_of 20 tlens trees s, (h.0, refl), w, λ next. on_there next (counts_as u) l (tree_of 20 tlens trees s) h.1) };
      }

  module _ {u : Counts} where
    pub landed_halt : {answer : Answer} → x ≡ Halt answer → LandedAs x n u (Ok (Break answer))
    landed_halt {answer} ex =
        record {
          is = λ tlens trees q l en li.
              let h : LandIs tlens trees q u (Halt answer) l = subst (λ (z : Landing). LandIs tlens trees q u z l) ex li in
              record { says = λ next. on_halts next u l (code_number answer) h };
        }

    pub landed_fresh : {g : Result Stage Refusal} → CachesAs Empty (record { entries = 0; name_bytes = 0 }) n u g → x ≡ Fresh → LandedAs x n u (onward g)
    landed_fresh {g} k ex =
        record {
          is = λ tlens trees q l en li.
              let h : LandIs tlens trees q u Fresh l = subst (λ (z : Landing). LandIs tlens trees q u z l) ex li in
              step_same (onward g) (λ next. on_lands next u (plus_tree q [] u) l [] h) (k.is tlens trees q [] en refl refl refl);
        }

    pub landed_load : {g : Result Stage Refusal} {r : RawTree} → CachesAs (Raw r.bytes) r.size n u g → x ≡ Load r → LandedAs x n u (onward g)
    landed_load {g} {r} k ex =
        record {
          is = λ tlens trees q l en li.
              let h : LandIs tlens trees q u (Load r) l = subst (λ (z : Landing). LandIs tlens trees q u z l) ex li in
              let t = h.0 in
              let i = h.1 in
              step_same (onward g) (λ next. on_lands next u (plus_tree q t u) l t h.2) (k.is tlens trees q t en i.entries i.names i.reads);
        }

-- what going down finds is the model's landing
pub land_is : (T : Table) (e : walk.Edit) (i : Option Bytes) (ds : List ℕ) (ps : List Bytes) (q : Bytes) (u : Counts) (tlens trees : List ℕ) → length ds ≡ 64 → length tlens ≡ 64 →
    (x : Landing) → LandsAs (planned sha1 T (is_leaf_removal e) i) ds ps q x →
    LandIs tlens trees q u x (landing sha1 T e q u i (find at q (gather (slots_of 20 ds ps (cut tlens trees)))))
land_is T e i ds ps q u tlens trees ld lt (There s) l =
    let f = l 20 (cut tlens trees) (length_cut tlens trees ∙ lt) in
    (omega (arith, f.0, ld), landing_there sha1 T e q u i (find at q (gather (slots_of 20 ds ps (cut tlens trees)))) _ f.3)
land_is T e i ds ps q u tlens trees ld lt Fresh l =
    let f = l.0 20 (cut tlens trees) (length_cut tlens trees ∙ lt) in
    landing_new sha1 T e q u i (find at q (gather (slots_of 20 ds ps (cut tlens trees)))) (caches []) f.0 l.1
land_is T e i ds ps q u tlens trees ld lt (Load r) l =
    let f = l.0 20 (cut tlens trees) (length_cut tlens trees ∙ lt) in
    let (t, k, p) = l.1 in
    (t, k, landing_new sha1 T e q u i (find at q (gather (slots_of 20 ds ps (cut tlens trees)))) (caches t) f.0 p)
land_is T e i ds ps q u tlens trees ld lt (Halt answer) l =
    let f = l.0 20 (cut tlens trees) (length_cut tlens trees ∙ lt) in
    landing_new sha1 T e q u i (find at q (gather (slots_of 20 ds ps (cut tlens trees)))) (stops (code_number answer)) f.0 l.1

-- the turn at a component
module _ (T : Table) (e : walk.Edit) (q : Bytes) (o : Option Held) (n : Bytes) (u : Counts) (s : Opt Seen) (opening : Bool) (next : Next) where
  sight_past : (r : Turn) (b : Bool) → within u ≡ true → within (counts_after r s n u) ≡ false → (on_sight sha1 T e opening q o next (sight_as r b s n u)).kept ≡ false
  unfolding on_sight
  sight_past (Stop answer) b w h = no_way (sym w ∙ h)
  sight_past Cut b w h = counted_past (counts_after Cut s n u) _ h
  sight_past (Put k i) true w h = counted_past (counts_after (Put k i) s n u) _ h
  sight_past (Put k i) false w h = counted_past (counts_after (Put k i) s n u) _ h
  sight_past (Down i) b w h = no_way (sym w ∙ h)

  sight_stop : (r : Turn) (b : Bool) (t : Tree) → within (counts_after r s n u) ≡ true → goes_on opening (turn_as r b n t) ≡ false → on_sight sha1 T e opening q o next (sight_as r b s n u) ≡ over (ends_with r)
  unfolding on_sight
  sight_stop (Stop answer) b t w h = refl
  sight_stop Cut b t w h =
      counted_on (counts_after Cut s n u) _ w ∙ ap (λ (z : Bool). pick_measured z (on_landing next (counts_after Cut s n u) (landing sha1 T e q (counts_after Cut s n u) none o)) (over 0)) h
  sight_stop (Put k i) true t w h =
      counted_on (counts_after (Put k i) s n u) _ w ∙ ap (λ (z : Bool). pick_measured z (on_landing next (counts_after (Put k i) s n u) (landing sha1 T e q (counts_after (Put k i) s n u) none o)) (over 0)) h
  sight_stop (Put k i) false t w h = no_way h
  sight_stop (Down i) b t w h = no_way h

  sight_on : (r : Turn) (b : Bool) (t : Tree) → within (counts_after r s n u) ≡ true → goes_on opening (turn_as r b n t) ≡ true →
      on_sight sha1 T e opening q o next (sight_as r b s n u) ≡ on_landing next (counts_after r s n u) (landing sha1 T e q (counts_after r s n u) (wanted_by r) o)
  unfolding on_sight
  sight_on (Stop answer) b t w h = no_way (sym h)
  sight_on Cut b t w h =
      counted_on (counts_after Cut s n u) _ w ∙ ap (λ (z : Bool). pick_measured z (on_landing next (counts_after Cut s n u) (landing sha1 T e q (counts_after Cut s n u) none o)) (over 0)) h
  sight_on (Put k i) true t w h =
      counted_on (counts_after (Put k i) s n u) _ w ∙ ap (λ (z : Bool). pick_measured z (on_landing next (counts_after (Put k i) s n u) (landing sha1 T e q (counts_after (Put k i) s n u) none o)) (over 0)) h
  sight_on (Put k i) false t w h = counted_on (counts_after (Put k i) s n u) _ w
  sight_on (Down i) b t w h = counted_on (counts_after (Down i) s n u) _ w

-- one step
pub nil_length : (n : Bytes) → (length n ≡ 0 → ⊥) → is_nil n ≡ false
nil_length [] h = absurd (h refl)
nil_length (x ∷ n) h = refl

-- at a component of some bytes of the tree t: what was seen of its entry, the turn, and the counts after it
pub record Sighted (task : Task) (b : Bool) (q n : Bytes) (c : Cache) (u : Counts) (s : Opt Seen) (r : Turn) (t : Tree) (v : Counts) : Type 0 where
  pub turn : TurnIs task.edit b s r
  pub sees : seen_as s ≡ parts_of (entry_of n t)
  pub bytes : length n ≡ 0 → ⊥
  pub counts : v ≡ counts_after r s n u

module _ {task : Task} {b : Bool} {q n : Bytes} {c : Cache} {u : Counts} {s : Opt Seen} {r : Turn} {t : Tree} {v : Counts} (y : Sighted task b q n c u s r t v) where
  abbrev table : Table
  table = table_for task

  abbrev edit : walk.Edit
  edit = edit_for task

  at_sight : (next : Next) → step_for task b q n t c u next ≡ on_sight sha1 table edit task.opening q (find at q c) next (sight_as r b s n u)
  at_sight next =
      ap (λ (z : Bool). pick_measured z (over 1) (on_sight sha1 table edit task.opening q (find at q c) next (seen b edit n u (entry_of n t)))) (nil_length n y.bytes)
      ∙ ap (on_sight sha1 table edit task.opening q (find at q c) next) (y.turn.counts n u (entry_of n t) y.sees)

  module _ {tlens trees : List ℕ} where
    pub step_past : within u ≡ true → within v ≡ false → StepIs tlens trees (step_for task b q n t c u) (Err NoRoom)
    step_past w h = record { says = (refl, λ next. ap (λ (z : Measured). z.kept) (at_sight next) ∙ sight_past table edit q (find at q c) n u s task.opening next r b w (ap within (sym y.counts) ∙ h)) }

    pub step_stop : within v ≡ true → goes_on task.opening (turn_as r b n t) ≡ false → {answer : Answer} → code_number answer ≡ ends_with r → StepIs tlens trees (step_for task b q n t c u) (Ok (Break answer))
    step_stop w h ea = record { says = λ next. at_sight next ∙ sight_stop table edit q (find at q c) n u s task.opening next r b t (ap within (sym y.counts) ∙ w) h ∙ sym (ap over ea) }

    pub step_on : within v ≡ true → goes_on task.opening (turn_as r b n t) ≡ true → {g : Result (ControlFlow Answer Stage) Refusal} → StepIs tlens trees (down_as table edit q (wanted_by r) c v) g → StepIs tlens trees (step_for task b q n t c u) g
    step_on w h {g} k =
        step_same g (λ next.
        at_sight next ∙ sight_on table edit q (find at q c) n u s task.opening next r b t (ap within (sym y.counts) ∙ w) h ∙ ap (λ (z : Counts). down_as table edit q (wanted_by r) c z next) (sym y.counts)) k

-- the trees of a store that is laid out
pub stored : {r : Record} {plens paths tlens trees : List ℕ} → Laid 20 r plens paths tlens trees → Stored r.trees tlens trees
stored {r} {plens} {paths} {tlens} {trees} L =
    record {
      sound = L.trees_sound;
      all = L.tlens_64;
      runs = λ k h. searched_run 20 r plens paths tlens trees L k h;
      order = λ k h. (sound_well 20 (tree_of 20 tlens trees k) (L.well k h)).in_order;
    }

pub stored_tree : {used : ℕ} {tlens trees : List ℕ} → Stored used tlens trees → (k : ℕ) → k < 64 → unpack 20 (run_of tlens trees k) ≡ tree_of 20 tlens trees k
stored_tree {used} {tlens} {trees} S k h = ap (unpack 20) (sym (cut_at tlens trees k (omega (arith, S.all))))

pub stands_as : (tlens trees : List ℕ) (t : Tree) {l m : Level} → l ≡ m → Stands tlens trees l t → Stands tlens trees m t
stands_as tlens trees t e h = subst (λ (z : Level). Stands tlens trees z t) e h

-- the loop
abbrev measured_for : Task → List Bytes → Bytes → Tree → Cache → Counts → Measured
measured_for task = measured sha1 (table_for task) (edit_for task) task.opening

pub record Measuring (task : Task) (v : View) (whole : Bytes) (goal : Measured) (p : Bytes) (stage : Stage) : Type 0 where
  pub tree : Tree
  pub stands : Stands v.tlens.now v.trees.now stage.level tree
  pub room : within (counts_as stage.counts) ≡ true
  pub so_far : Bytes
  pub front : Front whole so_far p
  pub rest : goal ≡ measured_for task (pieces p) so_far tree (view_seen v) (counts_as stage.counts)

pub measure_empty : (task : Task) (q path : Bytes) (c : Cache) → length path ≡ 0 → {a : Answer} → code_number a ≡ 0 → MeasuredAs (measure_for task q path c) (Ok a)
measure_empty task q [] c z i = record { says = (over_kept 0, i ∙ sym (over_code 0)) }
measure_empty task q (b ∷ bs) c z i = absurd (omega (arith, z))

pub measure_begin : (task : Task) (v : View) (whole path : Bytes) (slot : ℕ) → LaidSeen 20 v → editor.fits (view_seen v) ≡ true → Used v.ed slot → whole ≡ full (path_seen v slot) path → (length path ≡ 0 → ⊥) →
    (u : CodeCounts) → counts_as u ≡ record_counts v.ed → Measuring task v whole (measure_for task (path_seen v slot) path (view_seen v)) path (record { level = Slot slot; counts = u })
measure_begin task v whole path slot L f U ew n u eu =
    record {
      tree = tree_of 20 v.tlens.now v.trees.now slot;
      stands = (U.low, refl);
      room = ap within eu ∙ counts_room v.ed v.plens.now v.paths.now v.tlens.now v.trees.now L f;
      so_far = path_seen v slot;
      front = subst (λ (z : Bytes). Front z (path_seen v slot) path) (sym ew) (front_begin (path_seen v slot) path n);
      rest =
          ap (λ (ns : List Bytes). measured_for task ns (path_seen v slot) (tree_at (path_seen v slot) (view_seen v)) (view_seen v) (counts_of (view_seen v))) (components_some path n)
          ∙ ap₂ (λ (o : Option Held) (z : Counts). measured_for task (pieces path) (path_seen v slot) (editor.tree_of o) (view_seen v) z) (find_slot 20 v.ed v.plens.now v.paths.now v.tlens.now v.trees.now L slot U.low U.used)
          (sym (eu ∙ counts_view v.ed v.plens.now v.paths.now v.tlens.now v.trees.now L));
    }

stops_here : (T : Table) (e : walk.Edit) (opening b : Bool) (q n : Bytes) (t : Tree) (c : Cache) (u v : Counts) (s : Tree) → ((next : Next) → step_as T e opening b q n t c u next ≡ next s v) → is_nil n ≡ false
stops_here T e opening b q [] t c u v s h = no_way (sym (over_kept 1) ∙ ap (λ (z : Measured). z.kept) (h (λ (x : Tree) (y : Counts). record { code = 0; kept = false })))
stops_here T e opening b q (x ∷ n) t c u v s h = refl

module _ {task : Task} {v : View} {whole : Bytes} {goal : Measured} {p : Bytes} {at_hand : Stage} (s : Measuring task v whole goal p at_hand) {k : ℕ} (ek : k ≡ length (first_piece p)) {b : Bool} (eb : b ≡ eqb k (length p))
    {end : ℕ} (ee : end ≡ length whole - length p + k) {below name : Bytes} (ew : below ≡ take end whole) (en : name ≡ take k p) (cl : v.ed.hidden ≡ v.ed.free)
    {g : Result (ControlFlow Answer Stage) Refusal} (gi : StepIs v.tlens.now v.trees.now (step_for task b below name s.tree (cached_seen v) (counts_as at_hand.counts)) g) where
  abbrev c : Cache
  c = view_seen v

  abbrev u : Counts
  u = counts_as at_hand.counts

  abbrev q : Bytes
  q = join s.so_far (take k p)

  abbrev rest_of_lem : Next
  rest_of_lem t v = measured_for task (rest_of b p k) q t c v

  step : goal ≡ step_for task b q (take k p) s.tree c u rest_of_lem
  step =
      s.rest ∙ ap (λ (ns : List Bytes). measured_for task ns s.so_far s.tree c u) (pieces_are p k ek b eb)
      ∙ ap (λ (z : Bool). pick_measured (is_nil (take k p)) (over 1) (on_sight sha1 (table_for task) (edit_for task) task.opening q (find at q c) rest_of_lem (seen z (edit_for task) (take k p) u (entry_of (take k p) s.tree)))) (rest_nil b p k)

  stepped : StepIs v.tlens.now v.trees.now (step_for task b q (take k p) s.tree c u) g
  stepped =
      subst (λ (z : Bytes). StepIs v.tlens.now v.trees.now (step_for task b z (take k p) s.tree c u) g) (ew ∙ front_here s.front k end (piece_short p k ek) ee)
      (subst (λ (z : Bytes). StepIs v.tlens.now v.trees.now (step_for task b below z s.tree c u) g) en (subst (λ (z : Cache). StepIs v.tlens.now v.trees.now (step_for task b below name s.tree z u) g) (cached_view 20 v.ed v.plens.now v.paths.now v.tlens.now v.trees.now cl) gi))

  last_over : b ≡ true → (t : Tree) (v : Counts) → rest_of_lem t v ≡ over 0
  last_over h t v = ap (λ (z : Bool). measured_for task (rest_of z p k) q t c v) h

  stopped : {answer : Answer} → goal ≡ over (code_number answer) → MeasuredAs goal (Ok answer)
  stopped {answer} h = record { says = (ap (λ (z : Measured). z.kept) h ∙ over_kept (code_number answer), sym (ap (λ (z : Measured). z.code) h ∙ over_code (code_number answer))) }

  abbrev Says : Result (ControlFlow Answer Stage) Refusal → Type 0
  Says z = StepSays v.tlens.now v.trees.now (step_for task b q (take k p) s.tree c u) z

  pub measure_past : {refusal : Refusal} → g ≡ Err refusal → MeasuredAs goal (Err refusal)
  measure_past {refusal} f =
      let y : Says (Err refusal) = subst Says f stepped.says in
      record { says = (ap (λ (w : Measured). w.kept) step ∙ y.1 rest_of_lem, y.0) }

  pub measure_over : {answer : Answer} → g ≡ Ok (Break answer) → MeasuredAs goal (Ok answer)
  measure_over {answer} f =
      let y : Says (Ok (Break answer)) = subst Says f stepped.says in
      stopped (step ∙ y rest_of_lem)

  module _ {stage : Stage} (f : g ≡ Ok (Continue stage)) where
    goes_on_lem : Says (Ok (Continue stage))
    goes_on_lem = subst Says f stepped.says

    pub measure_last : b ≡ true → {answer : Answer} → code_number answer ≡ 0 → MeasuredAs goal (Ok answer)
    measure_last h z = let y = goes_on_lem in stopped (step ∙ y.3 rest_of_lem ∙ last_over h y.0 (counts_as stage.counts) ∙ sym (ap over z))

    module _ (h : b ≡ false) where
      pub measure_shorter : k < length p
      measure_shorter = not_last p k ek eb h

      pub measure_next : {p' : Bytes} → p' ≡ drop (k + 1) p → Measuring task v whole goal p' stage
      measure_next {p'} ep =
          let y = goes_on_lem in
          let j = measure_shorter in
          let n = stops_here (table_for task) (edit_for task) task.opening b q (take k p) s.tree c u (counts_as stage.counts) y.0 y.3 in
          subst (λ (z : Bytes). Measuring task v whole goal z stage) (sym ep) (record {
            tree = y.0;
            stands = y.1;
            room = y.2;
            so_far = q;
            front = front_next s.front k j (piece_slash p k ek j) n;
            rest = step ∙ y.3 rest_of_lem ∙ ap (λ (z : Bool). measured_for task (rest_of z p k) q y.0 c (counts_as stage.counts)) h;
          })
