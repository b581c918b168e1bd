-- Laws of going down: what was found decides what the walk enters, and what is cached is what the model caches. Assumes nothing.
use Prim.Native.Nat.{ℕ}
use mathlib.Core.Path.{◌≡◌, refl, sym, ap, ◌∙◌, subst}
use mathlib.Core.List.{[]}
use mathlib.Core.Bool.{true}
use mathlib.Core.Option.{Option}
use Rattle.model.specs.Bytes.{Bytes}
use Rattle.model.specs.Map.{put}
use Rattle.model.specs.Table.{Table}
use Rattle.model.specs.Editor.{at, Cache, ◌↝◌, fits}
use Rattle.model.specs.Formats.{sha1}
use Rattle.model.specs.Walk.{Edit, is_leaf_removal, Entered, halt, into, enter, Walked, ended, stepped, below}
use Rattle.model.proofs.Basics.{and_left, and_right}
use Rattle.store_runs.specs.Digits.{digits}
use Rattle.store_runs.specs.Runs.{cut}
use Rattle.store_slots.specs.declared.Record.{Record}
use Rattle.store_slots.specs.declared.Store.{Store}
use Rattle.store_slots.specs.View.{SameWrite}
use Rattle.store_slots.specs.Stores.{LaidIn, SameLent, view_in}
use Rattle.editor_terms.specs.Answers.{Answer, code_number}
use Rattle.std.specs.declared.ops.ControlFlow.{ControlFlow}
use Rattle.std.specs.declared.ops.ControlFlow.TheVariants.{Continue, Break}
use Rattle.editor_walk.specs.Landings.{caches, stops, planned, LandsAs}
use Rattle.editor_walk.specs.declared.land.Landing.{Landing}
use Rattle.editor_walk.specs.declared.land.Landing.TheVariants.{There, Fresh, Load, Halt}
use Rattle.editor_walk.proofs.LandLaws.{enter_there, enter_new, there_slot, fresh_plan, load_plan, halt_plan}
use Rattle.editor_walk.specs.Steps.{StandingIn, LandFits, OnAt, Descended, down_as, Fitting, StepEnds, SteppedAs}

pub same_write : (r : Record) → SameWrite r r
same_write r = record { «open» = refl; aside = refl; stacked = refl; asked = refl }

pub write_twice : {r q s : Record} → SameWrite r q → SameWrite q s → SameWrite r s
write_twice a b = record { «open» = b.«open» ∙ a.«open»; aside = b.aside ∙ a.aside; stacked = b.stacked ∙ a.stacked; asked = b.asked ∙ a.asked }

pub lent_twice : {s t u : Store} → SameLent s t → SameLent t u → SameLent s u
lent_twice a b = record { plens = b.plens ∙ a.plens; paths = b.paths ∙ a.paths; tlens = b.tlens ∙ a.tlens; trees = b.trees ∙ a.trees }

-- what the model enters
below_into : (next : Cache → Walked) (c d : Cache) (x : Entered) → x ≡ into d → below next c x ≡ stepped d (next d)
unfolding below
below_into next c d x e = ap (below next c) e

below_halt : (next : Cache → Walked) (c : Cache) (n : ℕ) (x : Entered) → x ≡ halt n → below next c x ≡ ended n c
unfolding below
below_halt next c n x e = ap (below next c) e

pub stepped_fits : (d : Cache) (w : Walked) → (stepped d w).kept ≡ true → fits d ≡ true
unfolding stepped
stepped_fits d w h = and_left (fits d) w.kept h

pub stepped_kept : (d : Cache) (w : Walked) → (stepped d w).kept ≡ true → w.kept ≡ true
unfolding stepped
stepped_kept d w h = and_right (fits d) w.kept h

pub stepped_code : (d : Cache) (w : Walked) → ((stepped d w).code ≡ w.code) × ((stepped d w).now ≡ w.now)
unfolding stepped
stepped_code d w = (refl, refl)

pub ended_kept : (n : ℕ) (c : Cache) → (ended n c).kept ≡ true
unfolding ended
ended_kept n c = refl

pub ended_code : (n : ℕ) (c : Cache) → ((ended n c).code ≡ n) × ((ended n c).now ≡ c)
unfolding ended
ended_code n c = (refl, refl)

module _ (T : Table) (e : Edit) (i : Option Bytes) (s : Store) (L : LaidIn 20 s) (cl : s.ed.hidden ≡ s.ed.free) (q : Bytes) where
  abbrev before : Cache
  before = view_in 20 s

  abbrev Lands : Landing → Type 0
  Lands x = LandsAs (planned sha1 T (is_leaf_removal e) i) (digits 64 s.ed.hidden) (cut s.plens.now s.paths.now) q x

  -- there is room for what the walk enters
  into_fits : (d : Cache) → Fitting (down_as T e q i before) → enter sha1 T e q before i ≡ into d → fits d ≡ true
  into_fits d k h = stepped_fits d (k.rest d) (sym (ap (λ (z : Walked). z.kept) (below_into k.rest before d (enter sha1 T e q before i) h)) ∙ k.kept)

  pub land_fits : (x : Landing) → Lands x → Fitting (down_as T e q i before) → LandFits s q x
  land_fits (There j) l k = let g = there_slot T e i L cl q (There j) l refl in (g.0, g.1)
  land_fits Fresh l k =
      let g = fresh_plan T e i L cl q Fresh l refl in
      (g.0, into_fits (put at (q ↝ []) before) k (enter_new sha1 T e q before i (caches []) g.0 g.1))
  land_fits (Load y) l k =
      let g = load_plan T e i L cl q (Load y) l refl in
      let (t, z, p) = g.1 in
      (g.0, (t, z, into_fits (put at (q ↝ t) before) k (enter_new sha1 T e q before i (caches t) g.0 p)))
  land_fits (Halt answer) l k = tt

  module _ (g : ControlFlow Answer ℕ) (s' : Store) where
    abbrev after : Cache
    after = view_in 20 s'

    goes : (d : Cache) → enter sha1 T e q before i ≡ into d → after ≡ d → (next : Cache → Walked) →
        ((down_as T e q i before next).code ≡ (next after).code) × ((down_as T e q i before next).now ≡ (next after).now) × ((down_as T e q i before next).kept ≡ true → (next after).kept ≡ true)
    goes d h v next =
        let b : down_as T e q i before next ≡ stepped after (next after) = below_into next before d (enter sha1 T e q before i) h ∙ ap (λ (z : Cache). stepped z (next z)) (sym v) in
        let w = stepped_code after (next after) in
        (ap (λ (z : Walked). z.code) b ∙ w.0, ap (λ (z : Walked). z.now) b ∙ w.1, λ k. stepped_kept after (next after) (sym (ap (λ (z : Walked). z.kept) b) ∙ k))

    going_on : StandingIn s.ed s' → OnAt s' q g → (d : Cache) → enter sha1 T e q before i ≡ into d → after ≡ d → SteppedAs s.ed (down_as T e q i before) q g s'
    going_on st o d h v = record { stand = st; ends = go g o }
      where
        go : (x : ControlFlow Answer ℕ) → OnAt s' q x → StepEnds (down_as T e q i before) q s' x
        go (Break answer) o = absurd o
        go (Continue k) o = (o, goes d h v)

    pub stepped_down : (x : Landing) → Lands x → Descended s q x g s' → SteppedAs s.ed (down_as T e q i before) q g s'
    stepped_down (There j) l k =
        let y = there_slot T e i L cl q (There j) l refl in
        going_on k.stand k.leaves.0 before (enter_there sha1 T e q before i _ y.2) k.leaves.1
    stepped_down Fresh l k =
        let y = fresh_plan T e i L cl q Fresh l refl in
        going_on k.stand k.leaves.0 (put at (q ↝ []) before) (enter_new sha1 T e q before i (caches []) y.0 y.1) k.leaves.1
    stepped_down (Load raw) l k =
        let y = load_plan T e i L cl q (Load raw) l refl in
        let (t, z, p) = y.1 in
        going_on k.stand k.leaves.0 (put at (q ↝ t) before) (enter_new sha1 T e q before i (caches t) y.0 p) (k.leaves.1 t z)
    stepped_down (Halt answer) l k =
        let y = halt_plan T e i L cl q (Halt answer) l refl in
        let h : enter sha1 T e q before i ≡ halt (code_number answer) = enter_new sha1 T e q before i (stops (code_number answer)) y.0 y.1 in
        let w = ended_code (code_number answer) before in
        let ends : StepEnds (down_as T e q i before) q s' (Break answer) =
        λ next.
        let b : down_as T e q i before next ≡ ended (code_number answer) before = below_halt next before (code_number answer) (enter sha1 T e q before i) h in
        (ap (λ (z : Walked). z.code) b ∙ w.0, ap (λ (z : Walked). z.now) b ∙ w.1 ∙ sym k.leaves.1) in
        record { stand = k.stand; ends = subst (StepEnds (down_as T e q i before) q s') (sym k.leaves.0) ends }
