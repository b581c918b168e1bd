-- Laws of going down: the measure's landing and the walk's entering go by one plan, and the code's answer is that plan. Assumes nothing.
use Prim.Native.Nat.{ℕ}
use mathlib.Core.Path.{◌≡◌, refl, sym, ap, ◌∙◌, subst}
use mathlib.Core.List.{List, []}
use mathlib.Core.Bool.{Bool, true, false}
use mathlib.Core.Option.{Option, none, some}
use denote.Ref.{Bor}
use Rattle.std.specs.Prelude.{Option as Opt, Some, None, Err}
use native.Mathlib.Omega.{arith}
use lib.ListN.{length, get_or}
use Rattle.model.specs.Bytes.{Bytes, same}
use Rattle.model.specs.Map.{find, is_some}
use Rattle.model.specs.Tree.{Tree, name_bytes}
use Rattle.model.specs.Raw.{read_tree}
use Rattle.model.specs.Table.{Table, looked_up}
use Rattle.model.specs.Editor.{Format, Held, at, Cache}
use Rattle.model.specs.Formats.{sha1}
use Rattle.model.specs.Walk.{Edit, is_leaf_removal, load, enter, pick_entered, into, halt}
use Rattle.model.specs.Walk as walk
use Rattle.model.specs.Measure.{Counts, plus_tree, landing, land_new, land_raw, land_read, lands, halts, there}
use Rattle.model.specs.Measure as measure
use Rattle.model.proofs.Basics.{none_some}
use Rattle.names_compact.proofs.PackLaws.{size_inv}
use Rattle.names.specs.Answers.{checked_as}
use Rattle.names.specs.Check.{size_of}
use Rattle.names.specs.declared.tree.Size.{Size}
use Rattle.store_runs.specs.Digits.{digits}
use Rattle.store_runs.specs.Runs.{cut}
use Rattle.store_runs.proofs.RunLaws.{length_cut}
use Rattle.store_runs.proofs.DigitLaws.{length_digits}
use Rattle.store_slots.specs.declared.Record.{Record}
use Rattle.store_slots.specs.View.{view_of, cached_of, held_in, Laid, Used, path_of}
use Rattle.store_slots.proofs.Cached.{cached_view}
use Rattle.editor_terms.specs.Answers.{Answer, code_number}
use Rattle.editor_terms.specs.Objects.{raw_as}
use Rattle.editor_terms.specs.declared.refusal.Refusal.TheVariants.{TreeNotFound, TreeDamaged}
use Rattle.editor_walk.specs.Landings.{Plan, caches, stops, pick_plan, tree_plan, read_plan, planned, landed_by, entered_by, RawIs, PlanIs, SlotFound, LandsAs}
use Rattle.editor_walk.specs.declared.land.Raw.{Raw}
use Rattle.editor_walk.specs.declared.land.Landing.{Landing}
use Rattle.editor_walk.specs.declared.land.Landing.TheVariants.{There, Fresh, Load, Halt}

-- the measure and the walk go by the plan
land_read_lem : (q : Bytes) (u : Counts) (o : Option Tree) → land_read q u o ≡ landed_by q u (tree_plan o)
land_read_lem q u none = refl
land_read_lem q u (some t) = refl

land_raw_lem : (F : Format) (q : Bytes) (u : Counts) (o : Option Bytes) → land_raw F.width q u o ≡ landed_by q u (read_plan F o)
land_raw_lem F q u none = refl
land_raw_lem F q u (some raw) = land_read_lem q u (read_tree F.width raw)

enter_loaded : (q : Bytes) (c : Cache) (o : Option Tree) → walk.loaded q c o ≡ entered_by q c (tree_plan o)
enter_loaded q c none = refl
enter_loaded q c (some t) = refl

enter_read : (F : Format) (q : Bytes) (c : Cache) (o : Option Bytes) → walk.read F.width q c o ≡ entered_by q c (read_plan F o)
enter_read F q c none = refl
enter_read F q c (some raw) = enter_loaded q c (read_tree F.width raw)

module _ (F : Format) (T : Table) (e : Edit) (q : Bytes) where
  pub land_planned : (u : Counts) (i : Option Bytes) → land_new F T e q u i ≡ landed_by q u (planned F T (is_leaf_removal e) i)
  unfolding land_new
  land_planned u none = refl
  land_planned u (some i) = go (same i F.empty_id) (is_leaf_removal e)
    where
      go : (a b : Bool) → measure.pick_landing a (measure.pick_landing b (halts 0) (lands [] (plus_tree q [] u))) (land_raw F.width q u (looked_up F.width T i))
          ≡ landed_by q u (pick_plan a (pick_plan b (stops 0) (caches [])) (read_plan F (looked_up F.width T i)))
      go true true = refl
      go true false = refl
      go false b = land_raw_lem F q u (looked_up F.width T i)

  pub load_planned : (c : Cache) (i : Option Bytes) → load F T e q c i ≡ entered_by q c (planned F T (is_leaf_removal e) i)
  unfolding load
  load_planned c none = refl
  load_planned c (some i) = go (same i F.empty_id) (is_leaf_removal e)
    where
      go : (a b : Bool) → pick_entered a (pick_entered b (halt 0) (entered_by q c (caches []))) (walk.read F.width q c (looked_up F.width T i))
          ≡ entered_by q c (pick_plan a (pick_plan b (stops 0) (caches [])) (read_plan F (looked_up F.width T i)))
      go true true = refl
      go true false = refl
      go false b = enter_read F q c (looked_up F.width T i)

  -- what is cached at the path already stays; else the plan
  pub landing_there : (u : Counts) (i : Option Bytes) (o : Option Held) (h : Held) → o ≡ some h → landing F T e q u i o ≡ there h.held
  unfolding landing
  landing_there u i o h z = ap (landing F T e q u i) z

  pub landing_new : (u : Counts) (i : Option Bytes) (o : Option Held) (x : Plan) → o ≡ none → planned F T (is_leaf_removal e) i ≡ x → landing F T e q u i o ≡ landed_by q u x
  unfolding landing
  landing_new u i o x z p = ap (landing F T e q u i) z ∙ land_planned u i ∙ ap (landed_by q u) p

  pub enter_there : (c : Cache) (i : Option Bytes) (h : Held) → find at q c ≡ some h → enter F T e q c i ≡ into c
  unfolding enter
  enter_there c i h z = ap (λ (o : Option Held). pick_entered (is_some o) (into c) (load F T e q c i)) z

  pub enter_new : (c : Cache) (i : Option Bytes) (x : Plan) → find at q c ≡ none → planned F T (is_leaf_removal e) i ≡ x → enter F T e q c i ≡ entered_by q c x
  unfolding enter
  enter_new c i x z p = ap (λ (o : Option Held). pick_entered (is_some o) (into c) (load F T e q c i)) z ∙ load_planned c i ∙ ap (entered_by q c) p

-- a raw tree, by the check of its bytes
pub wide : sha1.width ≡ 20
unfolding sha1
wide = refl

pub size_none : (o : Option Tree) → none ≡ size_of o → o ≡ none
size_none none e = refl
size_none (some t) e = none_some (record { entries = length t; bytes = name_bytes t }) e

module _ (T : Table) (i : Bytes) (x : Opt (Bor Bytes)) (f : looked_up 20 T i ≡ raw_as x) where
  wanted : looked_up sha1.width T i ≡ raw_as x
  wanted = ap (λ (w : ℕ). looked_up w T i) wide ∙ f

  pub plan_lost : x ≡ None → PlanIs (read_plan sha1 (looked_up sha1.width T i)) (Halt (Err TreeNotFound))
  plan_lost e = ap (read_plan sha1) (wanted ∙ ap raw_as e)

  module _ {raw : Bor Bytes} (e : x ≡ Some raw) where
    plan_is : read_plan sha1 (looked_up sha1.width T i) ≡ tree_plan (read_tree 20 raw.now)
    plan_is = ap (read_plan sha1) (wanted ∙ ap raw_as e) ∙ ap (λ (w : ℕ). tree_plan (read_tree w raw.now)) wide

    module _ {c : Opt Size} (s : checked_as c ≡ size_of (read_tree 20 raw.now)) where
      pub plan_broken : c ≡ None → PlanIs (read_plan sha1 (looked_up sha1.width T i)) (Halt (Err TreeDamaged))
      plan_broken b = plan_is ∙ ap tree_plan (size_none (read_tree 20 raw.now) (sym (ap checked_as b) ∙ s))

      pub plan_load : {size : Size} → c ≡ Some size → PlanIs (read_plan sha1 (looked_up sha1.width T i)) (Load (record { bytes = raw; size = size }))
      plan_load {size} b =
          let (t, r, en, nn) = size_inv (read_tree 20 raw.now) (record { entries = size.entries; bytes = size.name_bytes }) (sym (ap checked_as b) ∙ s) in
          (t, record { reads = r; entries = en; names = nn }, plan_is ∙ ap tree_plan r)

-- for a caller: what the answer says, in a store with no write open
module _ (T : Table) (e : Edit) (i : Option Bytes) {r : Record} {plens paths tlens trees : List ℕ} (L : Laid 20 r plens paths tlens trees) (cl : r.hidden ≡ r.free) (q : Bytes) (x : Landing)
    (l : LandsAs (planned sha1 T (is_leaf_removal e) i) (digits 64 r.hidden) (cut plens paths) q x) where
  abbrev view : Cache
  view = view_of 20 r plens paths tlens trees

  abbrev LandsTo : Landing → Type 0
  LandsTo y = LandsAs (planned sha1 T (is_leaf_removal e) i) (digits 64 r.hidden) (cut plens paths) q y

  all_runs : length (cut tlens trees) ≡ 64
  all_runs = length_cut tlens trees ∙ L.tlens_64

  found_in : (o : Option Held) → find at q (cached_of 20 r plens paths tlens trees) ≡ o → find at q view ≡ o
  found_in o h = ap (find at q) (sym (cached_view 20 r plens paths tlens trees cl)) ∙ h

  none_there : SlotFound (digits 64 r.hidden) (cut plens paths) q None → find at q view ≡ none
  none_there f = found_in none (f 20 (cut tlens trees) all_runs).0

  pub there_slot : {s : ℕ} → x ≡ There s → Used r s × (path_of plens paths s ≡ q) × (find at q view ≡ some (held_in 20 q (get_or (cut tlens trees) s [])))
  there_slot {s} h =
      let f : SlotFound (digits 64 r.hidden) (cut plens paths) q (Some s) = subst LandsTo h l in
      let g = f 20 (cut tlens trees) all_runs in (
        record { low = omega (arith, g.0, length_digits 64 r.hidden); used = ap (λ (z : ℕ). get_or (digits 64 z) s 0) (sym cl) ∙ g.1 },
        g.2,
        found_in (some (held_in 20 q (get_or (cut tlens trees) s []))) g.3,
      )

  pub fresh_plan : x ≡ Fresh → (find at q view ≡ none) × (planned sha1 T (is_leaf_removal e) i ≡ caches [])
  fresh_plan h =
      let g : LandsTo Fresh = subst LandsTo h l in
      (none_there g.0, g.1)

  pub load_plan : {y : Raw} → x ≡ Load y → (find at q view ≡ none) × ((t : Tree) × RawIs y t × (planned sha1 T (is_leaf_removal e) i ≡ caches t))
  load_plan {y} h =
      let g : LandsTo (Load y) = subst LandsTo h l in
      (none_there g.0, g.1)

  pub halt_plan : {answer : Answer} → x ≡ Halt answer → (find at q view ≡ none) × (planned sha1 T (is_leaf_removal e) i ≡ stops (code_number answer))
  halt_plan {answer} h =
      let g : LandsTo (Halt answer) = subst LandsTo h l in
      (none_there g.0, g.1)
