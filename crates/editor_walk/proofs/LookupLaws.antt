-- Laws of lookups: what is left of the path decides, from the tree in the slot at hand. Assumes nothing.
use Prim.Native.Nat.{ℕ, ◌+◌, ◌-◌, ◌<◌}
use mathlib.Core.Path.{◌≡◌, refl, sym, ap, ap₂, ◌∙◌, subst}
use mathlib.Core.List.{List}
use mathlib.Core.Bool.{Bool, true, false, ◌&&◌}
use mathlib.Core.Option.{Option, none, some}
use native.Mathlib.Omega.{arith}
use lib.Dec.{eqb}
use lib.ListN.{length, get_or, take, drop}
use Rattle.model.specs.Bytes.{Bytes}
use Rattle.model.specs.Map.{find, is_some}
use Rattle.model.specs.Tree.{Mode, is_tree, Entry, Tree, entry_of_lookup, well_formed}
use Rattle.model.specs.Paths.{pieces, components, join, base, full}
use Rattle.model.specs.Editor.{Held, at, Cache}
use Rattle.model.specs.Editor as editor
use Rattle.model.specs.Lookup as model
use Rattle.model.specs.Lookup.{look_on, look}
use Rattle.model.proofs.ChangeLaws.{Plain}
use Rattle.model.proofs.Basics.{and_false}
use Rattle.names.specs.Answers.{as_mode, entry}
use Rattle.names.specs.Places.{first_piece}
use Rattle.names_compact.specs.Compact.{unpack}
use Rattle.names.specs.declared.mode.EntryKind.{EntryKind}
use Rattle.store_runs.specs.Digits.{digits}
use Rattle.store_runs.specs.Runs.{cut, run_of}
use Rattle.store_runs.proofs.RunLaws.{length_cut}
use Rattle.store_slots.specs.declared.Record.{Record}
use Rattle.store_slots.specs.View.{slots_of, gather, view_of, Laid, Used, path_of, tree_of, SlotIs}
use Rattle.store_slots.proofs.Cached.{cached_view}
use Rattle.store_slots.proofs.Relaid.{find_slot}
use Rattle.store_slots.proofs.Changes.{tree_run}
use Rattle.editor_terms.specs.Ids.{id_bytes}
use Rattle.editor_terms.specs.Edits.{parts_of, seen_as}
use Rattle.editor_terms.specs.declared.edit.Seen.{Seen}
use Rattle.editor_terms.specs.declared.id.Id.{Id}
use Rattle.editor_terms.proofs.EditLaws.{seen_none, seen_some}
use Rattle.names.proofs.FrontLaws.{Front, front_begin, front_here, front_next, piece_short, piece_slash}
use Rattle.std.specs.Prelude.{Option as Opt, Some, None, Ok}
use Rattle.std.specs.declared.ops.ControlFlow.{ControlFlow}
use Rattle.std.specs.declared.ops.ControlFlow.TheVariants.{Continue, Break}
use Rattle.editor_walk.specs.Lookups.{looked_as, step_look, LookStepIs}
use Rattle.editor_walk.proofs.ComponentLaws.{components_some, rest_of, rest_nil, last_base, not_last, next_base, pieces_are, either_named}

-- one step, by the entry that was seen
on_none : (b c : Bool) (rest : model.Looked) → look_on b c rest none ≡ model.missing
unfolding look_on
on_none true c rest = refl
on_none false c rest = refl

on_last : (c : Bool) (rest : model.Looked) (x : Entry) → look_on true c rest (some x) ≡ model.found x
unfolding look_on
on_last c rest x = refl

on_earlier : (c : Bool) (rest : model.Looked) (x : Entry) → look_on false c rest (some x) ≡ model.pick_looked (is_tree x.mode && c) rest model.missing
unfolding look_on
on_earlier c rest x = refl

made : Mode → Bytes → Bytes → Entry
made m n i = record { mode = m; name = n; id = i }

entry_is : (kind : EntryKind) (m : Bytes) (id : Id) (x : Entry) → m ≡ x.name → x.mode ≡ as_mode kind → x.id ≡ id_bytes id → entry kind m (id_bytes id) ≡ x
unfolding made
entry_is kind m id x en em ei = ap₂ (λ (a : Mode) (l : Bytes). made a m l) (sym em) (sym ei) ∙ ap (λ (l : Bytes). made x.mode l x.id) en

module _ (ds : List ℕ) (ps : List Bytes) (t : Tree) (q n : Bytes) where
  pub look_none : (b : Bool) → seen_as None ≡ parts_of (entry_of_lookup n t) → LookStepIs ds ps t q n b (Break None)
  look_none b s bs l m f rest =
      sym (ap (look_on b (is_some (find at q (gather (slots_of 20 ds ps bs)))) rest) (seen_none (entry_of_lookup n t) s) ∙ on_none b (is_some (find at q (gather (slots_of 20 ds ps bs)))) rest)

  module _ (w : well_formed 20 t ≡ true) (p : Plain n) (v : Seen) (s : seen_as (Some v) ≡ parts_of (entry_of_lookup n t)) where
    pub look_found : (b : Bool) → b ≡ true → LookStepIs ds ps t q n b (Break (Some v))
    look_found b e bs l m f rest =
        let x = seen_some v (entry_of_lookup n t) s in
        let h = either_named t n x.0 true false w p x.1 in
        ap model.found (entry_is v.kind m v.id x.0 (f e ∙ sym h.0) x.2 x.3)
        ∙ sym (ap₂ (λ (z : Bool) (o : Option Entry). look_on z (is_some (find at q (gather (slots_of 20 ds ps bs)))) rest o) e x.1 ∙ on_last (is_some (find at q (gather (slots_of 20 ds ps bs)))) rest x.0)

    module _ (b : Bool) (e : b ≡ false) where
      earlier : (bs : List Bytes) (rest : model.Looked) → step_look ds ps t q n b bs rest ≡ model.pick_looked (is_tree (as_mode v.kind) && is_some (find at q (gather (slots_of 20 ds ps bs)))) rest model.missing
      earlier bs rest =
          let x = seen_some v (entry_of_lookup n t) s in
          ap₂ (λ (z : Bool) (o : Option Entry). look_on z (is_some (find at q (gather (slots_of 20 ds ps bs)))) rest o) e x.1
          ∙ on_earlier (is_some (find at q (gather (slots_of 20 ds ps bs)))) rest x.0
          ∙ ap (λ (z : Mode). model.pick_looked (is_tree z && is_some (find at q (gather (slots_of 20 ds ps bs)))) rest model.missing) x.2

      pub look_other : is_tree (as_mode v.kind) ≡ false → LookStepIs ds ps t q n b (Break None)
      look_other f bs l m g rest = sym (earlier bs rest ∙ ap (λ (z : Bool). model.pick_looked (z && is_some (find at q (gather (slots_of 20 ds ps bs)))) rest model.missing) f)

      pub look_uncached : ((w : ℕ) (runs : List Bytes) → length runs ≡ 64 → SlotIs w ds ps runs q None) → LookStepIs ds ps t q n b (Break None)
      look_uncached g bs l m f rest =
          sym (earlier bs rest ∙ ap (λ (o : Option Held). model.pick_looked (is_tree (as_mode v.kind) && is_some o) rest model.missing) (g 20 bs l).0 ∙ ap (λ (z : Bool). model.pick_looked z rest model.missing) (and_false (is_tree (as_mode v.kind))))

      pub look_on_lem : is_tree (as_mode v.kind) ≡ true → length ds ≡ 64 → length ps ≡ 64 → (k : ℕ) → ((w : ℕ) (runs : List Bytes) → length runs ≡ 64 → SlotIs w ds ps runs q (Some k)) → LookStepIs ds ps t q n b (Continue k)
      look_on_lem f ld lp k g =
          let x = seen_some v (entry_of_lookup n t) s in
          let h = either_named t n x.0 true false w p x.1 in
          let i = g 20 ps lp in (
            e,
            omega (arith, i.0, ld),
            i.1,
            i.2,
            h.1,
            λ bs l rest.
                sym (earlier bs rest ∙ ap₂ (λ (z : Bool) (o : Option Held). model.pick_looked (z && is_some o) rest model.missing) f (g 20 bs l).3),
          )

-- the loop
pub record Looking (r : Record) (plens paths tlens trees : List ℕ) (whole : Bytes) (goal : model.Looked) (path p : Bytes) (slot : ℕ) : Type 0 where
  pub used : Used r slot
  pub front : Front whole (path_of plens paths slot) p
  pub named : base p ≡ base path
  pub rest : goal ≡ look (pieces p) (path_of plens paths slot) (view_of 20 r plens paths tlens trees)

pub look_begin : (r : Record) (plens paths tlens trees : List ℕ) (whole path : Bytes) (slot : ℕ) → Used r slot → whole ≡ full (path_of plens paths slot) path → (length path ≡ 0 → ⊥) →
    Looking r plens paths tlens trees whole (look (components path) (path_of plens paths slot) (view_of 20 r plens paths tlens trees)) path path slot
look_begin r plens paths tlens trees whole path slot u e n =
    record {
      used = u;
      front = subst (λ (z : Bytes). Front z (path_of plens paths slot) path) (sym e) (front_begin (path_of plens paths slot) path n);
      named = refl;
      rest = ap (λ (ns : List Bytes). look ns (path_of plens paths slot) (view_of 20 r plens paths tlens trees)) (components_some path n);
    }

next_same : (ds : List ℕ) (ps : List Bytes) {t u : Tree} {q q' n n' : Bytes} (b : Bool) (y : ControlFlow (Opt Seen) ℕ) → t ≡ u → q ≡ q' → n ≡ n' → LookStepIs ds ps t q n b y → LookStepIs ds ps u q' n' b y
next_same ds ps {t} {u} {q} {q'} {n} {n'} b y et eq en h =
    subst (λ (z : Tree). LookStepIs ds ps z q' n' b y) et (subst (λ (z : Bytes). LookStepIs ds ps t z n' b y) eq (subst (λ (z : Bytes). LookStepIs ds ps t q z b y) en h))

module _ {r : Record} {plens paths tlens trees : List ℕ} {whole : Bytes} {goal : model.Looked} {path p : Bytes} {slot : ℕ} (s : Looking r plens paths tlens trees whole goal path p slot)
    (L : Laid 20 r plens paths tlens trees) (cl : r.hidden ≡ r.free) {k : ℕ} (e : k ≡ length (first_piece p)) {b : Bool} (eb : b ≡ eqb k (length p)) where
  abbrev q : Bytes
  q = path_of plens paths slot

  abbrev view : Cache
  view = view_of 20 r plens paths tlens trees

  step : goal ≡ step_look (digits 64 r.hidden) (cut plens paths) (tree_of 20 tlens trees slot) (join q (take k p)) (take k p) b (cut tlens trees) (look (rest_of b p k) (join q (take k p)) view)
  step =
      s.rest ∙ ap (λ (ns : List Bytes). look ns q view) (pieces_are p k e b eb)
      ∙ ap₂ (λ (z : Bool) (o : Option Held). look_on z (is_some (find at (join q (take k p)) view)) (look (rest_of b p k) (join q (take k p)) view) (entry_of_lookup (take k p) (editor.tree_of o))) (rest_nil b p k)
      (find_slot 20 r plens paths tlens trees L slot s.used.low s.used.used)
      ∙ ap (λ (c : Cache). look_on b (is_some (find at (join q (take k p)) c)) (look (rest_of b p k) (join q (take k p)) view) (entry_of_lookup (take k p) (tree_of 20 tlens trees slot))) (sym (cached_view 20 r plens paths tlens trees cl))

  module _ {tree below name : Bytes} {end : ℕ} (et : tree ≡ run_of tlens trees slot) (ee : end ≡ length whole - length p + k) (ew : below ≡ take end whole) (en : name ≡ take k p) where
    placed : (y : ControlFlow (Opt Seen) ℕ) → LookStepIs (digits 64 r.hidden) (cut plens paths) (unpack 20 tree) below name b y →
        LookStepIs (digits 64 r.hidden) (cut plens paths) (tree_of 20 tlens trees slot) (join q (take k p)) (take k p) b y
    placed y h =
        next_same (digits 64 r.hidden) (cut plens paths) b y (ap (unpack 20) et ∙ tree_run 20 r plens paths tlens trees L slot s.used.low) (ew ∙ front_here s.front k end (piece_short p k e) ee) en h

    all_runs : length (cut tlens trees) ≡ 64
    all_runs = length_cut tlens trees ∙ L.tlens_64

    pub look_over : {y : ControlFlow (Opt Seen) ℕ} → LookStepIs (digits 64 r.hidden) (cut plens paths) (unpack 20 tree) below name b y → {x : Opt Seen} → y ≡ Break x → looked_as (base path) (Ok x) ≡ goal
    look_over {y} h {x} ey =
        let g = placed (Break x) (subst (LookStepIs (digits 64 r.hidden) (cut plens paths) (unpack 20 tree) below name b) ey h) in
        g (cut tlens trees) all_runs (base path) (λ t. sym s.named ∙ last_base p k e eb t) (look (rest_of b p k) (join q (take k p)) view) ∙ sym step

    module _ {y : ControlFlow (Opt Seen) ℕ} (h : LookStepIs (digits 64 r.hidden) (cut plens paths) (unpack 20 tree) below name b y) {x : ℕ} (ey : y ≡ Continue x) where
      goes_on_lem : LookStepIs (digits 64 r.hidden) (cut plens paths) (tree_of 20 tlens trees slot) (join q (take k p)) (take k p) b (Continue x)
      goes_on_lem = placed (Continue x) (subst (LookStepIs (digits 64 r.hidden) (cut plens paths) (unpack 20 tree) below name b) ey h)

      pub look_shorter : k < length p
      look_shorter = not_last p k e eb goes_on_lem.0

      pub look_next : {p' : Bytes} → p' ≡ drop (k + 1) p → Looking r plens paths tlens trees whole goal path p' x
      look_next {p'} ep =
          let g = goes_on_lem in
          let d = look_shorter in
          let j : path_of plens paths x ≡ join q (take k p) = g.3 in
          let none_left : rest_of b p k ≡ pieces (drop (k + 1) p) = ap (λ (z : Bool). rest_of z p k) g.0 in
          subst (λ (z : Bytes). Looking r plens paths tlens trees whole goal path z x) (sym ep) (record {
            used = record { low = g.1; used = ap (λ (z : ℕ). get_or (digits 64 z) x 0) (sym cl) ∙ g.2 };
            front = subst (λ (z : Bytes). Front whole z (drop (k + 1) p)) (sym j) (front_next s.front k d (piece_slash p k e d) g.4);
            named = next_base p k e d ∙ s.named;
            rest = step ∙ sym (g.5 (cut tlens trees) all_runs (look (rest_of b p k) (join q (take k p)) view)) ∙ ap₂ (λ (ns : List Bytes) (z : Bytes). look ns z view) none_left (sym j);
          })
