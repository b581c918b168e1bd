-- Laws of the second pass: what is left of the path decides the walk, from the store as it is now. Assumes nothing.
use Prim.Native.Nat.{ℕ, zero, suc, ◌+◌, ◌-◌, ◌<◌, compare, Ordering}
use mathlib.Core.Path.{◌≡◌, refl, sym, ap, ap₂, ◌∙◌, subst}
use mathlib.Core.List.{List, [], ◌∷◌}
use mathlib.Core.Bool.{Bool, true, false, not, ◌||◌}
use native.Mathlib.Omega.{arith}
use lib.Dec.{eqb, leb}
use lib.ListN.{length, take, drop}
use Rattle.model.specs.Bytes.{Bytes, is_nil, has, by}
use Rattle.model.specs.Tree.{good_name}
use Rattle.model.specs.Paths.{pieces, components, join, full, some_long, refused}
use Rattle.model.specs.Editor.{Cache, tree_at}
use Rattle.model.specs.Formats.{sha1}
use Rattle.model.specs.Tree.{null}
use Rattle.model.specs.Walk.{Walked, ended, turned, turn, pick_walked}
use Rattle.model.proofs.Basics.{or_left, or_right, not_false, no_way}
use Rattle.names.specs.Places.{first_piece}
use Rattle.store_slots.specs.declared.Store.{Store}
use Rattle.store_slots.specs.View.{Used}
use Rattle.store_slots.specs.Stores.{LaidIn, SameLent, path_in_slot, view_in}
use Rattle.std.specs.declared.ops.ControlFlow.{ControlFlow}
use Rattle.std.specs.declared.ops.ControlFlow.TheVariants.{Continue, Break}
use Rattle.editor_terms.specs.Answers.{Answer, code_number}
use Rattle.names.proofs.FrontLaws.{Front, front_begin, front_here, front_next, piece_short, piece_slash}
use Rattle.editor_walk.proofs.ComponentLaws.{components_some, rest_of, rest_nil, not_last, pieces_are, piece_plain}
use Rattle.editor_walk.proofs.MeasureLaws.{nil_length}
use Rattle.editor_walk.specs.Tasks.{edit_for, table_for, walk_for}
use Rattle.editor_walk.specs.declared.task.Task.{Task}
use Rattle.editor_walk.specs.Steps.{StandingIn, step_for, Fitting, StepEnds, SteppedAs, WalkedAs}
use Rattle.editor_walk.proofs.DownLaws.{same_write, write_twice, lent_twice, ended_kept, ended_code}

-- bytes without b, and their parts
has_front : (b k : ℕ) (p : Bytes) → has b p ≡ false → has b (take k p) ≡ false
has_front b zero p h = refl
has_front b (suc k) [] h = refl
has_front b (suc k) (x ∷ p) h = go (compare b x) h (has_front b k p)
  where
    go : (o : Ordering) → by o (has b p) true (has b p) ≡ false → (has b p ≡ false → has b (take k p) ≡ false) → by o (has b (take k p)) true (has b (take k p)) ≡ false
    go Ordering.lt h f = f h
    go Ordering.eq h f = no_way h
    go Ordering.gt h f = f h

has_after : (b k : ℕ) (p : Bytes) → has b p ≡ false → has b (drop k p) ≡ false
has_after b zero p h = h
has_after b (suc k) [] h = refl
has_after b (suc k) (x ∷ p) h = go (compare b x) h (has_after b k p)
  where
    go : (o : Ordering) → by o (has b p) true (has b p) ≡ false → (has b p ≡ false → has b (drop k p) ≡ false) → has b (drop k p) ≡ false
    go Ordering.lt h f = f h
    go Ordering.eq h f = no_way h
    go Ordering.gt h f = f h

good : (n : Bytes) → is_nil n ≡ false → leb (length n) 255 ≡ true → has 47 n ≡ false → has 0 n ≡ false → good_name n ≡ true
unfolding good_name
good n a b c d = rw (a, b, c, d)

-- from the store s₀: what is left of the path decides the walk w, and the slices are the same ones
pub record Walking (task : Task) (w : Walked) (s₀ : Store) (whole : Bytes) (s : Store) (p : Bytes) (slot : ℕ) : Type 0 where
  pub lent : SameLent s₀ s
  pub stand : StandingIn s₀.ed s
  pub used : Used s.ed slot
  pub front : Front whole (path_in_slot s slot) p
  pub code : w.code ≡ (walk_for task (pieces p) (path_in_slot s slot) (view_in 20 s)).code
  pub now : w.now ≡ (walk_for task (pieces p) (path_in_slot s slot) (view_in 20 s)).now
  pub kept : (walk_for task (pieces p) (path_in_slot s slot) (view_in 20 s)).kept ≡ true
  pub nul : has 0 p ≡ false
  pub short : some_long (pieces p) ≡ false

module _ (task : Task) (s : Store) (L : LaidIn 20 s) (cl : s.ed.hidden ≡ s.ed.free) (slot : ℕ) (path : Bytes) where
  abbrev q : Bytes
  q = path_in_slot s slot

  abbrev view : Cache
  view = view_in 20 s

  stays : StandingIn s.ed s
  stays = record { laid = L; closed = cl; write = same_write s.ed }

  pub walk_empty : length path ≡ 0 → {a : Answer} → code_number a ≡ 0 → WalkedAs s.ed (walk_for task (components path) q view) a s
  walk_empty z i =
      let g : walk_for task (components path) q view ≡ ended 0 view = none path z in
      let d = ended_code 0 view in
      record { code = i ∙ sym (ap (λ (w : Walked). w.code) g ∙ d.0); now = sym (ap (λ (w : Walked). w.now) g ∙ d.1); stand = stays }
    where
      none : (l : Bytes) → length l ≡ 0 → walk_for task (components l) q view ≡ ended 0 view
      none [] z = refl
      none (b ∷ bs) z = absurd (omega (arith, z))

  pub walk_begin : (whole : Bytes) → Used s.ed slot → whole ≡ full q path → refused q path ≡ false → (walk_for task (components path) q view).kept ≡ true → (length path ≡ 0 → ⊥) →
      Walking task (walk_for task (components path) q view) s whole s path slot
  unfolding refused
  walk_begin whole U ew rf k n =
      let c = components_some path n in
      let l = or_left (has 0 path || some_long (components path)) _ rf in
      record {
        lent = record { plens = refl; paths = refl; tlens = refl; trees = refl };
        stand = stays;
        used = U;
        front = subst (λ (z : Bytes). Front z q path) (sym ew) (front_begin q path n);
        code = ap (λ (ns : List Bytes). (walk_for task ns q view).code) c;
        now = ap (λ (ns : List Bytes). (walk_for task ns q view).now) c;
        kept = sym (ap (λ (ns : List Bytes). (walk_for task ns q view).kept) c) ∙ k;
        nul = or_left (has 0 path) (some_long (components path)) l;
        short = sym (ap some_long c) ∙ or_right (has 0 path) (some_long (components path)) l;
      }

module _ {task : Task} {w : Walked} {s₀ : Store} {whole : Bytes} {s : Store} {p : Bytes} {slot : ℕ} (i : Walking task w s₀ whole s p slot) {k : ℕ} (ek : k ≡ length (first_piece p)) {b : Bool} (eb : b ≡ eqb k (length p))
    {end : ℕ} (ee : end ≡ length whole - length p + k) {below name : Bytes} (ew : below ≡ take end whole) (en : name ≡ take k p) where
  abbrev here : Bytes
  here = path_in_slot s slot

  abbrev cache : Cache
  cache = view_in 20 s

  abbrev rest_of_lem : Cache → Walked
  rest_of_lem d = walk_for task (rest_of b p k) (join here (take k p)) d

  down : below ≡ join here (take k p)
  down = ew ∙ front_here i.front k end (piece_short p k ek) ee

  step_is : walk_for task (pieces p) here cache ≡ step_for task b here below name cache rest_of_lem
  step_is =
      ap (λ (ns : List Bytes). walk_for task ns here cache) (pieces_are p k ek b eb)
      ∙ ap (λ (z : Bool). pick_walked (is_nil (take k p)) (ended 1 cache) (turned sha1 (table_for task) (edit_for task) task.opening here (join here (take k p)) rest_of_lem cache (turn (null sha1.width) z (edit_for task) (take k p) (tree_at here cache)))) (rest_nil b p k)
      ∙ ap₂ (λ (x y : Bytes). step_for task b here x y cache rest_of_lem) (sym down) (sym en)

  pub walk_fits : Fitting (step_for task b here below name cache)
  walk_fits = record { rest = rest_of_lem; kept = sym (ap (λ (z : Walked). z.kept) step_is) ∙ i.kept }

  shorts : (not (leb (length (take k p)) 255) || some_long (rest_of b p k)) ≡ false
  shorts = sym (ap some_long (pieces_are p k ek b eb)) ∙ i.short

  pub walk_good : (length name ≡ 0 → ⊥) → good_name name ≡ true
  walk_good n =
      ap good_name en
      ∙ good (take k p) (sym (ap is_nil en) ∙ nil_length name n) (not_false (leb (length (take k p)) 255) (or_left (not (leb (length (take k p)) 255)) (some_long (rest_of b p k)) shorts)) (piece_plain p k ek) (has_front 0 k p i.nul)

  module _ {g : ControlFlow Answer ℕ} {s' : Store} (d : SteppedAs s.ed (step_for task b here below name cache) below g s') where
    abbrev after : Cache
    after = view_in 20 s'

    stand' : StandingIn s₀.ed s'
    stand' = record { laid = d.stand.laid; closed = d.stand.closed; write = write_twice i.stand.write d.stand.write }

    pub walk_over : {answer : Answer} → g ≡ Break answer → WalkedAs s₀.ed w answer s'
    walk_over {answer} f =
        let x : StepEnds (step_for task b here below name cache) below s' (Break answer) = subst (StepEnds (step_for task b here below name cache) below s') f d.ends in
        let m = x rest_of_lem in
        record { code = sym (i.code ∙ ap (λ (z : Walked). z.code) step_is ∙ m.0); now = sym (i.now ∙ ap (λ (z : Walked). z.now) step_is ∙ m.1); stand = stand' }

    module _ {j : ℕ} (f : g ≡ Continue j) where
      goes_on : StepEnds (step_for task b here below name cache) below s' (Continue j)
      goes_on = subst (StepEnds (step_for task b here below name cache) below s') f d.ends

      pub walk_last : b ≡ true → {answer : Answer} → code_number answer ≡ 0 → WalkedAs s₀.ed w answer s'
      walk_last h z =
          let m = goes_on.1 rest_of_lem in
          let y : rest_of_lem after ≡ ended 0 after = ap (λ (c : Bool). walk_for task (rest_of c p k) (join here (take k p)) after) h in
          let x = ended_code 0 after in
          record {
            code = z ∙ sym (i.code ∙ ap (λ (c : Walked). c.code) step_is ∙ m.0 ∙ ap (λ (c : Walked). c.code) y ∙ x.0);
            now = sym (i.now ∙ ap (λ (c : Walked). c.now) step_is ∙ m.1 ∙ ap (λ (c : Walked). c.now) y ∙ x.1);
            stand = stand';
          }

      module _ (h : b ≡ false) where
        pub walk_shorter : k < length p
        walk_shorter = not_last p k ek eb h

        some_name : (n : Bytes) → name ≡ n → is_nil n ≡ false
        some_name (x ∷ n) z = refl
        some_name [] z =
            let never : Cache → Walked = λ c. record { code = 0; now = c; kept = false } in
            let m = (goes_on.1 never).2 in
            no_way (sym (m (ap (λ (l : Bytes). (step_for task b here below l cache never).kept) z ∙ ended_kept 1 cache)))

        pub walk_next : SameLent s s' → {p' : Bytes} → p' ≡ drop (k + 1) p → Walking task w s₀ whole s' p' j
        walk_next l' {p'} ep =
            let m = goes_on.1 rest_of_lem in
            let v = goes_on.0 in
            let l = walk_shorter in
            let a : path_in_slot s' j ≡ join here (take k p) = v.1 ∙ down in
            let o : (x : Bytes) → x ≡ join here (take k p) → rest_of_lem after ≡ walk_for task (pieces (drop (k + 1) p)) x after = λ x z. ap₂ (λ (c : Bool) (l : Bytes). walk_for task (rest_of c p k) l after) h (sym z) in
            subst (λ (z : Bytes). Walking task w s₀ whole s' z j) (sym ep) (record {
              lent = lent_twice i.lent l';
              stand = stand';
              used = v.0;
              front = subst (λ (z : Bytes). Front whole z (drop (k + 1) p)) (sym a) (front_next i.front k l (piece_slash p k ek l) (some_name (take k p) en));
              code = i.code ∙ ap (λ (z : Walked). z.code) step_is ∙ m.0 ∙ ap (λ (z : Walked). z.code) (o (path_in_slot s' j) a);
              now = i.now ∙ ap (λ (z : Walked). z.now) step_is ∙ m.1 ∙ ap (λ (z : Walked). z.now) (o (path_in_slot s' j) a);
              kept = sym (ap (λ (z : Walked). z.kept) (o (path_in_slot s' j) a)) ∙ m.2 (sym (ap (λ (z : Walked). z.kept) step_is) ∙ i.kept);
              nul = has_after 0 (k + 1) p i.nul;
              short = sym (ap (λ (c : Bool). some_long (rest_of c p k)) h) ∙ or_right (not (leb (length (take k p)) 255)) (some_long (rest_of b p k)) shorts;
            })
