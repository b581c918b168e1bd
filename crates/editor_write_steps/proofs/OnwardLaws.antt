-- Turn after turn the model's `onward` is followed: each turn that makes no request uses up a tree that is stacked, cached or set aside. Assumes nothing.
use mathlib.Core.Path.{◌≡◌, refl, sym, ap, ◌∙◌, subst}
use mathlib.Core.Bool.{Bool, true, false, not, ◌&&◌, cond}
use mathlib.Core.List.{List, [], ◌∷◌, reverse}
use Prim.Native.Nat.{ℕ, zero, suc, ◌+◌, ◌-◌, ◌*◌, ◌<◌}
use native.Mathlib.Omega.{arith}
use lib.ListN.{length, length-append, length-reverse}
use Rattle.model.specs.Bytes.{Bytes, is_nil}
use Rattle.model.specs.Tree.{without_id, null}
use Rattle.model.specs.Editor.{Held, Cache}
use Rattle.model.specs.Write.{Going, Asking, pick_asking, scanned, finished, taken, onward, asking}
use Rattle.model.proofs.Basics.{no_way}
use Rattle.model.proofs.WriteLaws.{scan_count, unlinked_length, enough}
use Rattle.store_slots.specs.View.{Laid}
use Rattle.store_slots.specs.declared.Record.{Record}
use Rattle.store_taken.specs.Taken.{going_of, Between}
use Rattle.editor_write_steps.specs.Writes.{unlinked_on, top_turn, Step, goes, asks, finished_as, ended, next_of, Ready, StepHas, Steady, asks_on}

-- what is left of a step
abbrev after : (Going → Asking) → Step → Asking
after next (goes g) = next g
after next (asks h g) = asks_on h g

abbrev on : Bytes → ℕ → Going → Asking
on nil n g = onward nil n g.stack g.kept g.cache

abbrev pub weight : Going → ℕ
weight g = 2 * (length g.stack + length g.cache) + length g.kept

-- ---- a turn is one of the model's steps

finish_step : (nil : Bytes) (next : Going → Asking) (h : Held) (g : Going) → finished nil next h g ≡ after next (finished_as nil h g)
unfolding finished
finish_step nil next h g = go (is_nil (without_id nil h.held) && not (is_nil g.kept))
  where
    go : (b : Bool) → pick_asking b (next (unlinked_on h.path g)) (asks_on (record { path = h.path; held = without_id nil h.held }) g)
        ≡ after next (cond b (goes (unlinked_on h.path g)) (asks (record { path = h.path; held = without_id nil h.held }) g))
    go true = refl
    go false = refl

top_step : (nil : Bytes) (next : Going → Asking) (h : Held) (g : Going) (kids : List Held) (left : Cache) →
    taken nil next h g.stack g.kept g.cache kids left ≡ after next (ended nil (top_turn h g kids left).finish (top_turn h g kids left).hand (top_turn h g kids left).rest)
unfolding taken
top_step nil next h g [] left = finish_step nil next h g
top_step nil next h g (x ∷ xs) left = refl

turn_step : (nil : Bytes) (n : ℕ) (s k : List Held) (c : Cache) → (is_nil s && is_nil k) ≡ false → onward nil (suc n) s k c ≡ after (on nil n) (next_of nil (record { cache = c; stack = s; kept = k }))
turn_step nil n [] [] c e = no_way e
turn_step nil n [] (h ∷ hs) c e = finish_step nil (on nil n) h (record { cache = c; stack = []; kept = hs })
turn_step nil n (h ∷ s) k c e = top_step nil (on nil n) h (record { cache = c; stack = s; kept = k }) (scanned h.path h.held c).kids (scanned h.path h.held c).left

-- ---- it uses up a tree

-- what goes on is lighter
abbrev Lighter : ℕ → Step → Type 0
Lighter n (goes g) = weight g < n
Lighter n (asks h g) = Unit {0}

finish_lighter : (nil : Bytes) (h : Held) (g : Going) (n : ℕ) → weight g < n → Lighter n (finished_as nil h g)
finish_lighter nil h g n l = go (is_nil (without_id nil h.held) && not (is_nil g.kept))
  where
    go : (b : Bool) → Lighter n (cond b (goes (unlinked_on h.path g)) (asks (record { path = h.path; held = without_id nil h.held }) g))
    go true = omega (arith, l, unlinked_length h.path g.kept)
    go false = tt

top_lighter : (nil : Bytes) (h : Held) (g : Going) (kids : List Held) (left : Cache) (n : ℕ) → length left + length kids ≡ length g.cache → suc (weight g) < n → Lighter n (ended nil (top_turn h g kids left).finish (top_turn h g kids left).hand (top_turn h g kids left).rest)
top_lighter nil h g [] left n e l = finish_lighter nil h g n (omega (arith, l))
top_lighter nil h g (x ∷ xs) left n e l = omega (arith, l, e, length-append (reverse (x ∷ xs)) g.stack, length-reverse (x ∷ xs))

turn_lighter : (nil : Bytes) (s k : List Held) (c : Cache) → (is_nil s && is_nil k) ≡ false → Lighter (weight (record { cache = c; stack = s; kept = k })) (next_of nil (record { cache = c; stack = s; kept = k }))
turn_lighter nil [] [] c e = no_way e
turn_lighter nil [] (h ∷ hs) c e = finish_lighter nil h (record { cache = c; stack = []; kept = hs }) (weight (record { cache = c; stack = []; kept = h ∷ hs })) (omega arith)
turn_lighter nil (h ∷ s) k c e =
    top_lighter nil h (record { cache = c; stack = s; kept = k }) (scanned h.path h.held c).kids (scanned h.path h.held c).left (weight (record { cache = c; stack = h ∷ s; kept = k })) (scan_count h.path h.held c) (omega arith)

some_weight : (s k : List Held) (c : Cache) → (is_nil s && is_nil k) ≡ false → 0 < weight (record { cache = c; stack = s; kept = k })
some_weight [] [] c e = no_way e
some_weight [] (h ∷ hs) c e = omega arith
some_weight (h ∷ s) k c e = omega arith

-- with as many steps as the write is heavy
module _ (nil : Bytes) (g : Going) (e : (is_nil g.stack && is_nil g.kept) ≡ false) where
  one_turn : (m : ℕ) → weight g ≡ suc m → on nil (weight g) g ≡ after (on nil m) (next_of nil g)
  one_turn m q = ap (λ (n : ℕ). on nil n g) q ∙ turn_step nil m g.stack g.kept g.cache e

  pred : weight g ≡ suc (weight g - 1)
  pred = omega (arith, some_weight g.stack g.kept g.cache e)

  pub turn_asks : (h : Held) (x : Going) → asks h x ≡ next_of nil g → on nil (weight g) g ≡ asks_on h x
  turn_asks h x q = one_turn (weight g - 1) pred ∙ ap (after (on nil (weight g - 1))) (sym q)

  pub turn_less : (x : Going) → goes x ≡ next_of nil g → weight x < weight g
  turn_less x q = subst (Lighter (weight g)) (sym q) (turn_lighter nil g.stack g.kept g.cache e)

  pub turn_goes : (x : Going) → goes x ≡ next_of nil g → on nil (weight g) g ≡ on nil (weight x) x
  turn_goes x q =
      let l = turn_less x q in
      let d : (weight g - 1 - weight x) + weight x ≡ weight g - 1 = omega (arith, l) in
      one_turn (weight g - 1) pred ∙ ap (after (on nil (weight g - 1))) (sym q) ∙ ap (λ (n : ℕ). on nil n x) (sym d)
      ∙ sym (enough nil (weight g - 1 - weight x) (weight x) x.stack x.kept x.cache (omega arith))

pub asking_on : (nil : Bytes) (g : Going) → on nil (weight g) g ≡ asking nil g.stack g.kept g.cache
unfolding asking
asking_on nil g =
    let d : length g.kept + weight g ≡ 2 * (length g.stack + length g.kept + length g.cache) = omega arith in
    enough nil (length g.kept) (weight g) g.stack g.kept g.cache (omega arith) ∙ ap (λ (n : ℕ). on nil n g) d

-- ---- the loop

-- the write comes to a from here
pub record Onward (w : ℕ) (a : Asking) (o : ℕ) (r : Record) (plens paths tlens trees order : List ℕ) : Type 0 where
  pub laid : Laid w r plens paths tlens trees
  pub between : Between r order []
  pub steady : (n : ℕ) × Steady (null w) n (going_of w r plens paths tlens trees order)
  pub answer : on (null w) (weight (going_of w r plens paths tlens trees order)) (going_of w r plens paths tlens trees order) ≡ a
  pub «open» : r.«open» ≡ o

steady_ready : (nil : Bytes) (n : ℕ) (g : Going) → Steady nil n g → Ready g
steady_ready nil zero g s = absurd s
steady_ready nil (suc n) g s = s.0

steady_more : (nil : Bytes) (n : ℕ) (g x : Going) → Steady nil n g → goes x ≡ next_of nil g → (m : ℕ) × Steady nil m x
steady_more nil zero g x s q = absurd s
steady_more nil (suc n) g x s q = (n, subst (StepHas (λ y. Steady nil n y)) (sym q) s.1)

pub onward_begin : (w : ℕ) (r : Record) (plens paths tlens trees order : List ℕ) → Laid w r plens paths tlens trees → Between r order [] → (n : ℕ) × Steady (null w) n (going_of w r plens paths tlens trees order) →
    Onward w (asking (null w) (going_of w r plens paths tlens trees order).stack (going_of w r plens paths tlens trees order).kept (going_of w r plens paths tlens trees order).cache) r.«open» r plens paths tlens trees order
onward_begin w r plens paths tlens trees order L b s = record { laid = L; between = b; steady = s; answer = asking_on (null w) (going_of w r plens paths tlens trees order); «open» = refl }

module _ {w : ℕ} {a : Asking} {o : ℕ} {r : Record} {plens paths tlens trees order : List ℕ} (s : Onward w a o r plens paths tlens trees order) where
  abbrev g : Going
  g = going_of w r plens paths tlens trees order

  pub onward_ready : Ready g
  onward_ready = steady_ready (null w) s.steady.0 g s.steady.1

  -- a turn that makes a request makes the one that the write comes to
  pub onward_asks : (h : Held) (x : Going) → asks h x ≡ next_of (null w) g → asks_on h x ≡ a
  onward_asks h x e = sym (turn_asks (null w) g onward_ready.taken h x e) ∙ s.answer

  module _ (q : Record) (plens' paths' tlens' trees' order' : List ℕ) (e : goes (going_of w q plens' paths' tlens' trees' order') ≡ next_of (null w) g) where
    pub onward_more : Laid w q plens' paths' tlens' trees' → Between q order' [] → q.«open» ≡ r.«open» → Onward w a o q plens' paths' tlens' trees' order'
    onward_more L b eo =
        let x = going_of w q plens' paths' tlens' trees' order' in
        record {
          laid = L;
          between = b;
          steady = steady_more (null w) s.steady.0 g x s.steady.1 e;
          answer = sym (turn_goes (null w) g onward_ready.taken x e) ∙ s.answer;
          «open» = eo ∙ s.«open»;
        }

    pub onward_less : weight (going_of w q plens' paths' tlens' trees' order') < weight g
    onward_less = turn_less (null w) g onward_ready.taken (going_of w q plens' paths' tlens' trees' order') e

-- ---- what each turn asks, from what turns keep

-- a fact that gives what a turn asks, and that a turn keeps, gives it up to the next request
pub steady_by : (nil : Bytes) (P : Going → Type 0) → ((g : Going) → P g → Ready g) → ((g x : Going) → P g → goes x ≡ next_of nil g → P x) → (n : ℕ) (g : Going) → weight g < n → P g → Steady nil n g
steady_by nil P ready keeps zero g l p = absurd (omega (arith, l))
steady_by nil P ready keeps (suc n) g l p =
    (ready g p, go (next_of nil g) refl (λ x q. steady_by nil P ready keeps n x (omega (arith, l, turn_less nil g (ready g p).taken x q)) (keeps g x p q)))
  where
    go : (s : Step) → next_of nil g ≡ s → ((x : Going) → goes x ≡ next_of nil g → Steady nil n x) → StepHas (λ y. Steady nil n y) s
    go (goes x) e f = f x (sym e)
    go (asks h x) e f = tt
