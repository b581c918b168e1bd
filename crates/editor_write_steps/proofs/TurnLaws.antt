-- What a turn makes of the write: which tree is taken, and whether any was stacked above it, shows in the number of those stacked. Assumes nothing.
use mathlib.Core.Path.{◌≡◌, refl, ap, ◌∙◌}
use mathlib.Core.Bool.{true, false, cond}
use mathlib.Core.Option.{Option, none, some}
use mathlib.Core.List.{List, [], ◌∷◌, ◌++◌, map, reverse}
use Prim.Native.Nat.{ℕ, ◌+◌, ◌-◌}
use native.Mathlib.Omega.{arith}
use lib.ListN.{length, take, drop, length-append, length-reverse, length-drop, length-map}
use lib.Seq.{length-take-le}
use Rattle.model.specs.Bytes.{Bytes}
use Rattle.model.specs.Map.{find}
use Rattle.model.specs.Tree.{is_tree, Tree}
use Rattle.model.specs.Paths.{join}
use Rattle.model.specs.Editor.{Held, at, Cache}
use Rattle.model.specs.Write.{Going, one_kid, scanned}
use Rattle.store_slots.specs.View.{held_at, aside_of, stacked_of}
use Rattle.store_slots.specs.declared.Record.{Record}
use Rattle.store_taken.specs.Taken.{kept_on, Between}
use Rattle.editor_write_steps.specs.Writes.{scanned_on, top_turn}

-- ---- how many are stacked and set aside

module _ (r : Record) (order hand : List ℕ) (b : Between r order hand) (w : ℕ) (plens paths tlens trees : List ℕ) where
  pub stack_long : length (stacked_of w r plens paths tlens trees order) ≡ r.stacked
  stack_long =
      omega (arith, length-map (drop (64 - r.stacked) order) (held_at w plens paths tlens trees), length-drop (64 - r.stacked) order, b.room, b.order_64)

  pub kept_long : length (aside_of w r plens paths tlens trees order) ≡ r.aside
  kept_long =
      omega (
        arith,
        length-reverse (map (held_at w plens paths tlens trees) (take r.aside order)),
        length-map (take r.aside order) (held_at w plens paths tlens trees),
        length-take-le r.aside order (omega (arith, b.room, b.order_64)),
      )

-- ---- the top of the stack

-- where a scan stacks none, the cache is as it was
scan_none : (p : Bytes) (t : Tree) (c : Cache) → length (scanned p t c).kids ≡ 0 → (scanned p t c).left ≡ c
scan_none p [] c z = refl
scan_none p (e ∷ es) c z = go (cond (is_tree e.mode) (find at (join p e.name) c) none) (scan_none p es c) z
  where
    go : (o : Option Held) → (length (scanned p es c).kids ≡ 0 → (scanned p es c).left ≡ c) → length (one_kid o (λ d. scanned p es d) c).kids ≡ 0 → (one_kid o (λ d. scanned p es d) c).left ≡ c
    go none ih y = ih y
    go (some h) ih y = absurd (omega (arith, y))

module _ (h : Held) (g q : Going) (e : q ≡ scanned_on h.path h.held g) where
  abbrev kids : List Held
  kids = (scanned h.path h.held g.cache).kids

  abbrev left : Cache
  left = (scanned h.path h.held g.cache).left

  more : length q.stack ≡ length kids + length g.stack
  more = ap (λ (x : Going). length x.stack) e ∙ length-append (reverse kids) g.stack ∙ ap (λ (n : ℕ). n + length g.stack) (length-reverse kids)

  pub top_finished : length q.stack ≡ length g.stack → record { finish = true; hand = h; rest = q } ≡ top_turn h g kids left
  top_finished l = ap (λ (x : Going). record { finish = true; hand = h; rest = x }) e ∙ go kids refl
    where
      go : (ks : List Held) → kids ≡ ks → record { finish = true; hand = h; rest = record { cache = left; stack = reverse ks ++ g.stack; kept = g.kept } } ≡ top_turn h g ks left
      go [] y = ap (λ (c : Cache). record { finish = true; hand = h; rest = record { cache = c; stack = g.stack; kept = g.kept } }) (scan_none h.path h.held g.cache (ap length y))
      go (x ∷ xs) y = absurd (omega (arith, more, l, ap length y))

  pub top_aside : (length q.stack ≡ length g.stack → ⊥) → record { finish = false; hand = h; rest = kept_on h q } ≡ top_turn h g kids left
  top_aside n = ap (λ (x : Going). record { finish = false; hand = h; rest = kept_on h x }) e ∙ go kids refl
    where
      go : (ks : List Held) → kids ≡ ks → record { finish = false; hand = h; rest = record { cache = left; stack = reverse ks ++ g.stack; kept = h ∷ g.kept } } ≡ top_turn h g ks left
      go [] y = absurd (n (omega (arith, more, ap length y)))
      go (x ∷ xs) y = refl
