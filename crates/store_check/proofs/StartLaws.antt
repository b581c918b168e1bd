-- Laws of the tree that a write started at, and of the root. Assumes nothing.
use mathlib.Core.Path.{◌≡◌, refl, sym, ap, ◌∙◌}
use mathlib.Core.Bool.{Bool, true, false, ◌&&◌, ◌||◌}
use mathlib.Core.List.{List, [], ◌∷◌}
use Prim.Native.Nat.{ℕ, zero, suc, ◌≤◌, ◌<◌}
use native.Mathlib.Omega.{arith}
use lib.ListN.{length, get_or}
use Rattle.std.specs.Prelude.{Option, Some, None, is_some as is_found}
use Rattle.model.specs.Bytes.{Bytes, same, is_nil}
use Rattle.model.specs.Map.{find, is_some}
use Rattle.model.specs.Editor.{at, Cache, start_path}
use Rattle.model.proofs.Basics.{or_true}
use Rattle.model.proofs.ByteLaws.{same_refl}
use Rattle.store_runs.specs.Runs.{Sound}
use Rattle.store_slots.specs.View.{gather, slots_of, SlotIs, path_of}
use Rattle.store_slots.proofs.Changes.{run_length}
use Rattle.store_check.specs.Written.{start_fine}

-- ---- a search says whether something is there

pub any_found : (w : ℕ) (ds : List ℕ) (ps bs : List Bytes) (p : Bytes) (f : Option ℕ) → SlotIs w ds ps bs p f → is_found f ≡ is_some (find at p (gather (slots_of w ds ps bs)))
any_found w ds ps bs p (Some k) s = sym (ap is_some s.3)
any_found w ds ps bs p None s = sym (ap is_some s.0)

-- ---- the start

-- a path of no byte
pub path_nil : (plens paths : List ℕ) (used k : ℕ) → Sound plens paths used → k < length plens → get_or plens k 0 ≡ 0 → path_of plens paths k ≡ []
path_nil plens paths used k s h e = go (path_of plens paths k) (run_length plens paths used k s h ∙ e)
  where
    go : (p : Bytes) → length p ≡ 0 → p ≡ []
    go [] z = refl
    go (x ∷ p) z = absurd (omega arith)

pub path_some : (plens paths : List ℕ) (used k : ℕ) → Sound plens paths used → k < length plens → (get_or plens k 0 ≡ 0 → ⊥) → is_nil (path_of plens paths k) ≡ false
path_some plens paths used k s h n = go (path_of plens paths k) (run_length plens paths used k s h)
  where
    go : (p : Bytes) → length p ≡ get_or plens k 0 → is_nil p ≡ false
    go [] z = absurd (n (sym z))
    go (x ∷ p) z = refl

pass : (x : Bool) → ((x || false) && true) ≡ x
pass true = refl
pass false = refl

-- a write at the root's path may be open
pub fine_nil : (n : ℕ) (p : Bytes) (c : Cache) → 1 ≤ n → p ≡ [] → true ≡ start_fine n p c
unfolding start_path
fine_nil zero p c h e = absurd (omega arith)
fine_nil (suc zero) p c h e = sym (ap (λ (x : Bytes). (is_some (find at [] c) || true) && same x []) e ∙ ap (λ (x : Bool). x && true) (or_true (is_some (find at [] c))))
fine_nil (suc (suc n)) p c h e = sym (ap (λ (x : Bytes). (is_some (find at [] c) || is_nil x) && same x x) e ∙ ap (λ (x : Bool). x && true) (or_true (is_some (find at [] c))))

-- one from the root starts there
pub fine_root : (n : ℕ) (p : Bytes) (c : Cache) → n ≡ 1 → is_nil p ≡ false → false ≡ start_fine n p c
unfolding start_path
fine_root n p c e h = sym (ap (λ (x : ℕ). start_fine x p c) e ∙ ap (λ (x : Bool). x && same p []) (or_true (is_some (find at [] c))) ∙ go p h)
  where
    go : (p : Bytes) → is_nil p ≡ false → same p [] ≡ false
    go [] z = z
    go (x ∷ p) z = refl

-- one from another path leaves a root
pub fine_cursor : (n : ℕ) (p : Bytes) (c : Cache) (b : Bool) → 1 ≤ n → (n ≡ 1 → ⊥) → is_nil p ≡ false → b ≡ is_some (find at [] c) → b ≡ start_fine n p c
unfolding start_path
fine_cursor zero p c b h k i e = absurd (omega arith)
fine_cursor (suc zero) p c b h k i e = absurd (k refl)
fine_cursor (suc (suc n)) p c b h k i e =
    e ∙ sym (ap (λ (x : Bool). (is_some (find at [] c) || x) && same p p) i ∙ ap (λ (x : Bool). (is_some (find at [] c) || false) && x) (same_refl p) ∙ pass (is_some (find at [] c)))
