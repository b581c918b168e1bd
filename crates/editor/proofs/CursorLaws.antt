-- The prefix of a cursor, by whether its length is within its bytes, and the bytes behind it. Assumes nothing.
use Prim.Native.Nat.{ℕ, zero, suc, ◌+◌, ◌-◌, ◌≤◌, ◌<◌}
use mathlib.Core.Path.{◌≡◌, refl, sym, ap, ap₂, ◌∙◌}
use mathlib.Core.Bool.{Bool, cond}
use mathlib.Core.List.{[], ◌∷◌, ◌++◌}
use native.Mathlib.Omega.{arith}
use lib.ListN.{length, take, drop, replicate}
use borrow.Author.Tests.{le-leb, lt-leb}
use Rattle.model.specs.Bytes.{Bytes}
use Rattle.names.specs.Splice.{splice}
use Rattle.editor.specs.Looks.{standing, prefix_of, cursor_at}
use Rattle.editor.specs.declared.cursor.Cursor.{Cursor}

pub prefix_within : (c : Cursor) → c.len ≤ 1024 → take c.len c.prefix ≡ prefix_of c
prefix_within c h = sym (ap (λ (b : Bool). cond b (take c.len c.prefix) (0 ∷ [])) (le-leb c.len 1024 h))

pub prefix_beyond : (c : Cursor) → 1024 < c.len → ◌≡◌ {A = Bytes} (0 ∷ []) (prefix_of c)
prefix_beyond c h = sym (ap (λ (b : Bool). cond b (take c.len c.prefix) (0 ∷ [])) (lt-leb c.len 1024 h))

pub standing_at : (p : Bytes) → length p ≤ 1024 → p ≡ standing p
standing_at p h = sym (ap (λ (b : Bool). cond b p []) (le-leb (length p) 1024 h))

pub standing_root : (p : Bytes) → 1024 < length p → [] ≡ standing p
standing_root p h = sym (ap (λ (b : Bool). cond b p []) (lt-leb (length p) 1024 h))

-- ---- all bytes of a cursor

zeros_left : (n k : ℕ) → drop k (replicate {A = ℕ} n 0) ≡ replicate (n - k) 0
zeros_left zero zero = refl
zeros_left zero (suc k) = ap (λ (m : ℕ). replicate {A = ℕ} m 0) (let z : 0 ≡ 0 - suc k = omega arith in z)
zeros_left (suc n) zero = ap (λ (m : ℕ). replicate {A = ℕ} m 0) (let z : suc n ≡ suc n - 0 = omega arith in z)
zeros_left (suc n) (suc k) = zeros_left n k ∙ ap (λ (m : ℕ). replicate {A = ℕ} m 0) (let z : n - k ≡ suc n - suc k = omega arith in z)

pub cursor_root : (p : Bytes) → 1024 < length p → record { prefix = replicate 1024 0; len = 0 } ≡ cursor_at (standing p)
unfolding cursor_at
cursor_root p h = ap cursor_at (standing_root p h)

pub cursor_made : (p d : Bytes) (n : ℕ) → length p ≤ 1024 → d ≡ splice (replicate 1024 0) 0 p → n ≡ length p → record { prefix = d; len = n } ≡ cursor_at (standing p)
unfolding cursor_at splice
cursor_made p d n h e l =
    let z : 0 + length p ≡ length p = omega arith in
    let f : d ≡ p ++ replicate (1024 - length p) 0 = e ∙ ap (λ (x : Bytes). p ++ x) (ap (λ (k : ℕ). drop k (replicate {A = ℕ} 1024 0)) z ∙ zeros_left 1024 (length p)) in
    ap₂ (λ (x : Bytes) (k : ℕ). record { prefix = x; len = k }) f l ∙ ap cursor_at (standing_at p h)
