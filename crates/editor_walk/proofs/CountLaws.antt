-- Laws of counts: the record's numbers are the model's, and the limits are tests of single numbers. Assumes nothing.
use Prim.Native.Nat.{ℕ, ◌+◌, ◌-◌, ◌≤◌, ◌<◌}
use mathlib.Core.Path.{◌≡◌, refl, sym, ap, ap₂, ◌∙◌}
use mathlib.Core.List.{List}
use mathlib.Core.Bool.{Bool, true, false}
use native.Mathlib.Omega.{arith}
use lib.Dec.{leb}
use lib.ListN.{length}
use borrow.Author.Tests.{le-leb}
use Rattle.model.specs.Bytes.{Bytes}
use Rattle.model.specs.Tree.{Tree, name_bytes}
use Rattle.model.specs.Editor.{fits}
use Rattle.model.specs.Measure.{Counts, counts_of, within, plus_name, less_name, plus_tree}
use Rattle.model.proofs.MeasureRight.{within_fits}
use Rattle.model.proofs.LimitLaws.{Roomy, roomy}
use Rattle.store_runs.specs.Digits.{digits}
use Rattle.store_runs.specs.Runs.{total}
use Rattle.store_slots.specs.declared.Record.{Record}
use Rattle.store_slots.specs.View.{view_of, Laid}
use Rattle.store_slots.proofs.Counts.{paths_is, slots_is}
use Rattle.editor_walk.specs.Counted.{record_counts}

abbrev pub counts : ℕ → ℕ → ℕ → ℕ → Counts
counts a b c d = record { trees = a; entries = b; names = c; paths = d }

same_counts : {a b c d a' b' c' d' : ℕ} → a ≡ a' → b ≡ b' → c ≡ c' → d ≡ d' → counts a b c d ≡ counts a' b' c' d'
same_counts {a} {b} {c} {d} {a'} {b'} {c'} {d'} p q r s = ap₂ (λ (x y : ℕ). counts x y c d) p q ∙ ap₂ (λ (x y : ℕ). counts a' b' x y) r s

-- the record of a store that is laid out has the model's counts
pub counts_view : (r : Record) (plens paths tlens trees : List ℕ) → Laid 20 r plens paths tlens trees → record_counts r ≡ counts_of (view_of 20 r plens paths tlens trees)
unfolding counts_of
counts_view r plens paths tlens trees L =
    same_counts (let q : 64 - total (digits 64 r.free) ≡ length (view_of 20 r plens paths tlens trees) = omega (arith, slots_is 20 r plens paths tlens trees L) in q) L.entries L.names (sym (paths_is 20 r plens paths tlens trees L))

pub counts_room : (r : Record) (plens paths tlens trees : List ℕ) → Laid 20 r plens paths tlens trees → fits (view_of 20 r plens paths tlens trees) ≡ true → within (record_counts r) ≡ true
counts_room r plens paths tlens trees L f = ap within (counts_view r plens paths tlens trees L) ∙ within_fits (view_of 20 r plens paths tlens trees) ∙ f

-- the limits
pub not_within : (u : Counts) → (Roomy u → ⊥) → within u ≡ false
not_within u n = go (within u) refl
  where
    go : (b : Bool) → within u ≡ b → within u ≡ false
    go true e = absurd (n (roomy u e))
    go false e = e

pub within_paths : (u : Counts) → u.trees ≤ 64 → u.entries ≤ 1024 → u.names ≤ 16384 → leb u.paths 8192 ≡ within u
unfolding within
within_paths u a b c = rw (le-leb u.trees 64 a, le-leb u.entries 1024 b, le-leb u.names 16384 c)

-- the changes, by lengths
pub plus_name_lem : (u : Counts) (n : ℕ) (name : Bytes) → n ≡ length name → counts u.trees (u.entries + 1) (u.names + n) u.paths ≡ plus_name name u
unfolding plus_name
plus_name_lem u n name e = ap (λ (k : ℕ). counts u.trees (u.entries + 1) (u.names + k) u.paths) e

pub less_name_lem : (u : Counts) (n : ℕ) (name : Bytes) → n ≡ length name → {a b : ℕ} → a ≡ u.entries - 1 → b ≡ u.names - n → counts u.trees a b u.paths ≡ less_name name u
unfolding less_name
less_name_lem u n name e {a} {b} ea eb = same_counts refl ea (eb ∙ ap (λ (k : ℕ). u.names - k) e) refl

pub plus_tree_lem : (u : Counts) (n entries names : ℕ) (q : Bytes) (t : Tree) → n ≡ length q → entries ≡ length t → names ≡ name_bytes t →
    counts (u.trees + 1) (u.entries + entries) (u.names + names) (u.paths + n) ≡ plus_tree q t u
unfolding plus_tree
plus_tree_lem u n entries names q t en ee em = same_counts refl (ap (λ (k : ℕ). u.entries + k) ee) (ap (λ (k : ℕ). u.names + k) em) (ap (λ (k : ℕ). u.paths + k) en)

-- a tree that passes a limit by itself passes it with others
pub many_entries : (u : Counts) (q : Bytes) (t : Tree) → 1024 < length t → within (plus_tree q t u) ≡ false
unfolding plus_tree
many_entries u q t h = not_within (plus_tree q t u) (λ r. let z = r.entries in omega (arith, z))

pub many_names : (u : Counts) (q : Bytes) (t : Tree) → 16384 < name_bytes t → within (plus_tree q t u) ≡ false
unfolding plus_tree
many_names u q t h = not_within (plus_tree q t u) (λ r. let z = r.names in omega (arith, z))
