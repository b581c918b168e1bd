-- What finishing the tree in hand makes of the write: an empty run is an empty tree, and the other trees are as they were. Assumes nothing.
use mathlib.Core.Path.{◌≡◌, refl, sym, ap, ap₂, ◌∙◌}
use mathlib.Core.Bool.{Bool, true, false, not, ◌&&◌}
use mathlib.Core.List.{List, [], ◌∷◌}
use Prim.Native.Nat.{ℕ, suc, ◌+◌, ◌*◌}
use native.Mathlib.Omega.{arith}
use native.Mathlib.Nat.{suc-mul}
use lib.Dec.{eqb}
use borrow.Author.Tests.{eqb-true}
use lib.ListN.{length, get_or}
use Rattle.model.specs.Bytes.{Bytes, is_nil}
use Rattle.model.specs.Tree.{Tree, name_bytes, without_id, null}
use Rattle.model.specs.Valid.{has_parent}
use Rattle.model.specs.Write.{Going}
use Rattle.model.proofs.Basics.{and_right, not_true}
use Rattle.store_runs.specs.Digits.{digits}
use Rattle.store_slots.specs.View.{Used}
use Rattle.store_slots.specs.Stores.{LaidIn, held_in_slot, path_in_slot, tree_in_slot}
use Rattle.store_slots.specs.declared.Store.{Store}
use Rattle.store_slots.proofs.Changes.{tree_size}
use Rattle.store_entries.specs.Entries.{EditedIn}
use Rattle.store_taken.specs.Taken.{going_in, Between}
use Rattle.store_taken.proofs.Ends.{dropped_going}
use Rattle.editor_write_steps.specs.Writes.{unlinked_on, finished_as, goes, asks, HandIn, ChildIn}
use Rattle.editor_write_steps.proofs.LinkLaws.{between_kept}
use Rattle.editor_write_steps.proofs.TurnLaws.{kept_long}

nil_zero : {A : Type 0} (l : List A) → eqb (length l) 0 ≡ is_nil l
nil_zero [] = refl
nil_zero (x ∷ l) = go (eqb (suc (length l)) 0) refl
  where
    go : (b : Bool) → eqb (suc (length l)) 0 ≡ b → b ≡ false
    go false e = refl
    go true e = absurd (omega (arith, eqb-true (suc (length l)) 0 e))

-- an empty run is an empty tree
size_zero : (w n : ℕ) (t : Tree) → n ≡ length t * (2 + w) + name_bytes t → eqb n 0 ≡ is_nil t
size_zero w n [] e = ap (λ (x : ℕ). eqb x 0) (e ∙ z)
  where
    z : 0 * (2 + w) + 0 ≡ 0
    z = omega arith
size_zero w n (x ∷ t) e = go (eqb n 0) refl
  where
    go : (b : Bool) → eqb n 0 ≡ b → b ≡ false
    go false y = refl
    go true y =
        let q : suc (length t) * (2 + w) ≡ length t * (2 + w) + (2 + w) = suc-mul (length t) (2 + w) in
        absurd (omega (arith, eqb-true n 0 y, e, q))

module _ {w : ℕ} {s q : Store} {slot : ℕ} (L : LaidIn w s) (u : Used s.ed slot) (e : EditedIn w s slot (without_id (null w) (tree_in_slot w s slot)) q) where
  -- the write, and the tree in hand
  null_going : (order : List ℕ) → Between s.ed order (slot ∷ []) → going_in w q order ≡ going_in w s order
  null_going order b =
      let E = e.edit in
      rw (e.keys.plens, e.keys.paths) (dropped_going s.ed order slot b q.ed w s.plens.now s.paths.now s.tlens.now s.trees.now s.plens.now s.paths.now q.tlens.now q.trees.now (record { p = L.plens_64; t = L.tlens_64; p' = L.plens_64; t' = E.laid.tlens_64 })
      (ap (digits 64) E.kept.hidden) E.kept.write (λ j n. record { path = refl; run = E.others.run j n }))

  same_path : path_in_slot q slot ≡ path_in_slot s slot
  same_path = rw (e.keys.plens, e.keys.paths) refl

  null_held : held_in_slot w q slot ≡ record { path = path_in_slot s slot; held = without_id (null w) (tree_in_slot w s slot) }
  null_held = rw (e.keys.plens, e.keys.paths, e.edit.tree) refl

  module _ (order : List ℕ) (h : HandIn w s order slot) where
    abbrev test : Bool
    test = is_nil (without_id (null w) (tree_in_slot w s slot)) && not (is_nil (going_in w s order).kept)

    -- what the test of the two numbers says
    pub dropped_test : {b : Bool} → b ≡ (eqb (get_or q.tlens.now slot 0) 0 && not (eqb q.ed.aside 0)) → b ≡ test
    dropped_test y =
        let E = e.edit in
        y
        ∙ ap₂ (λ (i j : Bool). i && not j) (size_zero w (get_or q.tlens.now slot 0) (tree_in_slot w q slot) (tree_size w q.ed s.plens.now s.paths.now q.tlens.now q.trees.now E.laid slot u.low) ∙ ap is_nil E.tree)
        (ap (λ (n : ℕ). eqb n 0) (E.kept.write.aside ∙ sym (kept_long s.ed order (slot ∷ []) h.between w s.plens.now s.paths.now s.tlens.now s.trees.now)) ∙ nil_zero (going_in w s order).kept)

    pub null_child : test ≡ true → ChildIn w q order slot
    null_child y = record {
      between = between_kept s.ed q.ed order (slot ∷ []) e.edit.kept h.between;
      parent = ap₂ (λ (p : Bytes) (g : Going). has_parent p g.kept) same_path (null_going order h.between) ∙ (h.parent (not_true (is_nil (going_in w s order).kept) (and_right (is_nil (without_id (null w) (tree_in_slot w s slot))) (not (is_nil (going_in w s order).kept)) y)));
    }

    pub null_asked : test ≡ false → asks (held_in_slot w q slot) (going_in w q order) ≡ finished_as (null w) (held_in_slot w s slot) (going_in w s order)
    null_asked y = rw (y) (ap₂ asks null_held (null_going order h.between))

    pub null_goes : {g : Going} → test ≡ true → g ≡ unlinked_on (path_in_slot q slot) (going_in w q order) → goes g ≡ finished_as (null w) (held_in_slot w s slot) (going_in w s order)
    null_goes y f = rw (y) (ap goes (f ∙ ap₂ unlinked_on same_path (null_going order h.between)))
