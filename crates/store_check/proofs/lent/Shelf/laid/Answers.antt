-- `store_check::lent::Shelf::laid` meets its contract: the parts that it tests are together what it decides. Assumes nothing.
use mathlib.Core.Path.{◌≡◌, sym, ap₂, subst}
use mathlib.Core.Bool.{Bool}
use mathlib.Core.List.{List}
use Prim.Native.Nat.{ℕ}
use native.Mathlib.Omega.{arith}
use Rattle.model.specs.Bytes.{Bytes}
use Rattle.store_runs.specs.Digits.{digits}
use Rattle.store_runs.specs.Runs.{cut, Sound}
use Rattle.store_check.specs.Decides.{Decides}
use Rattle.store_check.specs.Laid.{Paths, Trees}
use Rattle.store_check.specs.declared.runs.Runs.{Runs}
use Rattle.store_check.proofs.Deciding.{refused}
use Rattle.store_check.proofs.LaidLaws.{Lengths, lays, few_entries, few_names, its_lengths, its_trees, its_paths}
use Rattle.store_check.proofs.lent.Shelf.laid.Goals as goal
use Rattle.store_check.proofs.lent.Shelf.laid.Goals.{then-r-gt-ENTRIES-via-then-r-gt-ENTRIES, then-r-gt-ENTRIES-via-else-r-gt-ENTRIES+then-r-gt-NAME_BYTES, then-r-gt-ENTRIES-via-else-r-gt-ENTRIES+else-r-gt-NAME_BYTES+then-not-blanks, then-r-gt-ENTRIES-via-else-r-gt-ENTRIES+else-r-gt-NAME_BYTES+else-not-blanks+then-not-trees_good, then-r-gt-ENTRIES-via-else-r-gt-ENTRIES+else-r-gt-NAME_BYTES+else-not-blanks+else-not-trees_good+then-not-paths_good}

-- the runs are those of the store
module _ (s : Runs) (lens bytes : List ℕ) (used : ℕ) (e : (s.lens.now ≡ lens) × (s.bytes.now ≡ bytes) × (s.used ≡ used)) where
  decides : (P : List Bytes → Type 0) (b : Bool) → Decides (P (cut s.lens.now s.bytes.now)) b → Decides (P (cut lens bytes)) b
  decides P b d = subst (λ (x : List Bytes). Decides (P x) b) (ap₂ cut e.0 e.1) d

  sound : Sound lens bytes used
  sound = let h = s.sound in rw (sym e.0, sym e.1, sym e.2) h

pub returns-then-r-gt-ENTRIES : goal.returns-then-r-gt-ENTRIES
returns-then-r-gt-ENTRIES c =
    let s = c.args.self in
    let p = c.in_ok-paths in
    let t = c.in_ok-trees in
    λ L. elim c.then-r-gt-ENTRIES.branch [
      | then-r-gt-ENTRIES-via-then-r-gt-ENTRIES w ↦ omega (arith, w.if-r-gt-ENTRIES.true, few_entries _ _ _ _ _ _ L)
      | then-r-gt-ENTRIES-via-else-r-gt-ENTRIES+then-r-gt-NAME_BYTES w ↦ omega (arith, w.if-r-gt-NAME_BYTES.true, few_names _ _ _ _ _ _ L)
      | then-r-gt-ENTRIES-via-else-r-gt-ENTRIES+else-r-gt-NAME_BYTES+then-not-blanks w ↦ refused w.blanks.ensures w.if-not-blanks.true (its_lengths _ _ _ _ _ _ L).blank
      | then-r-gt-ENTRIES-via-else-r-gt-ENTRIES+else-r-gt-NAME_BYTES+else-not-blanks+then-not-trees_good w ↦
          refused (decides t.trees s.tlens.now s.trees.now s.record.trees t.ensures (λ x. Trees s.width x s.record.entries s.record.names) _ w.trees_good.ensures) w.if-not-trees_good.true (its_trees _ _ _ _ _ _ L)
      | then-r-gt-ENTRIES-via-else-r-gt-ENTRIES+else-r-gt-NAME_BYTES+else-not-blanks+else-not-trees_good+then-not-paths_good w ↦
          refused (decides p.paths s.plens.now s.paths.now s.record.paths p.ensures (Paths (digits 64 s.record.free)) _ w.paths_good.ensures) w.if-not-paths_good.true (its_paths _ _ _ _ _ _ L)
    ]

pub invariant_of-result : goal.invariant_of-result
invariant_of-result c =
    let s = c.args.self in
    let p = c.in_ok-paths in
    let t = c.in_ok-trees in
    let lengths : Lengths s.record s.plens.now s.paths.now s.tlens.now s.trees.now = record {
      paths_sound = sound p.paths s.plens.now s.paths.now s.record.paths p.ensures;
      trees_sound = sound t.trees s.tlens.now s.trees.now s.record.trees t.ensures;
      blank = c.blanks.ensures.yes c.if-not-blanks.false;
    } in
    record {
      laid =
          lays _ _ _ _ _ _ s.plens_64 s.tlens_64 s.paths_room s.trees_room c.if-r-gt-ENTRIES.false c.if-r-gt-NAME_BYTES.false lengths
          ((decides t.trees s.tlens.now s.trees.now s.record.trees t.ensures (λ x. Trees s.width x s.record.entries s.record.names) _ c.trees_good.ensures).yes c.if-not-trees_good.false)
          ((decides p.paths s.plens.now s.paths.now s.record.paths p.ensures (Paths (digits 64 s.record.free)) _ c.paths_good.ensures).yes c.if-not-paths_good.false);
    }
