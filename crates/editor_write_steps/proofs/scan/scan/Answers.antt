-- `editor_write_steps::scan::scan` meets its contract: the path and the tree that are scanned are the slot's. Assumes nothing.
use mathlib.Core.Path.{◌≡◌, sym, ap, ap₂, ◌∙◌, subst}
use native.Mathlib.Omega.{arith}
use lib.ListN.{length}
use mathlib.Core.List.{[], ◌∷◌}
use Rattle.model.specs.Bytes.{Bytes}
use Rattle.model.specs.Tree.{Tree}
use Rattle.names_compact.specs.Compact.{Run, unpack}
use Rattle.store_slots.specs.View.{path_of}
use Rattle.store_taken.specs.Taken.{going_of}
use Rattle.store_runs.proofs.FindLaws.{cut_at}
use Rattle.store_slots.proofs.Changes.{searched_run, tree_run}
use Rattle.editor_write_steps.specs.Writes.{scanned_on}
use Rattle.editor_write_steps.proofs.scan.scan.Goals as goal
use Rattle.editor_write_steps.proofs.scan.scan.Goals.{After-path_in}

pub invariant_of-tree : goal.invariant_of-tree
invariant_of-tree c =
    let v = c.args.v in
    record {
      run = subst (Run c.args.width) (sym c.tree_in.ensures) (searched_run c.args.width v.ed v.plens.now v.paths.now v.tlens.now v.trees.now c.requires.0 c.args.slot c.requires.2.marks.used.0.low);
      narrow = c.requires.1;
    }

-- the path that was read is the slot's
path_read : (c : After-path_in) → c.path_in.result.now ≡ path_of c.args.v.plens.now c.args.v.paths.now c.args.slot
path_read c = c.path_in.ensures ∙ sym (cut_at c.args.v.plens.now c.args.v.paths.now c.args.slot (omega (arith, c.requires.0.plens_64, c.requires.2.marks.used.0.low)))

pub scan_entries-requires : goal.scan_entries-requires
scan_entries-requires c = (
  c.requires.0.paths_sound,
  c.requires.0.plens_64,
  (c.args.slot ∷ [], c.requires.2),
  omega (arith, ap length (path_read (goal.at.scan_entries-requires c).After-path_in), c.requires.3),
)

pub returns-clause-going : goal.returns-clause-going
returns-clause-going c =
    let v = c.args.v in
    c.scan_entries.ensures.going c.args.width v.tlens.now v.trees.now c.requires.0
    ∙ ap₂ (λ (p : Bytes) (t : Tree). scanned_on p t (going_of c.args.width v.ed v.plens.now v.paths.now v.tlens.now v.trees.now c.args.order.now)) (path_read (goal.at.returns-clause-going c).After-path_in)
    (ap (unpack c.args.width) c.tree_in.ensures ∙ tree_run c.args.width v.ed v.plens.now v.paths.now v.tlens.now v.trees.now c.requires.0 c.args.slot c.requires.2.marks.used.0.low)

pub returns-clause-between : goal.returns-clause-between
returns-clause-between c = c.scan_entries.ensures.between (c.args.slot ∷ []) c.requires.2
