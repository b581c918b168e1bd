-- `editor_walk::look::look` meets its contract: what is left of the path decides, from the tree in the slot at hand. Assumes nothing.
use mathlib.Core.Path.{refl, sym, ap, ◌∙◌, subst}
use native.Mathlib.Omega.{arith}
use Rattle.model.specs.Bytes.{has}
use Rattle.model.specs.Tree.{well_formed}
use Rattle.names_compact.specs.Compact.{Run, unpack}
use Rattle.store_slots.proofs.Changes.{searched_run, tree_run}
use Rattle.names.proofs.FrontLaws.{front_long}
use Rattle.names.specs.Places.{first_piece}
use lib.ListN.{length}
use Rattle.editor_walk.proofs.ComponentLaws.{piece_plain}
use Rattle.editor_walk.proofs.LookupLaws.{look_begin, look_over, look_next}
use Rattle.editor_walk.proofs.look.look.Goals as goal

pub loop-found-init : goal.loop-found-init
loop-found-init c =
    let a = c.args in
    look_begin a.v.ed a.v.plens.now a.v.paths.now a.v.tlens.now a.v.trees.now a.full.now a.path.now a.slot c.requires.2 c.requires.3 c.if-path-eq0.false

pub first-here-requires : goal.first-here-requires
first-here-requires c = omega (arith, front_long c.loop-found.invariant.front)

pub look_in-requires : goal.look_in-requires
look_in-requires c =
    let a = c.args in
    let run = c.tree_in.ensures in
    let low = c.loop-found.invariant.used.low in (
      c.requires.0.paths_sound,
      c.requires.0.plens_64,
      subst (Run 20) (sym run) (searched_run 20 a.v.ed a.v.plens.now a.v.paths.now a.v.tlens.now a.v.trees.now c.requires.0 c.loop-found.at low),
      ap (λ t. well_formed 20 t) (ap (unpack 20) run ∙ tree_run 20 a.v.ed a.v.plens.now a.v.paths.now a.v.tlens.now a.v.trees.now c.requires.0 c.loop-found.at low) ∙ c.requires.0.well c.loop-found.at low,
      ap (has 47) c.first-here.ensures.name ∙ piece_plain c.loop-found.p.now (length (first_piece c.loop-found.p.now)) refl,
    )

pub returns-in-Break : goal.returns-in-Break
returns-in-Break c = look_over c.loop-found.invariant c.requires.0 c.requires.1 refl c.first-here.ensures.last c.tree_in.ensures refl c.first-here.ensures.below c.first-here.ensures.name c.look_in.ensures c.in-Break.is

pub loop-found-preserved : goal.loop-found-preserved
loop-found-preserved c = look_next c.loop-found.invariant c.requires.0 c.requires.1 refl c.first-here.ensures.last c.tree_in.ensures refl c.first-here.ensures.below c.first-here.ensures.name c.look_in.ensures c.in-Continue.is c.first-here.ensures.rest
