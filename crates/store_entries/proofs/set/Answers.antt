-- `store_entries::set` meets its contract: where an entry of the key is there, the new one stands in its place; else it is put in at the place that the search gave. Assumes nothing.
use native.Mathlib.Omega.{arith}
use mathlib.Core.Path.{refl}
use Rattle.names.specs.Answers.{as_mode}
use Rattle.names_compact.proofs.CompactLaws.{name_short}
use Rattle.store_entries.proofs.EditLaws.{missed, over_fits, rewriting}
use Rattle.store_entries.proofs.StoreLaws.{rewritten}
use Rattle.store_entries.proofs.set.Goals as goal

pub rewrite-requires : goal.rewrite-requires
rewrite-requires c =
    let g = c.args.given in
    (c.requires.0.trees_sound, omega (arith, c.requires.0.tlens_64, c.requires.2.low), over_fits c.requires.0 c.requires.2 (as_mode g.kind) g.name.now g.id.now c.requires.3 c.requires.4 c.in-Ok.ensures, name_short g.name.now c.requires.4)

pub returns-in-Ok : goal.returns-in-Ok
returns-in-Ok c =
    let g = c.args.given in
    let e = c.rewrite.ensures in
    rewritten (rewriting c.requires.0 c.requires.2 (as_mode g.kind) g.name.now g.id.now c.requires.3 c.requires.4 c.in-Ok.ensures c.rewrite.new.s.trees.now (rw e.others.1 at e.view) e.others.3) e.others.0 e.others.1 e.others.2 e.lent

pub add-requires : goal.add-requires
add-requires c = (c.requires.0, c.requires.1, c.requires.2, c.requires.3, c.requires.4, missed c.requires.0 c.requires.2 refl _ c.in-Err.ensures, c.requires.5, c.in-Err.ensures)
