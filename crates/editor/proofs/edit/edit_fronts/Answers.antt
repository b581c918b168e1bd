-- `editor::edit::edit_fronts` meets its contract: the fronts hold an editor, and what lies behind them stays. Assumes nothing.
use mathlib.Core.Path.{sym}
use lib.ListN.{take}
use lib.Seq.{length-take-le}
use Rattle.editor_terms.specs.Tables.{table_in}
use Rattle.editor.proofs.LookLaws.{trees_long, front_laid, front_closed}
use Rattle.editor.proofs.EditLaws.{front_valid, done}
use Rattle.editor.proofs.edit.edit_fronts.Goals as goal

pub slice_bounds-edit_exact-end-7 : goal.slice_bounds-edit_exact-end-7
slice_bounds-edit_exact-end-7 c = trees_long _ _ _ _ _ _ c.requires.1

pub slice_bounds-edit_exact-end-8 : goal.slice_bounds-edit_exact-end-8
slice_bounds-edit_exact-end-8 c = sym (length-take-le 38912 c.args.trees.now (trees_long _ _ _ _ _ _ c.requires.1))

pub edit_exact-requires : goal.edit_exact-requires
edit_exact-requires c = let g = c.requires.1 in (front_laid _ _ _ _ _ _ g, front_closed _ _ _ _ _ _ g, front_valid _ _ _ _ _ _ g)

pub returns : goal.returns
returns c order g =
    let a = c.args in
    done (table_in a.table) a.edit a.opening a.prefix.now a.path.now a.ed.now a.plens.now a.paths.now a.tlens.now a.trees.now order g c.edit_exact.result c.edit_exact.new.ed _ _ _ _ c.id_is_whole.ensures (c.edit_exact.ensures (take 64 order))
