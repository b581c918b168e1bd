-- `names_salvage::table::place_in` meets its contract: a name is there as a file or as a tree; where the entry at the file's place does not begin with it the tree is not there, and would stand there too. Assumes nothing.
use mathlib.Core.Path.{sym, ◌∙◌}
use Rattle.names_salvage.proofs.PlaceLaws.{place_found, place_away}
use Rattle.names_salvage.proofs.table.place_in.Goals as goal

pub returns-in_default : goal.returns-in_default
returns-in_default c =
    let a = c.args in
    λ t l up. place_found t a.sought.name.now up (c.search-file.ensures t l up) c.in_default.is a.sought.tree

pub returns-then-not-begins_at : goal.returns-then-not-begins_at
returns-then-not-begins_at c =
    let a = c.args in
    λ t l up. place_away t a.sought.name.now up (c.search-file.ensures t l up) c.in-Err.is (sym (c.begins_at.ensures t l) ∙ c.if-not-begins_at.true) a.sought.tree
