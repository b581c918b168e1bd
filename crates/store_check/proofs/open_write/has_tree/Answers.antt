-- `store_check::open_write::has_tree` meets its contract: in a well-formed tree a tree entry is found in tree order. Assumes nothing.
use mathlib.Core.Path.{◌≡◌, refl, ◌∙◌}
use Rattle.std.specs.Prelude.{Result, Ok, Err, is_ok}
use Rattle.names_compact.specs.Compact.{found_of}
use Rattle.names_compact.specs.declared.compact.Place.{Place}
use Rattle.store_check.proofs.ParentLaws.{tree_found}
use Rattle.store_check.proofs.open_write.has_tree.Goals as goal

found : (r : Result Place Place) → is_ok r ≡ found_of r
found (Ok place) = refl
found (Err place) = refl

pub returns : goal.returns
returns c =
    let t = c.args.tree in
    c.is_ok.ensures.value ∙ found c.search.result ∙ tree_found t.width c.args.name.now t.bytes.now c.search.result c.requires.0 c.requires.1 c.search.ensures
