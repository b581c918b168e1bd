-- `names_compact::compact::Tree::search_twin` meets its contract: the place of a file that is not there tells of the tree, if the entry there does not begin with the name; else the search does. Assumes nothing.
use mathlib.Core.Path.{sym, ◌∙◌}
use mathlib.Core.Bool.{not}
use Rattle.model.specs.Tree.{as_kind}
use Rattle.names_compact.proofs.TwinLaws.{twin_away, twin_sought}
use Rattle.names_compact.proofs.compact.Tree.search_twin.Goals as goal

pub returns-then-not-begins_at : goal.returns-then-not-begins_at
returns-then-not-begins_at c =
    let a = c.args in
    twin_away a.self.width a.self.bytes.now a.key.name.now a.place c.requires.0 a.key.tree c.if-not-key.true c.requires.1 (sym c.begins_at.ensures ∙ c.if-not-begins_at.true)

pub returns : goal.returns
returns c =
    let a = c.args in
    twin_sought a.self.width a.self.bytes.now (as_kind (not a.key.tree) a.key.name.now) c.search.result c.requires.0 c.search.ensures
