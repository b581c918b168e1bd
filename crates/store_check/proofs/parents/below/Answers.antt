-- `store_check::parents::below` meets its contract: a path that begins with another and a slash is the two joined. Assumes nothing.
use mathlib.Core.Path.{sym, ◌∙◌}
use Rattle.store_check.proofs.ChildLaws.{below_path}
use Rattle.store_check.proofs.parents.below.Goals as goal

pub returns : goal.returns
returns c =
    let a = c.args in
    λ z. below_path a.home.now a.path.now c.if-n-eq0.false c.if-path-n.false c.if-path-n-ne47.false (sym c.same_bytes.ensures ∙ c.if-not-same_bytes.false)
