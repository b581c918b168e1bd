-- `names::path::component_len` meets its contract: the first component ends at the first slash, or with the path. Assumes nothing.
use mathlib.Core.Path.{◌∙◌}
use Rattle.names.proofs.PathLaws.{first_len}
use Rattle.names.proofs.path.component_len.Goals as goal

pub returns : goal.returns
returns c = c.unwrap_or.ensures ∙ first_len _ _ c.position.ensures
