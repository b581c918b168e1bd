-- `editor_terms::id::Id::is_empty_tree` meets its contract: the bytes are those of the published id. Assumes nothing.
use mathlib.Core.Path.{◌∙◌}
use Rattle.editor_terms.proofs.IdLaws.{is_empty_lem}
use Rattle.editor_terms.proofs.id.Id.is_empty_tree.Goals as goal

pub returns : goal.returns
returns c = c.eq.ensures ∙ is_empty_lem c.args.self.bytes
