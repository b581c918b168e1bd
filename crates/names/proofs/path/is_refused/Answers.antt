-- `names::path::is_refused` meets its contract: NULs and long components are looked for first, then the length of the whole. Assumes nothing.
use mathlib.Core.Path.{◌∙◌}
use Rattle.names.proofs.RefusalLaws.{refused_bytes, refused_length}
use Rattle.names.proofs.path.is_refused.Goals as goal

pub returns-then-has_bad_bytes : goal.returns-then-has_bad_bytes
returns-then-has_bad_bytes c = c.if-has_bad_bytes.true ∙ refused_bytes _ _ c.has_bad_bytes.ensures c.if-has_bad_bytes.true

pub returns-else-has_bad_bytes : goal.returns-else-has_bad_bytes
returns-else-has_bad_bytes c = refused_length _ _ c.has_bad_bytes.ensures c.if-has_bad_bytes.false c.too_long.ensures
