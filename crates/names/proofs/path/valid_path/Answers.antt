-- `names::path::valid_path` meets its contract: a path of at most 1,024 bytes is valid exactly if no byte is NUL and no component empty or too long. Assumes nothing.
use borrow.Author.Tests.{lt-leb}
use mathlib.Core.Path.{◌∙◌}
use Rattle.names.proofs.ValidLaws.{valid_long, valid_short}
use Rattle.names.proofs.path.valid_path.Goals as goal

pub returns-then-path-le1024 : goal.returns-then-path-le1024
returns-then-path-le1024 c = valid_short _ c.if-path-le1024.true c.has_bad_part.ensures

pub returns-else-path-le1024 : goal.returns-else-path-le1024
returns-else-path-le1024 c = lt-leb _ _ c.if-path-le1024.false ∙ valid_long _ c.if-path-le1024.false
