-- `editor::edit::id_is_whole` meets its contract: the array has its length. Assumes nothing.
use mathlib.Core.Path.{◌≡◌, sym, ◌∙◌}
use native.Mathlib.Omega.{arith}
use lib.ListN.{length}
use Rattle.store_check.proofs.StoredLaws.{sha1_width}
use Rattle.editor.proofs.edit.id_is_whole.Goals as goal

pub returns-in-Upsert : goal.returns-in-Upsert
returns-in-Upsert c = rw c.in-Upsert.is (let z : length c.in-Upsert.id.bytes ≡ 20 = omega arith in z ∙ sym sha1_width)
