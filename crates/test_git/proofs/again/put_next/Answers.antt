-- `test_git::again::put_next` meets its contract: a mode's text has at most 6 bytes, so an entry with a name of at most 512 and an id of at most 64 bytes fits into 1,024.
-- Assumes nothing.
use Prim.Native.Nat.{◌≤◌}
use mathlib.Core.Path.{ap}
use native.Mathlib.Omega.{arith}
use lib.ListN.{length}
use Rattle.model.specs.Bytes.{Bytes}
use Rattle.model.specs.Raw.{raw_entry}
use Rattle.model.proofs.ValidLaws.{octal_length}
use Rattle.names.specs.Answers.{as_mode, entry}
use Rattle.names.specs.declared.mode.EntryKind.{EntryKind}
use Rattle.names.proofs.WriteLaws.{entry_long, length_splice}
use Rattle.test_git.proofs.again.put_next.Goals as goal

short : (kind : EntryKind) (name id : Bytes) → length name ≤ 512 → length id ≤ 64 → length (raw_entry (entry kind name id)) ≤ 1024
short kind name id a b = omega (arith, entry_long (entry kind name id), octal_length (as_mode kind))

pub put_entry-requires : goal.put_entry-requires
put_entry-requires c =
    let a = c.args in
    omega (arith, short a.e.kind a.e.name.now a.e.id.now (omega arith) (omega arith))

pub returns : goal.returns
returns c =
    let a = c.args in
    let l = short a.e.kind a.e.name.now a.e.id.now (omega arith) (omega arith) in
    omega (arith, c.put_entry.ensures.value, ap length c.put_entry.ensures.out_after, length_splice a.out.now a.to (raw_entry (entry a.e.kind a.e.name.now a.e.id.now)) (omega arith))
