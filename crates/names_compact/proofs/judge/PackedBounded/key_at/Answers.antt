-- `names_compact::judge::PackedBounded::key_at` meets its contract: it reads the entry that the bytes hold there. Assumes nothing.
use native.Mathlib.Omega.{arith}
use Rattle.names_compact.proofs.JudgeLaws.{ends, read_whole, read_none, whole_begins}
use Rattle.names_compact.proofs.judge.PackedBounded.key_at.Goals as goal

pub key_held-requires : goal.key_held-requires
key_held-requires c = read_whole _ _ _ c.end_of.ensures c.in_ok-next.was

pub returns-in_err-next : goal.returns-in_err-next
returns-in_err-next c = rw c.from_residual.ensures (read_none _ _ _ c.end_of.ensures c.in_err-next.was)

pub returns : goal.returns
returns c =
    let e = read_whole _ _ _ c.end_of.ensures c.in_ok-next.was in
    let x = ends _ _ _ e in
    record {
      entry = _;
      name = c.key_held.ensures.name;
      tree = c.key_held.ensures.tree;
      begins = (whole_begins _ _ _ e).is;
      forward = omega (arith, x.is);
      inside = x.inside;
    }
