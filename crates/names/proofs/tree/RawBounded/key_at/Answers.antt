-- `names::tree::RawBounded::key_at` meets its contract: it reads the entry that the bytes hold there. Assumes nothing.
use native.Mathlib.Omega.{arith}
use Rattle.names.proofs.CheckLaws.{raw_none, raw_reach, raw_begins}
use Rattle.names.proofs.tree.RawBounded.key_at.Goals as goal

pub returns-in_err-e : goal.returns-in_err-e
returns-in_err-e c = rw c.from_residual.ensures (raw_none _ _ _ c.read_entry.ensures c.in_err-e.was)

pub returns : goal.returns
returns c =
    let x = raw_reach _ _ _ c.read_entry.ensures c.in_ok-e.was in
    record {
      entry = _;
      name = c.key.ensures.name;
      tree = c.key.ensures.tree;
      begins = (raw_begins _ _ _ c.read_entry.ensures c.in_ok-e.was (omega (arith, x.forward, x.inside))).is;
      forward = omega (arith, x.forward);
      inside = x.inside;
    }
