-- `test_later::ListedEntries::key_at` meets its contract: the key at a place is that of the first entry from there on. Assumes nothing.
use Rattle.std.proofs.Common.{refl, arith}
use Rattle.test_later.specs.Listed.{entry_of_key}
use Rattle.test_later.proofs.ListedLaws.{mode_tells, listed_begins}
use Rattle.test_later.proofs.ListedEntries.key_at.Goals as goal

pub returns : goal.returns
returns c =
    record {
      entry = entry_of_key c.in_ok-key.field-0.now;
      name = refl;
      tree = mode_tells _;
      begins = listed_begins c.args.self.now.keys.now c.args.at c.in_ok-key.field-0.now (omega (arith, c.in_ok-key.ensures.lookup.3.0)) (c.in_ok-key.ensures.lookup.3.1 c.in_ok-key.field-0.now);
      forward = omega arith;
      inside = omega (arith, c.in_ok-key.ensures.lookup.3.0);
    }
