-- `test_later::TornBounded::key_at` meets its contract: no entries stand there to the end, so what is read need only be some entry. Assumes nothing.
use Rattle.std.proofs.Common.{refl, arith}
use Rattle.test_later.specs.Listed.{entry_of_key}
use Rattle.test_later.proofs.ListedLaws.{mode_tells}
use Rattle.test_later.proofs.TornBounded.key_at.Goals as goal

pub returns : goal.returns
returns c =
    record {
      entry = entry_of_key c.in_ok-key.field-0.now;
      name = refl;
      tree = mode_tells _;
      begins = refl;
      forward = omega arith;
      inside = omega (arith, c.in_ok-key.ensures.lookup.3.0);
    }
