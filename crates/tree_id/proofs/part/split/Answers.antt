-- `tree_id::part::split` meets its contract: the bytes of the first part and those after them are whole entries. Assumes nothing.
use mathlib.Core.Path.{refl}
use native.Mathlib.Omega.{arith}
use Rattle.tree_id.proofs.part.split.Goals as goal

pub invariant_of-result-clause-run : goal.invariant_of-result-clause-run
invariant_of-result-clause-run c = (rw (c.split_at.ensures.front) c.first_part.ensures.2.first)

pub invariant_of-result-2-clause-run : goal.invariant_of-result-2-clause-run
invariant_of-result-2-clause-run c = (rw (c.split_at.ensures.back) c.first_part.ensures.2.others)

pub returns : goal.returns
returns c =
    record {
      some = omega (arith, c.split_at.ensures.front_len, c.first_part.ensures.0);
      part = rw (c.split_at.ensures.front, c.split_at.ensures.back) c.first_part.ensures.2;
      first_width = refl;
      others_width = refl;
    }
