-- `names_compact::compact::Tree::raw_len` meets its contract: the length so far and that of the entries that are left are together that of all, less than four times that of the bytes. Assumes nothing.
use native.Mathlib.Omega.{arith}
use Rattle.names_compact.proofs.CompactRawLaws.{raw_first, raw_most}
use Rattle.names_compact.proofs.compact.Tree.raw_len.Goals as goal

pub raw_entry_len-n-requires : goal.raw_entry_len-n-requires
raw_entry_len-n-requires c = omega (arith, c.loop-e.invariant, raw_first c.in-Some.ensures.steps, raw_most c.args.self.run, c.requires)

pub overflow_add-n : goal.overflow_add-n
overflow_add-n c = omega (arith, c.loop-e.invariant, raw_first c.in-Some.ensures.steps, raw_most c.args.self.run, c.requires, c.raw_entry_len-n.ensures)
