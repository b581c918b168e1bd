-- `lines::hex::unhex_into` meets its contract: each pair of digits says one byte, and those passed are written. Assumes nothing.
use native.Mathlib.Omega.{arith}
use Rattle.names.proofs.WriteLaws.{put_end}
use Rattle.lines.proofs.TextLaws.{high_is, low_is, byte_put, length_bytes}
use Rattle.lines.proofs.hex.unhex_into.Goals as goal

pub digit_value-requires : goal.digit_value-requires
digit_value-requires c = high_is _ c.as_chunks.ensures.front c.loop-i-test.true c.requires.s_value

pub digit_value-requires-in-loop-i : goal.digit_value-requires-in-loop-i
digit_value-requires-in-loop-i c = low_is _ c.as_chunks.ensures.front c.loop-i-test.true c.requires.s_value

pub overflow_add-out-in-loop-i : goal.overflow_add-out-in-loop-i
overflow_add-out-in-loop-i c = omega (arith, length_bytes c.args.s.now)

pub bounds-out-at : goal.bounds-out-at
bounds-out-at c = omega (arith, length_bytes c.args.s.now, c.requires.s_in_bounds, c.loop-i.invariant.long)

pub loop-i-preserved : goal.loop-i-preserved
loop-i-preserved c = byte_put _ c.as_chunks.ensures.front c.loop-i-test.true c.loop-i.invariant c.requires.s_in_bounds c.digit_value.ensures.value c.digit_value-in-loop-i.ensures.value

pub returns : goal.returns
returns c = put_end c.loop-i.invariant c.requires.s_in_bounds (omega (arith, length_bytes c.args.s.now, c.as_chunks.ensures.front_len))
