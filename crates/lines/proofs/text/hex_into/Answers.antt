-- `lines::text::hex_into` meets its contract: each byte is two digits, and those of the bytes passed are written. Assumes nothing.
use lib.ListN.{length-set}
use native.Mathlib.Omega.{arith}
use Rattle.names.proofs.WriteLaws.{put_end}
use Rattle.lines.proofs.TextLaws.{hex_put, length_hex}
use Rattle.lines.proofs.text.hex_into.Goals as goal

pub bounds-out-place : goal.bounds-out-place
bounds-out-place c = omega (arith, length_hex c.args.bytes.now)

pub bounds-out-place-in-loop-i : goal.bounds-out-place-in-loop-i
bounds-out-place-in-loop-i c = simp length-set (omega (arith, length_hex c.args.bytes.now))

pub loop-i-preserved : goal.loop-i-preserved
loop-i-preserved c = hex_put _ _ c.loop-i.invariant c.requires c.loop-i-test.true c.digit_for.ensures c.digit_for-in-loop-i.ensures

pub returns-clause-value : goal.returns-clause-value
returns-clause-value c = omega (arith, length_hex c.args.bytes.now)

pub returns-clause-out_after : goal.returns-clause-out_after
returns-clause-out_after c = put_end c.loop-i.invariant c.requires (omega (arith, length_hex c.args.bytes.now))
