-- `names_compact::compact::pack` meets its contract: the entries read so far stand packed at the front, and those that are left fill the rest. Assumes nothing.
use native.Mathlib.Omega.{arith}
use Rattle.names_compact.proofs.PackLaws.{pack_begin, pack_end, pack_reach, pack_fits, pack_short, pack_more}
use Rattle.names_compact.proofs.compact.pack.Goals as goal

pub loop-read-init : goal.loop-read-init
loop-read-init c = pack_begin c.requires

pub put_at-to-requires-clause-room : goal.put_at-to-requires-clause-room
put_at-to-requires-clause-room c = pack_fits c.loop-read.invariant c.read_entry.ensures c.in-Some.is c.between-in-Some.ensures c.between.ensures

pub put_at-to-requires-clause-short : goal.put_at-to-requires-clause-short
put_at-to-requires-clause-short c = pack_short c.loop-read.invariant c.read_entry.ensures c.in-Some.is c.between-in-Some.ensures c.between.ensures

pub loop-read-smaller : goal.loop-read-smaller
loop-read-smaller c =
    let x = pack_reach c.loop-read.invariant c.read_entry.ensures c.in-Some.is in
    omega (arith, x.forward, x.inside)

pub loop-read-preserved : goal.loop-read-preserved
loop-read-preserved c = pack_more c.loop-read.invariant c.read_entry.ensures c.in-Some.is c.between-in-Some.ensures c.between.ensures c.put_at-to.ensures.value c.put_at-to.ensures.out_after

pub returns : goal.returns
returns c = pack_end c.loop-read.invariant c.read_entry.ensures c.in_default.is
