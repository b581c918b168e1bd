use lib.ListN.{length}
use Prim.Native.Nat.{◌-◌}
use Rattle.small_records.proofs.FormLaws.{Forming}
use Rattle.small_records.proofs.form.first_bad.Given as goal

abbrev pub invariant-loop-record : goal.invariant-loop-record
invariant-loop-record l = Forming l.width l.input l.at l.count

abbrev pub decreases-loop-record : goal.decreases-loop-record
decreases-loop-record l = length l.input - l.at
