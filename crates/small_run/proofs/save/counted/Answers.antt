-- `small_run::save::counted` meets its contract: sixteen zeros stand before the four bytes of the count. Assumes nothing.
use mathlib.Core.Path.{◌≡◌, refl}
use native.Mathlib.Omega.{arith}
use Prim.Native.Nat.{◌/◌, ◌%◌}
use Rattle.small_run.specs.Lesson.{count_id}
use Rattle.small_run.proofs.save.counted.Goals as goal

pub returns : goal.returns
unfolding count_id
returns c =
    let k = c.args.k in
    let high : k / 16777216 % 256 ≡ k / 16777216 = omega arith in
    rw (c.copy_from_slice.ensures.after, c.to_be_bytes.ensures, high) refl
