-- `store_trees::gap::fill` meets its contract: the gap is as long as what is packed into it. Assumes nothing.
use mathlib.Core.Path.{◌≡◌, sym, ap, ◌∙◌, subst}
use Prim.Native.Nat.{◌+◌, ◌-◌, ◌≤◌}
use native.Mathlib.Omega.{arith}
use lib.ListN.{length}
use Rattle.names_compact.specs.Compact.{packed_all, Takes}
use Rattle.names.specs.Splice.{splice}
use Rattle.store_runs.proofs.MoveLaws.{length_part}
use Rattle.store_trees.proofs.Gaps.{gap_fits, put_mid_lem, fill_view, fill_sound}
use Rattle.store_trees.proofs.gap.fill.Goals as goal

-- the gap is within the bytes
ends : (c : goal.After-slice_known-4-1) → c.widen-a.result + c.args.n ≤ length c.widen-a.new.bytes
ends c =
    let a = c.args in
    gap_fits a.lens.now a.bytes.now c.widen-a.new.lens c.widen-a.new.bytes (a.used + a.n) a.k a.n c.widen-a.result c.widen-a.ensures.sound (omega (arith, c.widen-a.auto.lens, c.requires.1)) c.widen-a.ensures.place.0 c.widen-a.ensures.place.1 c.widen-a.ensures.view

pub overflow_add-e : goal.overflow_add-e
overflow_add-e c = omega (arith, ends c, c.widen-a.auto.bytes, c.well_formed.1.0.1)

pub slice_bounds-pack-end : goal.slice_bounds-pack-end
slice_bounds-pack-end c = ends c

-- the gap is within the bytes
ends-2 : (c : goal.After-pack-arg-1) → c.widen-a.result + c.args.n ≤ length c.widen-a.new.bytes
ends-2 c =
    let a = c.args in
    gap_fits a.lens.now a.bytes.now c.widen-a.new.lens c.widen-a.new.bytes (a.used + a.n) a.k a.n c.widen-a.result c.widen-a.ensures.sound (omega (arith, c.widen-a.auto.lens, c.requires.1)) c.widen-a.ensures.place.0 c.widen-a.ensures.place.1 c.widen-a.ensures.view

pub pack-requires : goal.pack-requires
pack-requires c =
    let a = c.args in
    let n : c.widen-a.result + a.n - c.widen-a.result ≡ a.n = omega arith in
    subst (Takes a.width a.raw.now) (sym (length_part c.widen-a.new.bytes c.widen-a.result (c.widen-a.result + a.n - c.widen-a.result) (omega (arith, ends-2 c)) ∙ n)) c.requires.4

-- the gap is within the bytes
ends-3 : (c : goal.After-slice_known-5-1) → c.widen-a.result + c.args.n ≤ length c.widen-a.new.bytes
ends-3 c =
    let a = c.args in
    gap_fits a.lens.now a.bytes.now c.widen-a.new.lens c.widen-a.new.bytes (a.used + a.n) a.k a.n c.widen-a.result c.widen-a.ensures.sound (omega (arith, c.widen-a.auto.lens, c.requires.1)) c.widen-a.ensures.place.0 c.widen-a.ensures.place.1 c.widen-a.ensures.view

pub returns : goal.returns
returns c =
    let a = c.args in
    let n : c.widen-a.result + a.n - c.widen-a.result ≡ a.n = omega arith in
    let l = c.pack.auto.dst ∙ length_part c.widen-a.new.bytes c.widen-a.result (c.widen-a.result + a.n - c.widen-a.result) (omega (arith, ends-3 c)) in
    let m = put_mid_lem c.widen-a.new.bytes c.pack.new.dst c.widen-a.result (c.widen-a.result + a.n - c.widen-a.result) l in record { view = λ t e. fill_view a.lens.now a.bytes.now c.widen-a.new.lens c.widen-a.new.bytes (a.used + a.n) a.k a.n c.widen-a.result c.widen-a.ensures.sound (omega (arith, c.widen-a.auto.lens, c.requires.1)) c.widen-a.ensures.place.0 c.widen-a.ensures.place.1 c.widen-a.ensures.view (packed_all t) _ (sym (ap length (c.pack.ensures.is t e)) ∙ l ∙ n) (m ∙ ap (splice c.widen-a.new.bytes c.widen-a.result) (c.pack.ensures.is t e)); sound = fill_sound a.lens.now a.bytes.now c.widen-a.new.lens c.widen-a.new.bytes (a.used + a.n) a.k a.n c.widen-a.result c.widen-a.ensures.sound (omega (arith, c.widen-a.auto.lens, c.requires.1)) c.widen-a.ensures.place.0 c.widen-a.ensures.place.1 c.widen-a.ensures.view c.pack.new.dst _ (l ∙ n) m }
