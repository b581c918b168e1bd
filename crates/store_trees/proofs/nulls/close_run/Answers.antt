-- `store_trees::nulls::close_run` meets its contract: the run is closed up where it lies, and its spare end taken out. Assumes nothing.
use mathlib.Core.Path.{◌≡◌, refl, sym, ap, ap₂, ◌∙◌, subst}
use mathlib.Core.List.{List}
use Prim.Native.Nat.{ℕ, ◌+◌, ◌-◌}
use native.Mathlib.Omega.{arith}
use lib.ListN.{length, take, drop, get_or}
use Rattle.model.specs.Tree.{null, without_id}
use Rattle.names_compact.specs.Compact.{packed_all, unpack, Run}
use Rattle.names.specs.Splice.{splice}
use Rattle.store_runs.specs.Runs.{run_of, total}
use Rattle.store_runs.proofs.FindLaws.{cut_at}
use Rattle.store_trees.specs.Trees.{Fewer}
use Rattle.store_trees.proofs.Gaps.{put_mid_lem}
use borrow.Rule.Slice.PartMut.{put_mid}
use Rattle.store_trees.proofs.NullLaws.{run_long, run_ends, left_fits, closed_fewer, back_sound, closed_view}
use Rattle.store_trees.proofs.nulls.close_run.Goals as goal
use Rattle.store_trees.proofs.nulls.close_run.Goals.{After-close_up-left}

pub overflow_add-e : goal.overflow_add-e
overflow_add-e c =
    let a = c.args in
    omega (arith, c.start-a.ensures, run_ends a.width a.lens.now a.bytes.now a.used a.k c.requires.0 c.requires.1)

pub slice_bounds-close_up-end : goal.slice_bounds-close_up-end
slice_bounds-close_up-end c =
    let a = c.args in
    omega (arith, c.start-a.ensures, run_ends a.width a.lens.now a.bytes.now a.used a.k c.requires.0 c.requires.1, c.requires.0.fits)

-- the part that is lent is the run
lent : (c : goal.After-close_up-arg-1) → take (c.start-a.result + get_or c.args.lens.now c.args.k 0 - c.start-a.result) (drop c.start-a.result c.args.bytes.now) ≡ run_of c.args.lens.now c.args.bytes.now c.args.k
lent c =
    let a = c.args in
    let n : c.start-a.result + get_or a.lens.now a.k 0 - c.start-a.result ≡ get_or a.lens.now a.k 0 = omega arith in
    ap₂ (λ (y z : ℕ). take y (drop z a.bytes.now)) n c.start-a.ensures

pub close_up-left-requires : goal.close_up-left-requires
close_up-left-requires c =
    let a = c.args in
    (subst (Run a.width) (sym (lent c ∙ sym (cut_at a.lens.now a.bytes.now a.k c.requires.1))) c.requires.2, c.requires.3)

-- the part that is lent is the run
lent-2 : (c : After-close_up-left) → take (c.start-a.result + get_or c.args.lens.now c.args.k 0 - c.start-a.result) (drop c.start-a.result c.args.bytes.now) ≡ run_of c.args.lens.now c.args.bytes.now c.args.k
lent-2 c =
    let a = c.args in
    let n : c.start-a.result + get_or a.lens.now a.k 0 - c.start-a.result ≡ get_or a.lens.now a.k 0 = omega arith in
    ap₂ (λ (y z : ℕ). take y (drop z a.bytes.now)) n c.start-a.ensures

-- what is left of the run
closed : (c : After-close_up-left) → (take c.close_up-left.result.used c.close_up-left.new.run ≡ packed_all (without_id (null c.args.width) (unpack c.args.width (run_of c.args.lens.now c.args.bytes.now c.args.k)))) × Fewer c.args.width (run_of c.args.lens.now c.args.bytes.now c.args.k) (length (run_of c.args.lens.now c.args.bytes.now c.args.k)) c.close_up-left.result
closed c =
    let w = c.args.width in
    subst (λ (b : List ℕ). (take c.close_up-left.result.used c.close_up-left.new.run ≡ packed_all (without_id (null w) (unpack w b))) × Fewer w b (length b) c.close_up-left.result) (lent-2 c) (c.close_up-left.ensures.front, c.close_up-left.ensures.counts)

size : (c : After-close_up-left) → length c.close_up-left.new.run ≡ get_or c.args.lens.now c.args.k 0
size c =
    let a = c.args in
    c.close_up-left.auto.run ∙ ap length (lent-2 c) ∙ run_long a.width a.lens.now a.bytes.now a.used a.k c.requires.0 c.requires.1

-- the slice with the run closed up
back : (c : After-close_up-left) → put_mid c.start-a.result (c.start-a.result + get_or c.args.lens.now c.args.k 0 - c.start-a.result) c.args.bytes.now c.close_up-left.new.run ≡ splice c.args.bytes.now (total (take c.args.k c.args.lens.now)) c.close_up-left.new.run
back c =
    let a = c.args in
    let n : get_or a.lens.now a.k 0 ≡ c.start-a.result + get_or a.lens.now a.k 0 - c.start-a.result = omega arith in
    put_mid_lem a.bytes.now c.close_up-left.new.run c.start-a.result (c.start-a.result + get_or a.lens.now a.k 0 - c.start-a.result) (size c ∙ n) ∙ ap (λ (x : ℕ). splice a.bytes.now x c.close_up-left.new.run) c.start-a.ensures

pub overflow_sub-n : goal.overflow_sub-n
overflow_sub-n c =
    let a = c.args in
    let p = (goal.at.overflow_sub-n c).After-close_up-left in
    left_fits a.width a.lens.now a.bytes.now a.used a.k c.requires.0 c.requires.1 c.close_up-left.new.run c.close_up-left.result (size p) (closed p).1

pub remove-requires : goal.remove-requires
remove-requires c =
    let a = c.args in
    let p = (goal.at.remove-requires c).After-close_up-left in (
      back_sound a.width a.lens.now a.bytes.now a.used a.k c.requires.0 c.requires.1 c.close_up-left.new.run c.close_up-left.result (size p) (closed p).1 _ (back p),
      c.requires.1,
      omega (arith, left_fits a.width a.lens.now a.bytes.now a.used a.k c.requires.0 c.requires.1 c.close_up-left.new.run c.close_up-left.result (size p) (closed p).1),
    )

pub returns : goal.returns
returns c =
    let a = c.args in
    let p = (goal.at.returns c).After-close_up-left in
    record {
      view = closed_view a.width a.lens.now a.bytes.now a.used a.k c.requires.0 c.requires.1 c.close_up-left.new.run c.close_up-left.result (size p) (closed p).1 _ (back p) (closed p).0 c.remove.new.lens c.remove.new.bytes c.remove.ensures.view;
      sound = c.remove.ensures.sound.0;
      counts = closed_fewer a.width a.lens.now a.bytes.now a.used a.k c.requires.0 c.requires.1 c.close_up-left.new.run c.close_up-left.result (size p) (closed p).1 c.remove.result c.close_up-left.result.gone c.remove.ensures.sound.1 refl;
    }
