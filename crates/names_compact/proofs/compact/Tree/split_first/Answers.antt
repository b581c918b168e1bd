-- `names_compact::compact::Tree::split_first` meets its contract: where there are bytes there is an entry, and behind it stands the run of the others. Assumes nothing.
use mathlib.Core.Path.{◌≡◌, sym, ap, ◌∙◌}
use mathlib.Core.List.{◌∷◌}
use mathlib.Core.Bool.{false}
use Prim.Native.Nat.{ℕ, ◌-◌, ◌<◌}
use native.Mathlib.Omega.{arith}
use lib.Dec.{eqb}
use lib.ListN.{length, take, drop, length-drop}
use lib.Seq.{take-length}
use borrow.Author.Tests.{eqb-true, eqb-false}
use Rattle.model.specs.Bytes.{Bytes}
use Rattle.model.specs.Tree.{Entry}
use Rattle.names_compact.specs.Compact.{unpack}
use Rattle.names_compact.proofs.CompactLaws.{run_empty, run_begins, run_others, run_first, mark}
use Rattle.names_compact.proofs.compact.Tree.split_first.Goals as goal

some : (b : Bytes) → false ≡ eqb (length b) 0 → 0 < length b
some b e = omega (arith, eqb-false (length b) 0 (sym e))

all : (n : ℕ) (b : Bytes) → take (length b - n) (drop n b) ≡ drop n b
all n b = ap (λ (k : ℕ). take k (drop n b)) (sym (length-drop n b)) ∙ take-length (drop n b)

pub returns-then-is_empty-clause-empty : goal.returns-then-is_empty-clause-empty
returns-then-is_empty-clause-empty c = run_empty _ _ (eqb-true _ _ (sym c.if-is_empty.ensures))

pub entry_at-first-requires : goal.entry_at-first-requires
entry_at-first-requires c = run_begins _ _ c.args.self.run (some _ c.if-is_empty.ensures)

pub skip-next-requires : goal.skip-next-requires
skip-next-requires c = run_begins _ _ c.args.self.run (some _ c.if-is_empty.ensures)

pub slice_bounds-others-count : goal.slice_bounds-others-count
slice_bounds-others-count c =
    let s = run_begins _ _ c.args.self.run (some _ c.if-is_empty.ensures) in
    let m = mark _ _ 0 0 c.args.self.run s.0 s.1 in
    omega (arith, m.room, m.next, c.skip-next.ensures)

pub slice_bounds-others-start : goal.slice_bounds-others-start
slice_bounds-others-start c =
    let s = run_begins _ _ c.args.self.run (some _ c.if-is_empty.ensures) in
    let m = mark _ _ 0 0 c.args.self.run s.0 s.1 in
    omega (arith, m.room, m.next, c.skip-next.ensures)

pub invariant_of-others-clause-run : goal.invariant_of-others-clause-run
invariant_of-others-clause-run c = run_others _ _ c.args.self.run (some _ c.if-is_empty.ensures) c.skip-next.ensures (all c.skip-next.result c.args.self.bytes.now)

pub returns-clause-first : goal.returns-clause-first
returns-clause-first c =
    run_first _ _ c.args.self.run (some _ c.if-is_empty.ensures) c.skip-next.ensures (all c.skip-next.result c.args.self.bytes.now)
    ∙ ap (λ (e : Entry). e ∷ unpack c.args.self.width (take (length c.args.self.bytes.now - c.skip-next.result) (drop c.skip-next.result c.args.self.bytes.now))) (sym c.entry_at-first.ensures)
