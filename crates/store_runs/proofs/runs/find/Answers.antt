-- `store_runs::runs::find` meets its contract: what is found from the start on is what is found from i on. Assumes nothing.
use mathlib.Core.Path.{◌≡◌, ap, ◌∙◌, sym, refl}
use mathlib.Core.Bool.{Bool, true, false}
use mathlib.Core.List.{List}
use Prim.Native.Nat.{ℕ, ◌+◌, ◌≤◌, ◌<◌}
use native.Mathlib.Omega.{arith}
use lib.ListN.{length, drop, get_or}
use Rattle.store_runs.proofs.DigitLaws.{length_digits}
use Rattle.std.specs.Prelude.{Some, None}
use Rattle.store_runs.specs.Moves.{part}
use Rattle.store_runs.specs.Runs.{total, cut, Sound}
use Rattle.store_runs.specs.Find.{hit, find_from, pick}
use Rattle.store_runs.proofs.RunLaws.{length_cut, total_within, total_more}
use Rattle.store_runs.proofs.FindLaws.{find_step, find_end, cut_at}
use Rattle.store_runs.proofs.runs.find.Invariants.{Seeking}
use Rattle.store_runs.proofs.runs.find.Goals as goal

begin : (ds lens bytes path : List ℕ) → Seeking ds lens bytes path 0 0
unfolding total
begin ds lens bytes path = record { offset = refl; rest = refl }

module _ {ds lens bytes path : List ℕ} {i a used : ℕ} (at : Seeking ds lens bytes path i a) (sound : Sound lens bytes used) (l : length lens ≡ 64) (d : length ds ≡ 64) where
  -- the path of the slot i ends within the bytes
  ends : i < length lens → a + get_or lens i 0 ≤ used
  ends h = omega (arith, at.offset, total_within lens i (omega (arith, l)), sound.sum)

  -- what is found is this slot or what is found after it
  turn : i < length lens → (r b : Bool) → r ≡ hit (get_or ds i 0) (part bytes a (get_or lens i 0)) path → r ≡ b
      → find_from 0 ds (cut lens bytes) path ≡ pick b (Some i) (find_from (i + 1) (drop (i + 1) ds) (drop (i + 1) (cut lens bytes)) path)
  turn h r b e t =
      let w : i < length (cut lens bytes) = omega (arith, length_cut lens bytes) in
      at.rest ∙ find_step i ds (cut lens bytes) path (omega (arith, d)) w
      ∙ ap (λ (x : List ℕ). pick (hit (get_or ds i 0) x path) (Some i) (find_from (i + 1) (drop (i + 1) ds) (drop (i + 1) (cut lens bytes)) path)) (cut_at lens bytes i h ∙ ap (λ (x : ℕ). part bytes x (get_or lens i 0)) (sym at.offset))
      ∙ ap (λ (x : Bool). pick x (Some i) (find_from (i + 1) (drop (i + 1) ds) (drop (i + 1) (cut lens bytes)) path)) (sym e ∙ t)

  here : i < length lens → (r : Bool) → r ≡ hit (get_or ds i 0) (part bytes a (get_or lens i 0)) path → r ≡ true → Some i ≡ find_from 0 ds (cut lens bytes) path
  here h r e t = sym (turn h r true e t)

  more : i < length lens → (r : Bool) → r ≡ hit (get_or ds i 0) (part bytes a (get_or lens i 0)) path → r ≡ false → Seeking ds lens bytes path (i + 1) (a + get_or lens i 0)
  more h r e t = record {
    offset = omega (arith, at.offset, total_more lens i (omega (arith, l)));
    rest = turn h r false e t;
  }

  nothing : length lens ≤ i → None ≡ find_from 0 ds (cut lens bytes) path
  nothing h = sym (at.rest ∙ find_end i ds (drop i (cut lens bytes)) path (omega (arith, d)))

pub loop-k-init : goal.loop-k-init
loop-k-init c = begin _ _ _ _

pub is_at-requires : goal.is_at-requires
is_at-requires c =
    let w = ends c.loop-k.invariant c.requires.0 c.requires.1 (length_digits 64 c.args.free) c.loop-k-test.true in
    (omega (arith, c.loop-k-test.true), omega (arith, w, c.requires.0.fits))

pub returns-then-is_at : goal.returns-then-is_at
returns-then-is_at c = here c.loop-k.invariant c.requires.0 c.requires.1 (length_digits 64 c.args.free) c.loop-k-test.true c.is_at.result c.is_at.ensures c.if-is_at.true

pub overflow_add-a : goal.overflow_add-a
overflow_add-a c =
    let w = ends c.loop-k.invariant c.requires.0 c.requires.1 (length_digits 64 c.args.free) c.loop-k-test.true in
    omega (arith, w, c.ranges.used.fits)

pub loop-k-preserved : goal.loop-k-preserved
loop-k-preserved c = more c.loop-k.invariant c.requires.0 c.requires.1 (length_digits 64 c.args.free) c.loop-k-test.true c.is_at.result c.is_at.ensures c.if-is_at.false

pub returns : goal.returns
returns c = nothing c.loop-k.invariant c.requires.0 c.requires.1 (length_digits 64 c.args.free) c.loop-k-test.false
