-- What a slot's tree is read from: its run, where it lies. Assumes nothing.
use mathlib.Core.Path.{◌≡◌, sym, ap, subst, ◌∙◌}
use mathlib.Core.List.{List}
use Prim.Native.Nat.{ℕ, ◌≤◌, ◌<◌}
use native.Mathlib.Omega.{arith}
use lib.ListN.{length}
use Rattle.names_compact.specs.Compact.{Run, unpack}
use Rattle.store_runs.specs.Runs.{run_of}
use Rattle.store_runs.proofs.FindLaws.{cut_at}
use Rattle.store_runs.proofs.RunLaws.{total_within}
use Rattle.store_slots.specs.View.{Laid, tree_of}
use Rattle.store_slots.specs.declared.Record.{Record}
use Rattle.store_slots.proofs.Changes.{run_length}
use Rattle.store_slots.proofs.Relaid.{run_in}
use Rattle.store_trees.specs.Trees.{Readable}

module _ {w : ℕ} {r : Record} {tlens trees : List ℕ} {k : ℕ} (p : Readable w r tlens trees k) where
  -- the run at hand
  pub run_there : {z : List ℕ} → z ≡ run_of tlens trees k → Run w z
  run_there e = subst (Run w) (cut_at tlens trees k p.low ∙ sym e) p.run

  pub tree_there : {z : List ℕ} → z ≡ run_of tlens trees k → unpack w z ≡ tree_of w tlens trees k
  tree_there e = ap (unpack w) (e ∙ sym (cut_at tlens trees k p.low))

  pub run_small : length (run_of tlens trees k) ≤ 4294967296
  run_small =
      omega (arith, ap length (cut_at tlens trees k p.low), run_length tlens trees r.trees k p.sound p.low, total_within tlens k p.low, p.sound.sum, p.sound.fits, p.small)

-- every slot of a store can be read
pub readable : (w : ℕ) (r : Record) (plens paths tlens trees : List ℕ) → Laid w r plens paths tlens trees → w ≤ 64 → (k : ℕ) → k < 64 → Readable w r tlens trees k
readable w r plens paths tlens trees L h k low =
    record {
      sound = L.trees_sound;
      low = omega (arith, L.tlens_64);
      run = run_in w r plens paths tlens trees L k low;
      narrow = h;
      small = omega (arith, L.trees_room);
    }
