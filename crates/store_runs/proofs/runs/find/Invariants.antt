use mathlib.Core.Path.{◌≡◌}
use mathlib.Core.List.{List}
use Prim.Native.Nat.{ℕ}
use lib.ListN.{take, drop}
use Rattle.store_runs.specs.Digits.{digits}
use Rattle.store_runs.specs.Runs.{total, cut}
use Rattle.store_runs.specs.Find.{find_from}
use Rattle.store_runs.proofs.runs.find.Given as goal

-- up to the slot i, whose path is at a: what is found from there on is what is found
pub record Seeking (ds : List ℕ) (lens bytes path : List ℕ) (i a : ℕ) : Type 0 where
  pub offset : a ≡ total (take i lens)
  pub rest : find_from 0 ds (cut lens bytes) path ≡ find_from i (drop i ds) (drop i (cut lens bytes)) path

abbrev pub invariant-loop-k : goal.invariant-loop-k
invariant-loop-k l = Seeking (digits 64 l.free) l.lens l.bytes l.path l.k l.a
