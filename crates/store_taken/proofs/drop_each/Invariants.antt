use Prim.Native.Nat.{ℕ}
use Rattle.store_slots.specs.Stores.{SameLent}
use Rattle.store_slots.specs.declared.Store.{Store}
use Rattle.store_taken.proofs.Dropping.{Dropping}
use Rattle.store_taken.proofs.drop_each.Given as goal

-- those of the map below the place k are dropped
pub record Dropped (w gone : ℕ) (s : Store) (k : ℕ) (q : Store) : Type 0 where
  pub dropping : Dropping w gone s.ed s.plens.now s.paths.now s.tlens.now s.trees.now k q.ed q.plens.now q.paths.now q.tlens.now q.trees.now
  pub lent : SameLent s q

abbrev pub invariant-loop-k : goal.invariant-loop-k
invariant-loop-k l = Dropped l.width l.gone l.initial.s l.k l.s
