use Prim.Native.Nat.{ℕ}
use mathlib.Core.List.{List}
use Rattle.model.specs.Bytes.{Bytes}
use Rattle.store_slots.specs.Stores.{SameLent}
use Rattle.store_slots.specs.declared.Store.{Store}
use Rattle.editor.specs.Lent.{lent_in, viewed}
use Rattle.small_run.specs.Lesson.{write_lines}
use Rattle.small_run.proofs.SaveLaws.{pending, Saving}
use Rattle.small_run.proofs.save.requests.Given as goal

-- so many requests are answered and told, in the lent store
pub record Saved (s₀ : Store) (order₀ : List ℕ) (d₀ : Bytes) (to₀ : ℕ) (s : Store) (order : List ℕ) (k to : ℕ) (d raw : Bytes) : Type 0 where
  pub law : Saving (write_lines 65 0 (viewed (lent_in s₀ order₀))) d₀ to₀ (lent_in s order) k to d raw
  pub lent : SameLent s₀ s

abbrev pub invariant-loop-s : goal.invariant-loop-s
invariant-loop-s l = Saved l.initial.s l.initial.order l.initial.out l.initial.at l.s l.order l.k l.at l.out l.raw

abbrev pub decreases-loop-s : goal.decreases-loop-s
decreases-loop-s l = pending (viewed (lent_in l.s l.order))
