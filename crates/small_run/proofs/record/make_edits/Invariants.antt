use Prim.Native.Nat.{ℕ, ◌-◌}
use mathlib.Core.Path.{◌≡◌}
use mathlib.Core.List.{List}
use lib.ListN.{length}
use Rattle.model.specs.Bytes.{Bytes}
use Rattle.store_slots.specs.Stores.{SameLent}
use Rattle.store_slots.specs.declared.Store.{Store}
use Rattle.editor.specs.Lent.{lent_in}
use Rattle.small_run.proofs.AllLaws.{Midway}
use Rattle.small_run.proofs.record.make_edits.Given as goal

-- the records before a place are made and told, in the lent store
pub record Made (input : Bytes) (order : List ℕ) (s₀ : Store) (d₀ : Bytes) (s : Store) (at k to : ℕ) (d : Bytes) : Type 0 where
  pub law : Midway input (lent_in s₀ order) d₀ (lent_in s order) at k to d
  pub lent : SameLent s₀ s
  pub long : length d ≡ length d₀

abbrev pub invariant-loop-record : goal.invariant-loop-record
invariant-loop-record l = Made l.input l.order l.initial.s l.initial.out l.s l.at l.k l.to l.out

abbrev pub decreases-loop-record : goal.decreases-loop-record
decreases-loop-record l = length l.input - l.at
