-- What an edit of a laid out store leaves. Assumes nothing.
use Rattle.std.specs.Prelude.{ℕ, ◌≡◌, List}
use Rattle.model.specs.Calls.{Answer as Answered}
use Rattle.store_slots.specs.View.{editor_of}
use Rattle.store_slots.specs.declared.Record.{Record}
use Rattle.store_slots.specs.declared.Store.{Store}
use Rattle.editor_terms.specs.Answers.{Answer, code_number}
use Rattle.editor_walk.specs.Steps.{Standing}
use Rattle.editor.specs.Lent.{Still}

-- the call was answered as the model says: where nothing changes every byte is as it was; after the others the store is laid out, with no write open
pub record EditedAs (r₀ : Record) (plens₀ paths₀ tlens₀ trees₀ order : List ℕ) (m : Answered) (a : Answer) (r : Record) (plens paths tlens trees : List ℕ) : Type 0 where
  pub made : record { code = code_number a; editor = editor_of 20 r plens paths tlens trees order } ≡ m
  pub same : Still (code_number a) → (r ≡ r₀) × (plens ≡ plens₀) × (paths ≡ paths₀) × (tlens ≡ tlens₀) × (trees ≡ trees₀)
  pub stand : (Still (code_number a) → ⊥) → (r₀.«open» ≡ 0) × Standing r₀ r plens paths tlens trees
  pub usual : (code_number a ≡ 13 → ⊥)

-- the same of a store as one value
abbrev pub EditedIn : Store → List ℕ → Answered → Answer → Store → Type 0
EditedIn s order m a q = EditedAs s.ed s.plens.now s.paths.now s.tlens.now s.trees.now order m a q.ed q.plens.now q.paths.now q.tlens.now q.trees.now
