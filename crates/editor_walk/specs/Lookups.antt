-- What a lookup, and a step of one, mean in the model. Assumes nothing.
use Rattle.std.specs.Prelude.{ℕ, ◌<◌, ◌≡◌, Bool, true, false, List, [], length, get_or, Option as Opt, Some, None, Result, Ok, Err}
use Rattle.std.specs.declared.ops.ControlFlow.{ControlFlow}
use Rattle.std.specs.declared.ops.ControlFlow.TheVariants.{Continue, Break}
use Rattle.model.specs.Bytes.{Bytes, is_nil}
use Rattle.model.specs.Map.{find, is_some}
use Rattle.model.specs.Tree.{Tree, entry_of_lookup}
use Rattle.model.specs.Editor.{at}
use Rattle.model.specs.Lookup as model
use Rattle.names.specs.Answers.{entry}
use Rattle.store_slots.specs.View.{slots_of, gather}
use Rattle.editor_terms.specs.Ids.{id_bytes}
use Rattle.editor_terms.specs.Answers.{refusal_number}
use Rattle.editor_terms.specs.declared.refusal.Refusal.{Refusal}
use Rattle.editor_terms.specs.declared.edit.Seen.{Seen}

-- the model's answer; the entry that is found has this name
abbrev pub looked_as : Bytes → Result (Opt Seen) Refusal → model.Looked
looked_as n (Ok (Some s)) = model.found (entry s.kind n (id_bytes s.id))
looked_as n (Ok None) = model.missing
looked_as n (Err refusal) = model.refusal (refusal_number refusal)

-- what the model's step gives at the name n in the tree t, with q the path below, from what the rest of the lookup gives
abbrev pub step_look : List ℕ → List Bytes → Tree → Bytes → Bytes → Bool → List Bytes → model.Looked → model.Looked
step_look ds ps t q n is_last bs rest = model.look_on is_last (is_some (find at q (gather (slots_of 20 ds ps bs)))) rest (entry_of_lookup n t)

-- the lookup is over with this answer, or goes on in the slot of the path below; ds and ps are the digits and the paths of the cached slots, whose trees do not matter
abbrev pub LookStepIs : List ℕ → List Bytes → Tree → Bytes → Bytes → Bool → ControlFlow (Opt Seen) ℕ → Type 0
LookStepIs ds ps t q n is_last (Break r) = (bs : List Bytes) → length bs ≡ 64 → (m : Bytes) → (is_last ≡ true → m ≡ n) → (rest : model.Looked) → looked_as m (Ok r) ≡ step_look ds ps t q n is_last bs rest
LookStepIs ds ps t q n is_last (Continue s) =
    (is_last ≡ false) × (s < 64) × (get_or ds s 0 ≡ 0) × (get_or ps s [] ≡ q) × (is_nil n ≡ false) × ((bs : List Bytes) → length bs ≡ 64 → (rest : model.Looked) → rest ≡ step_look ds ps t q n is_last bs rest)
