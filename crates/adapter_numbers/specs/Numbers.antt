-- What a call says that takes a mode's number and an id's bytes as they come. Assumes nothing.
use Rattle.std.specs.Prelude.{ℕ, ◌≡◌, false, cond, eqb, length}
use Rattle.std.proofs.Math.Option.{Option, none, some}
use Rattle.model.specs.Bytes.{Bytes}
use Rattle.model.specs.Tree.{Mode}
use Rattle.model.specs.Table.{Table}
use Rattle.model.specs.Editor.{Editor as Model}
use Rattle.model.specs.Formats.{sha1}
use Rattle.model.specs.Walk.{upsert}
use Rattle.model.specs.Calls.{Answer, edited}
use Rattle.model.specs.Write.{answered}
use Rattle.names.specs.Bits.{mode_of_bits}
use Rattle.editor.specs.Lent.{Lent, Does}

-- A call whose arguments mean f does what f says; one whose arguments mean nothing gives 255, looks at nothing else and leaves each lent byte.
abbrev pub Numbers : Option (Model → Answer) → Lent → ℕ → Lent → Type 0
Numbers none s code q = (code ≡ 255) × (q ≡ s)
Numbers (some f) s code q = Does f s code q

-- the upsert of an entry with this mode, where there is one
abbrev pub put_as : Table → Bytes → Bytes → Bytes → Option Mode → Option (Model → Answer)
put_as T id prefix path none = none
put_as T id prefix path (some m) = some (edited sha1 T (upsert m id) false prefix path)

-- the upsert that a mode's number and an id's bytes mean
abbrev pub put_by : Table → ℕ → Bytes → Bytes → Bytes → Option (Model → Answer)
put_by T bits id prefix path = cond (eqb (length id) 20) (put_as T id prefix path (mode_of_bits bits)) none

-- the answer that an id's bytes mean
abbrev pub answer_by : Bytes → Option (Model → Answer)
answer_by id = cond (eqb (length id) 20) (some (answered sha1 id)) none
