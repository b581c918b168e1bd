-- What a search of the object table gives. Assumes nothing.
use Rattle.std.specs.Prelude.{ℕ, List, Option as Opt, Some, None}
use Rattle.std.proofs.Math.Option.{Option, none, some}
use denote.Ref.{Bor}
use Rattle.model.specs.Bytes.{Bytes}
use Rattle.model.specs.Table.{Table}

abbrev pub table_of : Bytes → List ℕ → Bytes → Table
table_of ids ends raws = record { ids = ids; ends = ends; raws = raws }

-- the raw tree that is found, if one is
abbrev pub raw_as : Opt (Bor Bytes) → Option Bytes
raw_as (Some raw) = some raw.now
raw_as None = none
