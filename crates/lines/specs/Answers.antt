-- What the answers of this crate's functions mean in the definitions. Assumes nothing.
use Rattle.std.specs.Prelude.{ℕ, Option, Some, None}
use Rattle.std.proofs.Math.Option as maybe
use Rattle.model.specs.Bytes.{Bytes}
use Rattle.lines.specs.Places.{Part}
use Rattle.lines.specs.Texts.{Written}
use Rattle.lines.specs.declared.line.Span.{Span}

abbrev pub part : Span → Part
part s = record { at = s.at; len = s.len }

abbrev pub value_read : Option Span → maybe.Option Part
value_read (Some s) = maybe.some (part s)
value_read None = maybe.none

abbrev pub number_read : Option ℕ → maybe.Option ℕ
number_read (Some n) = maybe.some n
number_read None = maybe.none

-- what a write gave, with the bytes afterwards
abbrev pub outcome : Option ℕ → Bytes → Written
outcome (Some n) d = record { next = maybe.some n; out = d }
outcome None d = record { next = maybe.none; out = d }
