-- A component of a path, by the model's pieces. Assumes nothing.
use Rattle.std.specs.Prelude.{◌≡◌, ◌+◌, ◌-◌, eqb, take, drop, length}
use Rattle.model.specs.Bytes.{Bytes}
use Rattle.names.specs.Places.{first_piece}
use Rattle.editor_walk.specs.declared.component.Component.{Component}

-- r is the component that p begins with, where p ends the path whole
pub record ComponentIs (whole p : Bytes) (r : Component) : Type 0 where
  pub name : r.name.now ≡ take (length (first_piece p)) p
  pub below : r.below.now ≡ take (length whole - length p + length (first_piece p)) whole
  pub rest : r.rest.now ≡ drop (length (first_piece p) + 1) p
  pub last : r.last ≡ eqb (length (first_piece p)) (length p)
