-- The bytes of an id. Assumes nothing.
use Rattle.model.specs.Bytes.{Bytes}
use Rattle.editor_terms.specs.declared.id.Id.{Id}

abbrev pub id_bytes : Id → Bytes
id_bytes i = i.bytes
