-- `adapter_numbers::edit::upsert` meets its contract: an id of 20 bytes and a mode that is one of the five mean the upsert that is made. Assumes nothing.
use Rattle.editor_terms.specs.Tables.{table_in}
use Rattle.editor.specs.Lent.{lent_in}
use Rattle.adapter_numbers.proofs.NumberLaws.{good_put}
use Rattle.adapter_numbers.proofs.edit.upsert.Goals as goal

pub returns-in-Some-clause-done : goal.returns-in-Some-clause-done
returns-in-Some-clause-done c =
    let a = c.args in
    good_put (table_in a.table) a.mode a.id.now a.prefix.now a.path.now (lent_in a.s.now a.order.now) _ _ _ _ _ c.if-id-eq-WIDTH.true c.kind-kind.ensures c.in-Some.is c.id_at.ensures c.numbered_edit.ensures.done
