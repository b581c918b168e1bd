-- `small_run::save::make_request` meets its contract: the request is told before it is answered. Assumes nothing.
use Rattle.model.specs.Bytes.{Bytes}
use Rattle.model.specs.Formats.{sha1}
use Rattle.model.specs.Write.{answered}
use Rattle.small_run.proofs.RecordLaws.{did_at}
use Rattle.small_run.proofs.save.make_request.Goals as goal

pub returns-clause-editor : goal.returns-clause-editor
returns-clause-editor c = (did_at (λ (b : Bytes). answered sha1 b) _ _ c.counted.ensures c.answer.ensures.done c.requires.0).1
