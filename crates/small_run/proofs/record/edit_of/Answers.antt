-- `small_run::record::edit_of` meets its contract: the digits of an upsert say its id, and removals have none. Assumes nothing.
use mathlib.Core.Path.{◌≡◌, subst}
use mathlib.Core.Bool.{true}
use Rattle.names.specs.Answers.{as_mode}
use Rattle.small_records.specs.Answers.{as_op}
use Rattle.small_records.specs.Records.{good_id}
use Rattle.small_records.specs.declared.record.Op.{Op}
use Rattle.small_records.proofs.FormLaws.{id_wide}
use Rattle.small_run.proofs.record.edit_of.Goals as goal

pub id_of-requires : goal.id_of-requires
id_of-requires c = id_wide 20 (as_mode c.in-Upsert.kind) c.args.digits.now (subst (λ (o : Op). good_id 20 (as_op o) c.args.digits.now ≡ true) c.in-Upsert.is c.requires)
