-- `editor_walk::land::land_raw` meets its contract: the check of the raw tree that is found decides. Assumes nothing.
use Rattle.editor_terms.specs.Ids.{id_bytes}
use Rattle.editor_terms.specs.Tables.{objects_in}
use Rattle.editor_walk.proofs.LandLaws.{plan_lost, plan_broken, plan_load}
use Rattle.editor_walk.proofs.land.land_raw.Goals as goal

pub returns-in_default : goal.returns-in_default
returns-in_default c = plan_lost (objects_in c.args.table) (id_bytes c.args.id) _ c.find.ensures c.in_default.is

pub returns-in-None : goal.returns-in-None
returns-in-None c = plan_broken (objects_in c.args.table) (id_bytes c.args.id) _ c.find.ensures c.in-Some.is c.well_formed-2.ensures c.in-None.is

pub returns-in-Some-well_formed : goal.returns-in-Some-well_formed
returns-in-Some-well_formed c = plan_load (objects_in c.args.table) (id_bytes c.args.id) _ c.find.ensures c.in-Some.is c.well_formed-2.ensures c.in-Some-well_formed.is
