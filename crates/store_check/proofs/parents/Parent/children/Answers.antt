-- `store_check::parents::Parent::children` meets its contract: those from i on are children, and the walk over the entries goes on after the last of them. Assumes nothing.
use Rattle.store_check.proofs.ChildLaws.{going_all}
use Rattle.store_check.proofs.parents.Parent.children.Goals as goal

pub loop-i-init : goal.loop-i-init
loop-i-init c = going_all _ _ _ _ _ _ _ _ c.requires.0
