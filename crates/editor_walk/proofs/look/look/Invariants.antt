use lib.ListN.{length}
use Rattle.model.specs.Paths.{components}
use Rattle.model.specs.Lookup as model
use Rattle.editor_walk.specs.Tasks.{path_seen, view_seen}
use Rattle.editor_walk.proofs.LookupLaws.{Looking}
use Rattle.editor_walk.proofs.look.look.Given as goal

abbrev pub invariant-loop-found : goal.invariant-loop-found
invariant-loop-found l = Looking l.v.ed l.v.plens.now l.v.paths.now l.v.tlens.now l.v.trees.now l.full (model.look (components l.path) (path_seen l.v l.slot) (view_seen l.v)) l.path l.p l.at

abbrev pub decreases-loop-found : goal.decreases-loop-found
decreases-loop-found l = length l.p
