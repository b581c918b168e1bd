-- `editor_walk::component::first` meets its contract: a component is no longer than its path. Assumes nothing.
use native.Mathlib.Omega.{arith}
use Rattle.names.proofs.FrontLaws.{piece_short}
use Rattle.editor_walk.proofs.component.first.Goals as goal

pub overflow_add-end : goal.overflow_add-end
overflow_add-end c = omega (arith, piece_short c.args.path.now c.component_len-k.result c.component_len-k.ensures, c.requires)
