-- `store_check::parents::Paths::at` meets its contract: a path is the run that starts there. Assumes nothing.
use native.Mathlib.Omega.{arith}
use Rattle.store_check.proofs.ChildLaws.{begun_end, begun_path}
use Rattle.store_check.proofs.parents.Paths.at.Goals as goal

pub overflow_add-e : goal.overflow_add-e
overflow_add-e c = omega (arith, begun_end c.args.self.begun c.requires)

pub slice_bounds-result-end : goal.slice_bounds-result-end
slice_bounds-result-end c = begun_end c.args.self.begun c.requires

pub returns : goal.returns
returns c = begun_path c.args.self.begun c.requires
