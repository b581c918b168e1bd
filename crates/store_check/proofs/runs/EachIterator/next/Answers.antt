-- `store_check::runs::Each::next` meets its contract: it takes the first run off. Assumes nothing.
use mathlib.Core.Path.{ap}
use native.Mathlib.Omega.{arith}
use lib.ListN.{length}
use Rattle.store_check.proofs.EachLaws.{cut_none, cut_first, first_fits, rest_fits}
use Rattle.store_check.proofs.runs.EachIterator.next.Goals as goal

pub returns-in_err-n-clause-steps : goal.returns-in_err-n-clause-steps
returns-in_err-n-clause-steps c =
    let e = cut_none c.args.self.now.lens.now c.args.self.now.bytes.now c.in_err-n.ensures.cases in rw c.from_residual.ensures (e, e)

pub split_at-requires : goal.split_at-requires
split_at-requires c = first_fits c.args.self.now.bytes.now c.in_ok-n.ensures.cases.0 c.args.self.now.fits

pub invariant_of-self : goal.invariant_of-self
invariant_of-self c = record { fits = rw c.split_at.ensures.back (rest_fits c.args.self.now.bytes.now c.in_ok-n.ensures.cases.0 c.args.self.now.fits) }

pub returns-clause-steps : goal.returns-clause-steps
returns-clause-steps c = cut_first c.args.self.now.bytes.now c.in_ok-n.ensures.cases.0 c.split_at.ensures.front c.split_at.ensures.back

pub returns-clause-goes : goal.returns-clause-goes
returns-clause-goes c =
    let e = ap length (cut_first c.args.self.now.bytes.now c.in_ok-n.ensures.cases.0 c.split_at.ensures.front c.split_at.ensures.back) in
    record { on = λ f. (tt, tt, omega arith); keeps = tt; rests = λ f. tt }
