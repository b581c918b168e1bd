-- `small_run::run::run_good_input` meets its contract: a new editor has an empty root. Assumes nothing.
use mathlib.Core.Path.{subst}
use Rattle.model.specs.Bytes.{Bytes}
use Rattle.small_run.specs.Puts.{Puts}
use Rattle.small_run.proofs.RunLaws.{made_empty, output_good}
use borrow.Author.Rules.{rules}
use Rattle.small_run.proofs.run.run_good_input.Goals as goal

pub run_over_store-requires : goal.run_over_store-requires
run_over_store-requires c = ((made_empty c.new.ensures.done (record { plens = search rules; paths = search rules; tlens = search rules; trees = search rules; order = search rules })).0, c.requires.0, c.requires.1)

pub returns : goal.returns
returns c =
    let a = c.args in
    let (rs, e) = c.requires.1 in
    let x = (made_empty c.new.ensures.done (record { plens = search rules; paths = search rules; tlens = search rules; trees = search rules; order = search rules })).1 in
    subst (λ (l : Bytes). Puts a.out.now 0 l c.run_over_store.result c.run_over_store.new.out) (output_good a.input.now rs e _ x) (c.run_over_store.ensures rs e)
