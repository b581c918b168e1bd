-- `small_run::save::saved` meets its contract: the write begins at the root, and its requests follow. Assumes nothing.
use mathlib.Core.Path.{subst}
use Rattle.model.specs.Bytes.{Bytes}
use Rattle.editor.specs.Lent.{lent_in, viewed}
use Rattle.small_run.specs.Puts.{Puts}
use Rattle.small_run.proofs.RecordLaws.{did}
use Rattle.small_run.proofs.SaveLaws.{saved_is}
use borrow.Author.Rules.{rules}
use Rattle.small_run.proofs.save.saved.Goals as goal

pub requests-requires : goal.requests-requires
requests-requires c = ((did c.begin.ensures.done c.requires.0).1.good, search rules, c.requires.1)

pub returns-clause-put : goal.returns-clause-put
returns-clause-put c =
    let a = c.args in
    subst (λ (l : Bytes). Puts a.out.now a.to l c.requests.result c.requests.new.out)
    (saved_is (viewed (lent_in a.s.now a.order.now)) _ (did c.begin.ensures.done c.requires.0).1.is) c.requests.ensures.put
