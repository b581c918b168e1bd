-- `store_check::runs::Runs::is_first` meets its contract: of a free slot nothing is asked. Assumes nothing.
use mathlib.Core.Path.{sym, ap, ◌∙◌}
use mathlib.Core.Bool.{not}
use Rattle.model.proofs.Basics.{no_way}
use Rattle.store_check.proofs.Deciding.{instead}
use Rattle.store_check.proofs.SeenLaws.{among, not_among}
use Rattle.store_check.proofs.runs.Runs.is_first.Goals as goal
use Rattle.store_check.proofs.runs.Runs.is_first.Goals.{then-not-is_set, else-not-is_set}

pub returns-else-is_set : goal.returns-else-is_set
returns-else-is_set c =
    let a = c.args in
    let q = c.run.ensures in
    elim c.if-not-is_set.branch [
      | then-not-is_set w ↦ absurd (no_way (sym (w.value-is ∙ ap not w.if-not-is_set.true) ∙ c.if-is_set.false))
      | else-not-is_set w ↦ instead c.is_new.ensures (λ n. record { first = λ o u j m v r. n j m v (r ∙ sym q) })
          (λ n j m v r. n.first (among a.among a.k _ c.is_set.ensures w.if-not-is_set.false) (not_among a.map a.k _ w.is_set-else-not-is_set.ensures c.requires (sym w.value-is ∙ c.if-is_set.false)) j m v (r ∙ q))
    ]
