-- `names::neighbour::step` meets its contract: the part that both names share is plain, for the one before is; so the rest decides whether the name is good, and then the first byte that differs. Assumes nothing.
use borrow.Author.Rules.{rules}
use mathlib.Core.Path.{sym, ◌∙◌}
use Rattle.names.proofs.NameLaws.{name_empty, name_long}
use Rattle.names.proofs.StandingLaws.{bad_name_lem, good_rest}
use Rattle.names.proofs.neighbour.step.Goals as goal
use Rattle.names.proofs.neighbour.step.Goals.{then-is_empty-via-then-is_empty, then-is_empty-via-else-is_empty+then-next-gt255}

pub returns-then-is_empty : goal.returns-then-is_empty
returns-then-is_empty c =
    elim c.then-is_empty.branch [
      | then-is_empty-via-then-is_empty w ↦ record { is = bad_name_lem _ _ _ _ (sym (name_empty _ (search rules))) }
      | then-is_empty-via-else-is_empty+then-next-gt255 w ↦ record { is = bad_name_lem _ _ _ _ (sym (name_long _ w.if-next-gt255.true)) }
    ]

pub step_at-requires : goal.step_at-requires
step_at-requires c =
    let pre = c.requires in
    (c.shared-i.ensures, pre, good_rest c.shared-i.ensures pre (search rules) c.if-next-gt255.false c.plain_from.ensures ∙ c.if-plain_from.true)

pub returns-else-plain_from : goal.returns-else-plain_from
returns-else-plain_from c =
    let pre = c.requires in
    record { is = bad_name_lem _ _ _ _ (good_rest c.shared-i.ensures pre (search rules) c.if-next-gt255.false c.plain_from.ensures ∙ c.if-plain_from.false) }
