-- `small_run::run::run_over_store` meets its contract: the write follows the records. Assumes nothing.
use Rattle.small_run.proofs.PutLaws.{put_told}
use Rattle.small_run.proofs.RunLaws.{both_lines}
use Rattle.small_run.proofs.run.run_over_store.Goals as goal

pub saved-requires : goal.saved-requires
saved-requires c =
    let (rs, e) = c.requires.2 in
    ((c.make_edits.ensures.editor rs _ e c.in_ok-to.was).0, (put_told (c.make_edits.ensures.put rs e) c.in_ok-to.was).within)

pub returns : goal.returns
returns c =
    λ rs e.
    both_lines (put_told (c.make_edits.ensures.put rs e) c.in_ok-to.was) _ _ (c.make_edits.ensures.editor rs _ e c.in_ok-to.was).1 c.saved.result c.saved.new.out c.saved.ensures.put
