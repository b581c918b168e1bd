-- `editor_write::request::request_held` meets its contract: the length of the raw form is compared with the output's, then the tree is written and the cursor set to its path. Assumes nothing.
use mathlib.Core.Path.{ap}
use Rattle.model.specs.Editor.{Held}
use Rattle.store_slots.specs.View.{tree_of}
use Rattle.editor_write.proofs.RequestLaws.{too_short, all_shown, stands_at}
use Rattle.editor_write.proofs.request.request_held.Goals as goal

pub returns-then-out-n : goal.returns-then-out-n
returns-then-out-n c E h r e l =
    let v = c.args.v in
    too_short E h r (tree_of 20 v.tlens.now v.trees.now v.ed.asked) (ap (λ (x : Held). x.held) e) c.args.out.now c.raw_len_of-n.result c.raw_len_of-n.ensures c.if-out-n.true

pub returns : goal.returns
returns c E h r e l =
    let v = c.args.v in
    all_shown E h r (tree_of 20 v.tlens.now v.trees.now v.ed.asked) (ap (λ (x : Held). x.held) e) c.args.out.now c.raw_len_of-n.result c.raw_len_of-n.ensures c.if-out-n.false _ c.put_raw.ensures.out_after _ c.put_raw.ensures.value c.at.result
    (stands_at v.plens.now v.paths.now v.ed.asked h.path c.path_in.result.now c.at.result c.requires.2 l (ap (λ (x : Held). x.path) e) c.path_in.ensures c.at.ensures.2)
