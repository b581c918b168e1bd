-- `adapter::request::tree_editor_request` meets its contract: slices with room get what is told of the request. Assumes nothing.
use Rattle.editor.specs.Lent.{lent}
use Rattle.adapter_numbers.specs.Asks.{slices}
use Rattle.adapter_numbers.proofs.AskLaws.{asks, reads}
use Rattle.adapter.proofs.request.tree_editor_request.Goals as goal

pub returns : goal.returns
returns c =
    let a = c.args in
    asks (lent a.ed a.plens.now a.paths.now a.tlens.now a.trees.now a.order.now) (slices a.out.now a.path.now a.lens.now) _ _ (record { lens = c.if-lens-lt2.false; path = c.if-path-lt-PATH.false })
    (reads _ _ _ _ _ _ _ _ _ _ _ c.tell_request.ensures c.request.ensures)
