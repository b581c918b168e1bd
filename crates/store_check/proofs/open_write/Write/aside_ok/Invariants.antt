use Rattle.store_check.proofs.ChainLaws.{Linking}
use Rattle.store_check.proofs.open_write.Write.aside_ok.Given as goal

abbrev pub invariant-loop-i : goal.invariant-loop-i
invariant-loop-i l =
    let s = l.self.store in
    Linking s.width s.plens.now s.paths.now s.tlens.now s.trees.now l.self.order.now s.record.aside l.i
