-- `store_check::laid::Laid::write_ok` meets its contract: each test decides a part of what an open write has to be. Assumes nothing.
use Rattle.store_check.proofs.Deciding.{refuses}
use Rattle.store_check.proofs.WrittenLaws.{idle_decides, start_bad, chain_decides}
use Rattle.store_check.proofs.laid.Laid.write_ok.Goals as goal

pub returns-then-closed_ok : goal.returns-then-closed_ok
returns-then-closed_ok c =
    let s = c.args.self.store in
    idle_decides s.width s.record s.plens.now s.paths.now s.tlens.now s.trees.now c.args.order.now c.if-store-eq0.true c.requires.0 (c.closed_ok.ensures.yes c.if-closed_ok.true) c.root_cached.result c.root_cached.ensures

pub returns-then-start_ok : goal.returns-then-start_ok
returns-then-start_ok c =
    let s = c.args.self.store in
    chain_decides s.width s.record s.plens.now s.paths.now s.tlens.now s.trees.now c.args.order.now c.if-store-eq0.false c.requires.0 c.start_ok.result c.start_ok.ensures c.if-start_ok.true
    (c.taken_ok.ensures.yes c.if-not-taken_ok.false) c.chain_ok.result c.chain_ok.ensures

pub returns-else-start_ok : goal.returns-else-start_ok
returns-else-start_ok c =
    let s = c.args.self.store in
    rw c.if-start_ok.false
    (refuses (start_bad s.width s.record s.plens.now s.paths.now s.tlens.now s.trees.now c.args.order.now c.if-store-eq0.false c.requires.0 c.start_ok.result c.start_ok.ensures c.if-start_ok.false))
