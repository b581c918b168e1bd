-- `store_check::open_write::Write::chain_ok` meets its contract: it tests those set aside and then what lies below them. Assumes nothing.
use mathlib.Core.Path.{◌∙◌}
use native.Mathlib.Omega.{arith}
use Rattle.store_check.specs.Lending.{stacked_in}
use Rattle.store_check.proofs.ChainLaws.{chain_none, chain_unlinked, chain_rest}
use Rattle.store_check.proofs.open_write.Write.chain_ok.Goals as goal

pub returns-then-self-eq0 : goal.returns-then-self-eq0
returns-then-self-eq0 c =
    let s = c.args.self.store in
    chain_none s.width s.plens.now s.paths.now s.tlens.now s.trees.now c.args.self.order.now s.record.aside s.record.asked s.record.stacked c.args.self.taken.order_64 (omega (arith, c.args.self.taken.opened.room)) c.if-self-eq0.true

pub returns-then-aside_ok : goal.returns-then-aside_ok
returns-then-aside_ok c =
    let s = c.args.self.store in
    chain_rest s.width s.plens.now s.paths.now s.tlens.now s.trees.now c.args.self.order.now s.record.aside s.record.asked (stacked_in s c.args.self.order.now) c.if-self-eq0.false (omega (arith, c.args.self.taken.order_64, c.args.self.taken.opened.room))
    c.aside_ok.result c.aside_ok.ensures c.if-aside_ok.true c.below_ok.result c.below_ok.ensures

pub returns-else-aside_ok : goal.returns-else-aside_ok
returns-else-aside_ok c =
    let s = c.args.self.store in
    c.if-aside_ok.false
    ∙ chain_unlinked s.width s.plens.now s.paths.now s.tlens.now s.trees.now c.args.self.order.now s.record.aside s.record.asked (stacked_in s c.args.self.order.now) c.if-self-eq0.false (omega (arith, c.args.self.taken.order_64, c.args.self.taken.opened.room))
    c.aside_ok.result c.aside_ok.ensures c.if-aside_ok.false
