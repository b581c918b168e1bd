-- `names_compact::compact::Tree::search` meets its contract: each turn is one of the definition's halving, on the same part of the entries, with the place of its first. Assumes nothing.
use Rattle.names_compact.proofs.CompactSearchLaws.{seek_all, seek_low, seek_high, seek_hit, seek_none, seek_moved}
use Rattle.names.specs.Answers.{as_ordering}
use mathlib.Core.Path.{refl, sym, ap, ◌∙◌}
use Prim.Native.Nat.{◌/◌}
use native.Mathlib.Omega.{arith}
use Rattle.names_compact.proofs.compact.Tree.search.Goals as goal

pub loop-len-init : goal.loop-len-init
loop-len-init c = seek_all _ _ _ _ c.count-len.ensures

pub loop-len-preserved-in-Less : goal.loop-len-preserved-in-Less
loop-len-preserved-in-Less c =
    let l = c.loop-len in
    seek_low l.invariant (l.len / 2) c.loop-len-test.true refl (sym (ap as_ordering c.in-Less.is) ∙ c.order_at.ensures)

pub returns-in-Equal : goal.returns-in-Equal
returns-in-Equal c =
    let l = c.loop-len in
    seek_hit l.invariant (l.len / 2) c.loop-len-test.true refl c.skip-middle.result c.skip-middle.ensures (sym (ap as_ordering c.in-Equal.is) ∙ c.order_at.ensures)

pub loop-len-preserved : goal.loop-len-preserved
loop-len-preserved c =
    let l = c.loop-len in
    seek_moved (seek_high l.invariant (l.len / 2) c.loop-len-test.true refl c.skip-at.result c.skip-at.ensures (sym (ap as_ordering c.in-Greater.is) ∙ c.order_at.ensures)) _ _ _ (omega arith) (omega arith) refl

pub returns : goal.returns
returns c = seek_none c.loop-len.invariant c.loop-len-test.false
