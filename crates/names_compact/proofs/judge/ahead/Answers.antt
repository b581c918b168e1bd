-- `names_compact::judge::ahead` meets its contract: numbers of eight bytes are ordered as the bytes are; names as long that begin alike are ordered as any eight bytes are before which they are alike. Assumes nothing.
use native.Mathlib.Omega.{arith}
use borrow.Author.Tests.{ltb-true}
use Rattle.names_compact.proofs.AheadLaws.{ahead_first, heads_alike, ahead_past}
use Rattle.names_compact.proofs.judge.ahead.Goals as goal

pub returns-then-last-head : goal.returns-then-last-head
returns-then-last-head c = λ e. ahead_first c.requires.0 c.requires.1 (λ i. omega (arith, c.type_inv.name i)) (ltb-true _ _ e)

pub unlike-k-requires : goal.unlike-k-requires
unlike-k-requires c = (
  c.requires.0.long,
  omega arith,
  heads_alike c.requires.0 c.requires.1 (λ i. omega (arith, c.type_inv.name i)) (λ i. omega (arith, c.type_inv.prev i)) c.if-last-head.false,
)

pub returns : goal.returns
returns c =
    λ e.
    ahead_past c.requires.0 c.requires.1 (λ i. omega (arith, c.type_inv.name i)) c.unlike-k.result c.unlike-k.ensures.0 c.if-prev-name.false c.unlike-k.ensures.1
    (omega (arith, ltb-true c.word_at.result c.word_at-2.result e, c.word_at.ensures, c.word_at-2.ensures))
