-- `names_compact::judge::Check::is_behind` meets its contract: numbers of eight bytes are ordered as the bytes are. Assumes nothing.
use mathlib.Core.Path.{sym, subst}
use native.Mathlib.Omega.{arith}
use Rattle.model.specs.Bytes.{Bytes}
use Rattle.names.specs.Check.{Lower}
use Rattle.names_compact.specs.Judge.{Head}
use Rattle.names_compact.proofs.AheadLaws.{ahead_first}
use Rattle.names_compact.proofs.judge.Check.is_behind.Goals as goal

pub returns-then-last-head : goal.returns-then-last-head
returns-then-last-head c = λ e h. ahead_first (c.requires.last h) c.requires.head (λ i. omega (arith, c.type_inv.name i)) c.if-last-head.true

pub ahead-requires : goal.ahead-requires
ahead-requires c = (subst (λ (n : Bytes). Head n c.args.last) (sym c.before-2.ensures.name) (c.requires.last (omega (arith, c.if-self-eq0.false))), c.requires.head)

pub returns : goal.returns
returns c = λ e h. subst (λ (n : Bytes). Lower n c.args.name.now) c.before-2.ensures.name (c.ahead.ensures e)
