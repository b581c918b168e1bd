-- `lines::hex::is_hex` meets its contract: an even number of digits are pairs of them, and an odd number are none. Assumes nothing.
use borrow.Author.Tests.{tests, ne_eqb}
use mathlib.Core.Path.{◌∙◌}
use Rattle.std.proofs.Common.{rules}
use Rattle.std.proofs.lemmas.Iterator.{YieldsList-from_slice}
use Rattle.std.proofs.lemmas.Iterator.Search.{all_from_yields_List}
use Rattle.lines.specs.Hex.{is_digit}
use Rattle.lines.proofs.HexLaws.{hexed_even, hexed_odd}
use Rattle.lines.proofs.hex.is_hex.Goals as goal

pub returns-then-s-eq0 : goal.returns-then-s-eq0
returns-then-s-eq0 c = all_from_yields_List is_digit _ _ _ c.all.ensures.ran (YieldsList-from_slice c.args.s.now cc) (λ x b q k. search (rules, tests)) ∙ hexed_even _ c.if-s-eq0.true

pub returns-else-s-eq0 : goal.returns-else-s-eq0
returns-else-s-eq0 c = ne_eqb _ 0 c.if-s-eq0.false ∙ hexed_odd _ c.if-s-eq0.false
