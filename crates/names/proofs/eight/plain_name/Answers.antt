-- `names::eight::plain_name` meets its contract: the parts passed at both ends are plain, and once they meet they are the whole name. Assumes nothing.
use borrow.Author.Rules.{rules}
use Prim.Native.Nat.{◌+◌, ◌-◌, ◌≤◌}
use mathlib.Core.Path.{sym, ◌∙◌}
use lib.ListN.{length}
use Rattle.model.proofs.Basics.{not_true, not_false, and_left, and_right}
use Rattle.names.proofs.EightLaws.{seen_begin, seen_more, seen_end, odd_either}
use Rattle.names.proofs.eight.plain_name.Goals as goal

pub returns-then-s-lt8 : goal.returns-then-s-lt8
returns-then-s-lt8 c = c.plain_from.ensures

pub loop-i-init : goal.loop-i-init
loop-i-init c = seen_begin _ c.if-s-lt8.false

room : (c : goal.In-loop-i) → c.loop-i.i + 8 ≤ length c.args.s.now
room c = c.loop-i.invariant.room c.loop-i-test.true

pub plain_eight-requires : goal.plain_eight-requires
plain_eight-requires c =
    let r = room c in
    search rules

room-2 : (c : goal.After-plain_eight) → c.loop-i.i + 8 ≤ length c.args.s.now
room-2 c = c.loop-i.invariant.room c.loop-i-test.true

pub overflow_sub-s-in-loop-i : goal.overflow_sub-s-in-loop-i
overflow_sub-s-in-loop-i c =
    let r = room-2 c in
    search rules

pub overflow_sub-s-in-loop-i-2 : goal.overflow_sub-s-in-loop-i-2
overflow_sub-s-in-loop-i-2 c =
    let r = room-2 c in
    search rules

pub plain_eight-requires-in-loop-i : goal.plain_eight-requires-in-loop-i
plain_eight-requires-in-loop-i c =
    let r = room-2 c in
    search rules

pub returns-then-not-plain_eight : goal.returns-then-not-plain_eight
returns-then-not-plain_eight c =
    let s = c.args.s.now in
    let i = c.loop-i.i in
    odd_either c.plain_eight.result c.plain_eight-in-loop-i.result s i (length s - 8 - i) c.plain_eight.ensures c.plain_eight-in-loop-i.ensures (not_true _ c.if-not-plain_eight.true-raw)

room-3 : (c : goal.Else-not-plain_eight) → c.loop-i.i + 8 ≤ length c.args.s.now
room-3 c = c.loop-i.invariant.room c.loop-i-test.true

pub overflow_add-i : goal.overflow_add-i
overflow_add-i c =
    let r = room-3 c in
    search rules

pub loop-i-smaller : goal.loop-i-smaller
loop-i-smaller c =
    let r = room-3 c in
    search rules

pub loop-i-preserved : goal.loop-i-preserved
loop-i-preserved c =
    let p = c.plain_eight in
    let q = c.plain_eight-in-loop-i in
    let both = not_false _ c.if-not-plain_eight.false-raw in
    seen_more c.loop-i.invariant c.loop-i-test.true (sym p.ensures ∙ and_left p.result q.result both) (sym q.ensures ∙ and_right p.result q.result both)

pub returns : goal.returns
returns c = seen_end c.loop-i.invariant c.loop-i-test.false
