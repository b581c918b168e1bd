-- `names_compact::compact::Tree::skip` meets its contract: an entry ends where the next starts, as far behind its start as its length says. Assumes nothing.
use mathlib.Core.Path.{◌≡◌, ap, ◌∙◌}
use Prim.Native.Nat.{ℕ, ◌+◌}
use native.Mathlib.Omega.{arith}
use Rattle.names_compact.specs.Compact.{offset}
use Rattle.names_compact.proofs.CompactLaws.{mark}
use Rattle.names_compact.proofs.compact.Tree.skip.Goals as goal

pub loop-init : goal.loop-init
loop-init c = c.requires.0 ∙ ap (offset c.args.self.width c.args.self.bytes.now) (let q : c.args.i ≡ c.args.i + 0 = omega arith in q)

pub overflow_add-a-in-loop : goal.overflow_add-a-in-loop
overflow_add-a-in-loop c =
    let m = mark _ _ (c.args.i + c.loop.counter) c.loop.a c.args.self.run c.loop.invariant (omega (arith, c.requires.1, c.loop-test.true)) in
    omega (arith, m.room)

pub bounds-self-a : goal.bounds-self-a
bounds-self-a c =
    let m = mark _ _ (c.args.i + c.loop.counter) c.loop.a c.args.self.run c.loop.invariant (omega (arith, c.requires.1, c.loop-test.true)) in
    omega (arith, m.room)

pub overflow_add-a-in-loop-3 : goal.overflow_add-a-in-loop-3
overflow_add-a-in-loop-3 c =
    let m = mark _ _ (c.args.i + c.loop.counter) c.loop.a c.args.self.run c.loop.invariant (omega (arith, c.requires.1, c.loop-test.true)) in
    omega (arith, m.room)

pub loop-preserved : goal.loop-preserved
loop-preserved c =
    let m = mark _ _ (c.args.i + c.loop.counter) c.loop.a c.args.self.run c.loop.invariant (omega (arith, c.requires.1, c.loop-test.true)) in
    let q : c.args.i + c.loop.counter + 1 ≡ c.args.i + (c.loop.counter + 1) = omega arith in
    omega (arith, m.next, ap (offset c.args.self.width c.args.self.bytes.now) q)

pub returns : goal.returns
returns c = c.loop.invariant ∙ ap (λ (n : ℕ). offset c.args.self.width c.args.self.bytes.now (c.args.i + n)) (let q : c.loop.counter ≡ c.args.m = omega (arith, c.loop-test.false, c.loop.auto.counter-end) in q)
